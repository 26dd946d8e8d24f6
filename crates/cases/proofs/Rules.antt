-- Printed by tests/print-cases from rows/Rules.rows: do not edit.
-- The twenty rules: each one at work, rules that close a branch, and what no rule says.
use mathlib.Core.Path.{◌≡◌, refl}
use mathlib.Core.List.{List, [], ◌∷◌, map}
use Rattle.calculus.specs.Calls.{FORMS, FALSE, ended}
use Rattle.cases.proofs.Rows.{Row, run, expected, given}

unfoldable pub table : List Row
table =
    -- rule 1: x in B
    run (0 ∷ 1 ∷ 120 ∷ 2 ∷ 65 ∷ 66 ∷ 1 ∷ 1 ∷ 0 ∷ 1 ∷ []) 12 192 48 (ended FORMS 1 1) (0 ∷ 2 ∷ 0 ∷ []) (1 ∷ 0 ∷ 0 ∷ 1 ∷ [])
    -- rule 2: x not in B
    ∷ run (0 ∷ 1 ∷ 120 ∷ 2 ∷ 65 ∷ 66 ∷ 1 ∷ 2 ∷ 0 ∷ 1 ∷ []) 12 192 48 (ended FORMS 1 1) (0 ∷ 0 ∷ 2 ∷ []) (2 ∷ 0 ∷ 0 ∷ 1 ∷ [])
    -- rule 3: x = y
    ∷ run (0 ∷ 2 ∷ 120 ∷ 121 ∷ 0 ∷ 1 ∷ 3 ∷ 0 ∷ 1 ∷ []) 12 192 48 (ended FORMS 1 1) (0 ∷ 0 ∷ 0 ∷ 0 ∷ 0 ∷ 0 ∷ []) (3 ∷ 0 ∷ 0 ∷ 1 ∷ [])
    -- rule 3 with a constant: x in A, 3 = x
    ∷ run (1 ∷ 3 ∷ 0 ∷ 1 ∷ 120 ∷ 1 ∷ 65 ∷ 2 ∷ 1 ∷ 1 ∷ 0 ∷ 3 ∷ 0 ∷ 1 ∷ []) 12 192 48 (ended FORMS 2 1) (0 ∷ 1 ∷ 0 ∷ 0 ∷ 1 ∷ 0 ∷ []) (1 ∷ 0 ∷ 1 ∷ 1 ∷ 3 ∷ 1 ∷ 0 ∷ 1 ∷ [])
    -- rule 4: x ≠ x
    ∷ run (0 ∷ 1 ∷ 120 ∷ 0 ∷ 1 ∷ 4 ∷ 0 ∷ 0 ∷ []) 12 192 48 (ended FALSE 1 0) [] (4 ∷ 0 ∷ 0 ∷ 0 ∷ [])
    -- rule 5: x in A, A = B
    ∷ run (0 ∷ 1 ∷ 120 ∷ 2 ∷ 65 ∷ 66 ∷ 2 ∷ 1 ∷ 0 ∷ 0 ∷ 5 ∷ 0 ∷ 1 ∷ []) 12 192 48 (ended FORMS 2 1) (0 ∷ 3 ∷ 0 ∷ []) (1 ∷ 0 ∷ 0 ∷ 1 ∷ 5 ∷ 1 ∷ 0 ∷ 1 ∷ [])
    -- rule 6: x in B, A = B
    ∷ run (0 ∷ 1 ∷ 120 ∷ 2 ∷ 65 ∷ 66 ∷ 2 ∷ 1 ∷ 0 ∷ 1 ∷ 5 ∷ 0 ∷ 1 ∷ []) 12 192 48 (ended FORMS 2 1) (0 ∷ 3 ∷ 0 ∷ []) (1 ∷ 0 ∷ 0 ∷ 1 ∷ 6 ∷ 1 ∷ 0 ∷ 1 ∷ [])
    -- rule 7: A ≠ B
    ∷ run (0 ∷ 0 ∷ 2 ∷ 65 ∷ 66 ∷ 1 ∷ 6 ∷ 0 ∷ 1 ∷ []) 12 192 48 (ended FORMS 1 2) (0 ∷ 1 ∷ 2 ∷ 0 ∷ 2 ∷ 1 ∷ []) (7 ∷ 0 ∷ 0 ∷ 2 ∷ [])
    -- rule 7, operands in the other order: B ≠ A
    ∷ run (0 ∷ 0 ∷ 2 ∷ 65 ∷ 66 ∷ 1 ∷ 6 ∷ 1 ∷ 0 ∷ []) 12 192 48 (ended FORMS 1 2) (0 ∷ 2 ∷ 1 ∷ 0 ∷ 1 ∷ 2 ∷ []) (7 ∷ 0 ∷ 0 ∷ 2 ∷ [])
    -- rule 8: x in A, C = A ∪ B
    ∷ run (0 ∷ 1 ∷ 120 ∷ 3 ∷ 65 ∷ 66 ∷ 67 ∷ 2 ∷ 1 ∷ 0 ∷ 0 ∷ 7 ∷ 0 ∷ 1 ∷ 2 ∷ []) 12 192 48 (ended FORMS 2 1) (0 ∷ 5 ∷ 0 ∷ []) (1 ∷ 0 ∷ 0 ∷ 1 ∷ 8 ∷ 1 ∷ 0 ∷ 1 ∷ [])
    -- rule 9: x in B, C = A ∪ B
    ∷ run (0 ∷ 1 ∷ 120 ∷ 3 ∷ 65 ∷ 66 ∷ 67 ∷ 2 ∷ 1 ∷ 0 ∷ 1 ∷ 7 ∷ 0 ∷ 1 ∷ 2 ∷ []) 12 192 48 (ended FORMS 2 1) (0 ∷ 6 ∷ 0 ∷ []) (1 ∷ 0 ∷ 0 ∷ 1 ∷ 9 ∷ 1 ∷ 0 ∷ 1 ∷ [])
    -- rule 10: x in C, x not in A, C = A ∪ B
    ∷ run (0 ∷ 1 ∷ 120 ∷ 3 ∷ 65 ∷ 66 ∷ 67 ∷ 3 ∷ 1 ∷ 0 ∷ 2 ∷ 2 ∷ 0 ∷ 0 ∷ 7 ∷ 0 ∷ 1 ∷ 2 ∷ []) 12 192 48 (ended FORMS 3 1) (0 ∷ 6 ∷ 1 ∷ []) (1 ∷ 0 ∷ 0 ∷ 1 ∷ 2 ∷ 1 ∷ 0 ∷ 1 ∷ 10 ∷ 2 ∷ 0 ∷ 1 ∷ [])
    -- rule 11: x in C, x not in B, C = A ∪ B
    ∷ run (0 ∷ 1 ∷ 120 ∷ 3 ∷ 65 ∷ 66 ∷ 67 ∷ 3 ∷ 1 ∷ 0 ∷ 2 ∷ 2 ∷ 0 ∷ 1 ∷ 7 ∷ 0 ∷ 1 ∷ 2 ∷ []) 12 192 48 (ended FORMS 3 1) (0 ∷ 5 ∷ 2 ∷ []) (1 ∷ 0 ∷ 0 ∷ 1 ∷ 2 ∷ 1 ∷ 0 ∷ 1 ∷ 11 ∷ 2 ∷ 0 ∷ 1 ∷ [])
    -- rule 12, the first operand's case first: x in C, C = B ∪ A
    ∷ run (0 ∷ 1 ∷ 120 ∷ 3 ∷ 65 ∷ 66 ∷ 67 ∷ 2 ∷ 1 ∷ 0 ∷ 2 ∷ 7 ∷ 1 ∷ 0 ∷ 2 ∷ []) 12 192 48 (ended FORMS 2 2) (0 ∷ 6 ∷ 0 ∷ 0 ∷ 5 ∷ 2 ∷ []) (1 ∷ 0 ∷ 0 ∷ 1 ∷ 12 ∷ 1 ∷ 0 ∷ 2 ∷ [])
    -- rule 12, the second child conflicts: x in C, C = A ∪ A
    ∷ run (0 ∷ 1 ∷ 120 ∷ 2 ∷ 65 ∷ 67 ∷ 2 ∷ 1 ∷ 0 ∷ 1 ∷ 7 ∷ 0 ∷ 0 ∷ 1 ∷ []) 12 192 48 (ended FORMS 2 1) (0 ∷ 3 ∷ 0 ∷ []) (1 ∷ 0 ∷ 0 ∷ 1 ∷ 12 ∷ 1 ∷ 0 ∷ 1 ∷ [])
    -- rule 13: x in A, A and B share nothing
    ∷ run (0 ∷ 1 ∷ 120 ∷ 2 ∷ 65 ∷ 66 ∷ 2 ∷ 1 ∷ 0 ∷ 0 ∷ 8 ∷ 0 ∷ 1 ∷ []) 12 192 48 (ended FORMS 2 1) (0 ∷ 1 ∷ 2 ∷ []) (1 ∷ 0 ∷ 0 ∷ 1 ∷ 13 ∷ 1 ∷ 0 ∷ 1 ∷ [])
    -- rule 14: x in B, A and B share nothing
    ∷ run (0 ∷ 1 ∷ 120 ∷ 2 ∷ 65 ∷ 66 ∷ 2 ∷ 1 ∷ 0 ∷ 1 ∷ 8 ∷ 0 ∷ 1 ∷ []) 12 192 48 (ended FORMS 2 1) (0 ∷ 2 ∷ 1 ∷ []) (1 ∷ 0 ∷ 0 ∷ 1 ∷ 14 ∷ 1 ∷ 0 ∷ 1 ∷ [])
    -- rule 15: x in A, A ⊆ B
    ∷ run (0 ∷ 1 ∷ 120 ∷ 2 ∷ 65 ∷ 66 ∷ 2 ∷ 1 ∷ 0 ∷ 0 ∷ 9 ∷ 0 ∷ 1 ∷ []) 12 192 48 (ended FORMS 2 1) (0 ∷ 3 ∷ 0 ∷ []) (1 ∷ 0 ∷ 0 ∷ 1 ∷ 15 ∷ 1 ∷ 0 ∷ 1 ∷ [])
    -- rule 15, operands in the other order: x in B, B ⊆ A
    ∷ run (0 ∷ 1 ∷ 120 ∷ 2 ∷ 65 ∷ 66 ∷ 2 ∷ 1 ∷ 0 ∷ 1 ∷ 9 ∷ 1 ∷ 0 ∷ []) 12 192 48 (ended FORMS 2 1) (0 ∷ 3 ∷ 0 ∷ []) (1 ∷ 0 ∷ 0 ∷ 1 ∷ 15 ∷ 1 ∷ 0 ∷ 1 ∷ [])
    -- rules 16 and 17: x in C, C = A ∩ B
    ∷ run (0 ∷ 1 ∷ 120 ∷ 3 ∷ 65 ∷ 66 ∷ 67 ∷ 2 ∷ 1 ∷ 0 ∷ 2 ∷ 10 ∷ 0 ∷ 1 ∷ 2 ∷ []) 12 192 48 (ended FORMS 3 1) (0 ∷ 7 ∷ 0 ∷ []) (1 ∷ 0 ∷ 0 ∷ 1 ∷ 16 ∷ 1 ∷ 0 ∷ 1 ∷ 17 ∷ 1 ∷ 0 ∷ 1 ∷ [])
    -- rule 16 alone: x in B, x in C, C = A ∩ B
    ∷ run (0 ∷ 1 ∷ 120 ∷ 3 ∷ 65 ∷ 66 ∷ 67 ∷ 3 ∷ 1 ∷ 0 ∷ 1 ∷ 1 ∷ 0 ∷ 2 ∷ 10 ∷ 0 ∷ 1 ∷ 2 ∷ []) 12 192 48 (ended FORMS 3 1) (0 ∷ 7 ∷ 0 ∷ []) (1 ∷ 0 ∷ 0 ∷ 1 ∷ 1 ∷ 1 ∷ 0 ∷ 1 ∷ 16 ∷ 2 ∷ 0 ∷ 1 ∷ [])
    -- rule 17 alone: x in A, x in C, C = A ∩ B
    ∷ run (0 ∷ 1 ∷ 120 ∷ 3 ∷ 65 ∷ 66 ∷ 67 ∷ 3 ∷ 1 ∷ 0 ∷ 0 ∷ 1 ∷ 0 ∷ 2 ∷ 10 ∷ 0 ∷ 1 ∷ 2 ∷ []) 12 192 48 (ended FORMS 3 1) (0 ∷ 7 ∷ 0 ∷ []) (1 ∷ 0 ∷ 0 ∷ 1 ∷ 1 ∷ 1 ∷ 0 ∷ 1 ∷ 17 ∷ 2 ∷ 0 ∷ 1 ∷ [])
    -- rule 18: x in A, x in B, C = A ∩ B
    ∷ run (0 ∷ 1 ∷ 120 ∷ 3 ∷ 65 ∷ 66 ∷ 67 ∷ 3 ∷ 1 ∷ 0 ∷ 0 ∷ 1 ∷ 0 ∷ 1 ∷ 10 ∷ 0 ∷ 1 ∷ 2 ∷ []) 12 192 48 (ended FORMS 3 1) (0 ∷ 7 ∷ 0 ∷ []) (1 ∷ 0 ∷ 0 ∷ 1 ∷ 1 ∷ 1 ∷ 0 ∷ 1 ∷ 18 ∷ 2 ∷ 0 ∷ 1 ∷ [])
    -- rule 19: B = {x}
    ∷ run (0 ∷ 1 ∷ 120 ∷ 2 ∷ 65 ∷ 66 ∷ 1 ∷ 11 ∷ 1 ∷ 1 ∷ 0 ∷ []) 12 192 48 (ended FORMS 1 1) (0 ∷ 2 ∷ 0 ∷ []) (19 ∷ 0 ∷ 0 ∷ 1 ∷ [])
    -- rule 19, an interval: B = [3, 3]
    ∷ run (1 ∷ 3 ∷ 0 ∷ 0 ∷ 2 ∷ 65 ∷ 66 ∷ 1 ∷ 12 ∷ 1 ∷ 0 ∷ 0 ∷ []) 12 192 48 (ended FORMS 1 1) (0 ∷ 2 ∷ 0 ∷ []) (19 ∷ 0 ∷ 0 ∷ 1 ∷ [])
    -- rule 20: y in A, A = {x}
    ∷ run (0 ∷ 2 ∷ 120 ∷ 121 ∷ 1 ∷ 65 ∷ 2 ∷ 1 ∷ 1 ∷ 0 ∷ 11 ∷ 0 ∷ 1 ∷ 0 ∷ []) 12 192 48 (ended FORMS 3 1) (0 ∷ 1 ∷ 0 ∷ 0 ∷ 1 ∷ 0 ∷ []) (1 ∷ 0 ∷ 1 ∷ 1 ∷ 19 ∷ 1 ∷ 0 ∷ 1 ∷ 20 ∷ 1 ∷ 1 ∷ 1 ∷ [])
    -- rule 20, an interval: x in A, A = [3, 3]
    ∷ run (1 ∷ 3 ∷ 0 ∷ 1 ∷ 120 ∷ 1 ∷ 65 ∷ 2 ∷ 1 ∷ 1 ∷ 0 ∷ 12 ∷ 0 ∷ 0 ∷ 0 ∷ []) 12 192 48 (ended FORMS 3 1) (0 ∷ 1 ∷ 0 ∷ 0 ∷ 1 ∷ 0 ∷ []) (1 ∷ 0 ∷ 1 ∷ 1 ∷ 19 ∷ 1 ∷ 0 ∷ 1 ∷ 20 ∷ 1 ∷ 1 ∷ 1 ∷ [])
    -- rule 1 closes: x not in A, x in A
    ∷ run (0 ∷ 1 ∷ 120 ∷ 1 ∷ 65 ∷ 2 ∷ 2 ∷ 0 ∷ 0 ∷ 1 ∷ 0 ∷ 0 ∷ []) 12 192 48 (ended FALSE 2 0) [] (2 ∷ 0 ∷ 0 ∷ 1 ∷ 1 ∷ 1 ∷ 0 ∷ 0 ∷ [])
    -- rule 2 closes: x in A, x not in A
    ∷ run (0 ∷ 1 ∷ 120 ∷ 1 ∷ 65 ∷ 2 ∷ 1 ∷ 0 ∷ 0 ∷ 2 ∷ 0 ∷ 0 ∷ []) 12 192 48 (ended FALSE 2 0) [] (1 ∷ 0 ∷ 0 ∷ 1 ∷ 2 ∷ 1 ∷ 0 ∷ 0 ∷ [])
    -- rule 3 closes, two constants in one class: x = 3, x = 4
    ∷ run (2 ∷ 3 ∷ 0 ∷ 4 ∷ 0 ∷ 1 ∷ 120 ∷ 0 ∷ 2 ∷ 3 ∷ 2 ∷ 0 ∷ 3 ∷ 2 ∷ 1 ∷ []) 12 192 48 (ended FALSE 2 0) [] (3 ∷ 0 ∷ 2 ∷ 1 ∷ 3 ∷ 1 ∷ 0 ∷ 0 ∷ [])
    -- rule 3 closes, in and out of one set: x in A, y not in A, x = y
    ∷ run (0 ∷ 2 ∷ 120 ∷ 121 ∷ 1 ∷ 65 ∷ 3 ∷ 1 ∷ 0 ∷ 0 ∷ 2 ∷ 1 ∷ 0 ∷ 3 ∷ 0 ∷ 1 ∷ []) 12 192 48 (ended FALSE 3 0) [] (1 ∷ 0 ∷ 0 ∷ 1 ∷ 2 ∷ 1 ∷ 1 ∷ 1 ∷ 3 ∷ 2 ∷ 0 ∷ 0 ∷ [])
    -- rule 4 closes, after a merge: x = y, y ≠ x
    ∷ run (0 ∷ 2 ∷ 120 ∷ 121 ∷ 0 ∷ 2 ∷ 3 ∷ 0 ∷ 1 ∷ 4 ∷ 1 ∷ 0 ∷ []) 12 192 48 (ended FALSE 2 0) [] (3 ∷ 0 ∷ 0 ∷ 1 ∷ 4 ∷ 1 ∷ 0 ∷ 0 ∷ [])
    -- rule 5 closes: x in A, x not in B, A = B
    ∷ run (0 ∷ 1 ∷ 120 ∷ 2 ∷ 65 ∷ 66 ∷ 3 ∷ 1 ∷ 0 ∷ 0 ∷ 2 ∷ 0 ∷ 1 ∷ 5 ∷ 0 ∷ 1 ∷ []) 12 192 48 (ended FALSE 3 0) [] (1 ∷ 0 ∷ 0 ∷ 1 ∷ 2 ∷ 1 ∷ 0 ∷ 1 ∷ 5 ∷ 2 ∷ 0 ∷ 0 ∷ [])
    -- rule 6 closes: x in B, x not in A, A = B
    ∷ run (0 ∷ 1 ∷ 120 ∷ 2 ∷ 65 ∷ 66 ∷ 3 ∷ 1 ∷ 0 ∷ 1 ∷ 2 ∷ 0 ∷ 0 ∷ 5 ∷ 0 ∷ 1 ∷ []) 12 192 48 (ended FALSE 3 0) [] (1 ∷ 0 ∷ 0 ∷ 1 ∷ 2 ∷ 1 ∷ 0 ∷ 1 ∷ 6 ∷ 2 ∷ 0 ∷ 0 ∷ [])
    -- rule 8 closes: x in A, x not in C, C = A ∪ B
    ∷ run (0 ∷ 1 ∷ 120 ∷ 3 ∷ 65 ∷ 66 ∷ 67 ∷ 3 ∷ 1 ∷ 0 ∷ 0 ∷ 2 ∷ 0 ∷ 2 ∷ 7 ∷ 0 ∷ 1 ∷ 2 ∷ []) 12 192 48 (ended FALSE 3 0) [] (1 ∷ 0 ∷ 0 ∷ 1 ∷ 2 ∷ 1 ∷ 0 ∷ 1 ∷ 8 ∷ 2 ∷ 0 ∷ 0 ∷ [])
    -- rule 9 closes: x in B, x not in C, C = A ∪ B
    ∷ run (0 ∷ 1 ∷ 120 ∷ 3 ∷ 65 ∷ 66 ∷ 67 ∷ 3 ∷ 1 ∷ 0 ∷ 1 ∷ 2 ∷ 0 ∷ 2 ∷ 7 ∷ 0 ∷ 1 ∷ 2 ∷ []) 12 192 48 (ended FALSE 3 0) [] (1 ∷ 0 ∷ 0 ∷ 1 ∷ 2 ∷ 1 ∷ 0 ∷ 1 ∷ 9 ∷ 2 ∷ 0 ∷ 0 ∷ [])
    -- rule 10 closes: x in C, x not in A, x not in B, C = A ∪ B
    ∷ run (0 ∷ 1 ∷ 120 ∷ 3 ∷ 65 ∷ 66 ∷ 67 ∷ 4 ∷ 1 ∷ 0 ∷ 2 ∷ 2 ∷ 0 ∷ 0 ∷ 2 ∷ 0 ∷ 1 ∷ 7 ∷ 0 ∷ 1 ∷ 2 ∷ []) 12 192 48 (ended FALSE 4 0) [] (1 ∷ 0 ∷ 0 ∷ 1 ∷ 2 ∷ 1 ∷ 0 ∷ 1 ∷ 2 ∷ 2 ∷ 0 ∷ 1 ∷ 10 ∷ 3 ∷ 0 ∷ 0 ∷ [])
    -- rule 13 closes: x in A, x in B, A and B share nothing
    ∷ run (0 ∷ 1 ∷ 120 ∷ 2 ∷ 65 ∷ 66 ∷ 3 ∷ 1 ∷ 0 ∷ 0 ∷ 1 ∷ 0 ∷ 1 ∷ 8 ∷ 0 ∷ 1 ∷ []) 12 192 48 (ended FALSE 3 0) [] (1 ∷ 0 ∷ 0 ∷ 1 ∷ 1 ∷ 1 ∷ 0 ∷ 1 ∷ 13 ∷ 2 ∷ 0 ∷ 0 ∷ [])
    -- rule 13 closes, a set that shares nothing with itself: x in A, A and A share nothing
    ∷ run (0 ∷ 1 ∷ 120 ∷ 1 ∷ 65 ∷ 2 ∷ 1 ∷ 0 ∷ 0 ∷ 8 ∷ 0 ∷ 0 ∷ []) 12 192 48 (ended FALSE 2 0) [] (1 ∷ 0 ∷ 0 ∷ 1 ∷ 13 ∷ 1 ∷ 0 ∷ 0 ∷ [])
    -- rule 15 closes: x in A, x not in B, A ⊆ B
    ∷ run (0 ∷ 1 ∷ 120 ∷ 2 ∷ 65 ∷ 66 ∷ 3 ∷ 1 ∷ 0 ∷ 0 ∷ 2 ∷ 0 ∷ 1 ∷ 9 ∷ 0 ∷ 1 ∷ []) 12 192 48 (ended FALSE 3 0) [] (1 ∷ 0 ∷ 0 ∷ 1 ∷ 2 ∷ 1 ∷ 0 ∷ 1 ∷ 15 ∷ 2 ∷ 0 ∷ 0 ∷ [])
    -- rule 16 closes: x in C, x not in A, C = A ∩ B
    ∷ run (0 ∷ 1 ∷ 120 ∷ 3 ∷ 65 ∷ 66 ∷ 67 ∷ 3 ∷ 1 ∷ 0 ∷ 2 ∷ 2 ∷ 0 ∷ 0 ∷ 10 ∷ 0 ∷ 1 ∷ 2 ∷ []) 12 192 48 (ended FALSE 3 0) [] (1 ∷ 0 ∷ 0 ∷ 1 ∷ 2 ∷ 1 ∷ 0 ∷ 1 ∷ 16 ∷ 2 ∷ 0 ∷ 0 ∷ [])
    -- rule 17 closes: x in C, x not in B, C = A ∩ B
    ∷ run (0 ∷ 1 ∷ 120 ∷ 3 ∷ 65 ∷ 66 ∷ 67 ∷ 3 ∷ 1 ∷ 0 ∷ 2 ∷ 2 ∷ 0 ∷ 1 ∷ 10 ∷ 0 ∷ 1 ∷ 2 ∷ []) 12 192 48 (ended FALSE 4 0) [] (1 ∷ 0 ∷ 0 ∷ 1 ∷ 2 ∷ 1 ∷ 0 ∷ 1 ∷ 16 ∷ 2 ∷ 0 ∷ 1 ∷ 17 ∷ 2 ∷ 0 ∷ 0 ∷ [])
    -- rule 18 closes: x in A, x in B, x not in C, C = A ∩ B
    ∷ run (0 ∷ 1 ∷ 120 ∷ 3 ∷ 65 ∷ 66 ∷ 67 ∷ 4 ∷ 1 ∷ 0 ∷ 0 ∷ 1 ∷ 0 ∷ 1 ∷ 2 ∷ 0 ∷ 2 ∷ 10 ∷ 0 ∷ 1 ∷ 2 ∷ []) 12 192 48 (ended FALSE 4 0) [] (1 ∷ 0 ∷ 0 ∷ 1 ∷ 1 ∷ 1 ∷ 0 ∷ 1 ∷ 2 ∷ 2 ∷ 0 ∷ 1 ∷ 18 ∷ 3 ∷ 0 ∷ 0 ∷ [])
    -- rule 19 closes: x not in A, A = {x}
    ∷ run (0 ∷ 1 ∷ 120 ∷ 1 ∷ 65 ∷ 2 ∷ 2 ∷ 0 ∷ 0 ∷ 11 ∷ 0 ∷ 1 ∷ 0 ∷ []) 12 192 48 (ended FALSE 2 0) [] (2 ∷ 0 ∷ 0 ∷ 1 ∷ 19 ∷ 1 ∷ 0 ∷ 0 ∷ [])
    -- rule 20 closes, its only child conflicts: 4 in A, A = {3}
    ∷ run (2 ∷ 3 ∷ 0 ∷ 4 ∷ 0 ∷ 0 ∷ 1 ∷ 65 ∷ 2 ∷ 1 ∷ 1 ∷ 0 ∷ 11 ∷ 0 ∷ 1 ∷ 0 ∷ []) 12 192 48 (ended FALSE 3 0) [] (1 ∷ 0 ∷ 1 ∷ 1 ∷ 19 ∷ 1 ∷ 0 ∷ 1 ∷ 20 ∷ 1 ∷ 1 ∷ 0 ∷ [])
    -- rule 20 closes, no entry: x in A, A = [4, 3]
    ∷ run (2 ∷ 3 ∷ 0 ∷ 4 ∷ 0 ∷ 1 ∷ 120 ∷ 1 ∷ 65 ∷ 2 ∷ 1 ∷ 2 ∷ 0 ∷ 12 ∷ 0 ∷ 1 ∷ 0 ∷ []) 12 192 48 (ended FALSE 2 0) [] (1 ∷ 0 ∷ 2 ∷ 1 ∷ 20 ∷ 1 ∷ 2 ∷ 0 ∷ [])
    -- nothing applies: x = x
    ∷ run (0 ∷ 1 ∷ 120 ∷ 0 ∷ 1 ∷ 3 ∷ 0 ∷ 0 ∷ []) 12 192 48 (ended FORMS 0 1) (0 ∷ 0 ∷ 0 ∷ []) []
    -- a known fact is not asserted again: x in A, x in A, A = {x}
    ∷ run (0 ∷ 1 ∷ 120 ∷ 1 ∷ 65 ∷ 3 ∷ 1 ∷ 0 ∷ 0 ∷ 1 ∷ 0 ∷ 0 ∷ 11 ∷ 0 ∷ 1 ∷ 0 ∷ []) 12 192 48 (ended FORMS 1 1) (0 ∷ 1 ∷ 0 ∷ []) (1 ∷ 0 ∷ 0 ∷ 1 ∷ [])
    -- no rule for out of A or out of B where A = B: x not in A, y not in B, A = B
    ∷ run (0 ∷ 2 ∷ 120 ∷ 121 ∷ 2 ∷ 65 ∷ 66 ∷ 3 ∷ 2 ∷ 0 ∷ 0 ∷ 2 ∷ 1 ∷ 1 ∷ 5 ∷ 0 ∷ 1 ∷ []) 12 192 48 (ended FORMS 2 1) (0 ∷ 0 ∷ 1 ∷ 1 ∷ 0 ∷ 2 ∷ []) (2 ∷ 0 ∷ 0 ∷ 1 ∷ 2 ∷ 1 ∷ 1 ∷ 1 ∷ [])
    -- no rule for out of C, of A or of B where C = A ∪ B: x not in C, y not in A, z not in B, C = A ∪ B
    ∷ run (0 ∷ 3 ∷ 120 ∷ 121 ∷ 122 ∷ 3 ∷ 65 ∷ 66 ∷ 67 ∷ 4 ∷ 2 ∷ 0 ∷ 2 ∷ 2 ∷ 1 ∷ 0 ∷ 2 ∷ 2 ∷ 1 ∷ 7 ∷ 0 ∷ 1 ∷ 2 ∷ []) 12 192 48 (ended FORMS 3 1) (0 ∷ 0 ∷ 4 ∷ 1 ∷ 0 ∷ 1 ∷ 2 ∷ 0 ∷ 2 ∷ []) (2 ∷ 0 ∷ 0 ∷ 1 ∷ 2 ∷ 1 ∷ 1 ∷ 1 ∷ 2 ∷ 2 ∷ 2 ∷ 1 ∷ [])
    -- no split for in C and in A, B undecided: x in C, x in A, C = A ∪ B
    ∷ run (0 ∷ 1 ∷ 120 ∷ 3 ∷ 65 ∷ 66 ∷ 67 ∷ 3 ∷ 1 ∷ 0 ∷ 2 ∷ 1 ∷ 0 ∷ 0 ∷ 7 ∷ 0 ∷ 1 ∷ 2 ∷ []) 12 192 48 (ended FORMS 2 1) (0 ∷ 5 ∷ 0 ∷ []) (1 ∷ 0 ∷ 0 ∷ 1 ∷ 1 ∷ 1 ∷ 0 ∷ 1 ∷ [])
    -- no split for in C and in B, A undecided: x in C, x in B, C = A ∪ B
    ∷ run (0 ∷ 1 ∷ 120 ∷ 3 ∷ 65 ∷ 66 ∷ 67 ∷ 3 ∷ 1 ∷ 0 ∷ 2 ∷ 1 ∷ 0 ∷ 1 ∷ 7 ∷ 0 ∷ 1 ∷ 2 ∷ []) 12 192 48 (ended FORMS 2 1) (0 ∷ 6 ∷ 0 ∷ []) (1 ∷ 0 ∷ 0 ∷ 1 ∷ 1 ∷ 1 ∷ 0 ∷ 1 ∷ [])
    -- no split where C is A: x in A, y in B, A = A ∪ B
    ∷ run (0 ∷ 2 ∷ 120 ∷ 121 ∷ 2 ∷ 65 ∷ 66 ∷ 3 ∷ 1 ∷ 0 ∷ 0 ∷ 1 ∷ 1 ∷ 1 ∷ 7 ∷ 0 ∷ 1 ∷ 0 ∷ []) 12 192 48 (ended FORMS 3 1) (0 ∷ 1 ∷ 0 ∷ 1 ∷ 3 ∷ 0 ∷ []) (1 ∷ 0 ∷ 0 ∷ 1 ∷ 1 ∷ 1 ∷ 1 ∷ 1 ∷ 9 ∷ 2 ∷ 1 ∷ 1 ∷ [])
    -- no rule for out of A or out of B where they share nothing: x not in A, y not in B, A and B share nothing
    ∷ run (0 ∷ 2 ∷ 120 ∷ 121 ∷ 2 ∷ 65 ∷ 66 ∷ 3 ∷ 2 ∷ 0 ∷ 0 ∷ 2 ∷ 1 ∷ 1 ∷ 8 ∷ 0 ∷ 1 ∷ []) 12 192 48 (ended FORMS 2 1) (0 ∷ 0 ∷ 1 ∷ 1 ∷ 0 ∷ 2 ∷ []) (2 ∷ 0 ∷ 0 ∷ 1 ∷ 2 ∷ 1 ∷ 1 ∷ 1 ∷ [])
    -- no rule for in B or out of B where A ⊆ B: x in B, y not in B, A ⊆ B
    ∷ run (0 ∷ 2 ∷ 120 ∷ 121 ∷ 2 ∷ 65 ∷ 66 ∷ 3 ∷ 1 ∷ 0 ∷ 1 ∷ 2 ∷ 1 ∷ 1 ∷ 9 ∷ 0 ∷ 1 ∷ []) 12 192 48 (ended FORMS 2 1) (0 ∷ 2 ∷ 0 ∷ 1 ∷ 0 ∷ 2 ∷ []) (1 ∷ 0 ∷ 0 ∷ 1 ∷ 2 ∷ 1 ∷ 1 ∷ 1 ∷ [])
    -- no rule for in A and out of C, for in B, for out of A where C = A ∩ B: x in A, x not in C, y in B, z not in A, C = A ∩ B
    ∷ run (0 ∷ 3 ∷ 120 ∷ 121 ∷ 122 ∷ 3 ∷ 65 ∷ 66 ∷ 67 ∷ 5 ∷ 1 ∷ 0 ∷ 0 ∷ 2 ∷ 0 ∷ 2 ∷ 1 ∷ 1 ∷ 1 ∷ 2 ∷ 2 ∷ 0 ∷ 10 ∷ 0 ∷ 1 ∷ 2 ∷ []) 12 192 48 (ended FORMS 4 1) (0 ∷ 1 ∷ 4 ∷ 1 ∷ 2 ∷ 0 ∷ 2 ∷ 0 ∷ 1 ∷ []) (1 ∷ 0 ∷ 0 ∷ 1 ∷ 2 ∷ 1 ∷ 0 ∷ 1 ∷ 1 ∷ 2 ∷ 1 ∷ 1 ∷ 2 ∷ 3 ∷ 2 ∷ 1 ∷ [])
    -- no rule parts x from 3: x not in A, A = {3}
    ∷ run (1 ∷ 3 ∷ 0 ∷ 1 ∷ 120 ∷ 1 ∷ 65 ∷ 2 ∷ 2 ∷ 1 ∷ 0 ∷ 11 ∷ 0 ∷ 1 ∷ 0 ∷ []) 12 192 48 (ended FORMS 2 1) (0 ∷ 1 ∷ 0 ∷ 1 ∷ 0 ∷ 1 ∷ []) (2 ∷ 0 ∷ 1 ∷ 1 ∷ 19 ∷ 1 ∷ 0 ∷ 1 ∷ [])
    -- x ≠ y drops no child of rule 20: y in A, A = {x}, x ≠ y
    ∷ run (0 ∷ 2 ∷ 120 ∷ 121 ∷ 1 ∷ 65 ∷ 3 ∷ 1 ∷ 1 ∷ 0 ∷ 11 ∷ 0 ∷ 1 ∷ 0 ∷ 4 ∷ 0 ∷ 1 ∷ []) 12 192 48 (ended FALSE 4 0) [] (1 ∷ 0 ∷ 1 ∷ 1 ∷ 19 ∷ 1 ∷ 0 ∷ 1 ∷ 20 ∷ 1 ∷ 1 ∷ 1 ∷ 4 ∷ 2 ∷ 0 ∷ 0 ∷ [])
    -- no rule of an intersection says that what is out of B is out of C: x not in B, C = A ∩ B
    ∷ run (0 ∷ 1 ∷ 120 ∷ 3 ∷ 65 ∷ 66 ∷ 67 ∷ 2 ∷ 2 ∷ 0 ∷ 1 ∷ 10 ∷ 0 ∷ 1 ∷ 2 ∷ []) 12 192 48 (ended FORMS 1 1) (0 ∷ 0 ∷ 2 ∷ []) (2 ∷ 0 ∷ 0 ∷ 1 ∷ [])
    -- nor that what is in B and out of C is out of A: x in B, x not in C, C = A ∩ B
    ∷ run (0 ∷ 1 ∷ 120 ∷ 3 ∷ 65 ∷ 66 ∷ 67 ∷ 3 ∷ 1 ∷ 0 ∷ 1 ∷ 2 ∷ 0 ∷ 2 ∷ 10 ∷ 0 ∷ 1 ∷ 2 ∷ []) 12 192 48 (ended FORMS 2 1) (0 ∷ 2 ∷ 4 ∷ []) (1 ∷ 0 ∷ 0 ∷ 1 ∷ 2 ∷ 1 ∷ 0 ∷ 1 ∷ [])
    -- no rule of a union says that what is out of A and of B is out of C: x not in A, x not in B, C = A ∪ B
    ∷ run (0 ∷ 1 ∷ 120 ∷ 3 ∷ 65 ∷ 66 ∷ 67 ∷ 3 ∷ 2 ∷ 0 ∷ 0 ∷ 2 ∷ 0 ∷ 1 ∷ 7 ∷ 0 ∷ 1 ∷ 2 ∷ []) 12 192 48 (ended FORMS 2 1) (0 ∷ 0 ∷ 3 ∷ []) (2 ∷ 0 ∷ 0 ∷ 1 ∷ 2 ∷ 1 ∷ 0 ∷ 1 ∷ [])
    ∷ []

pub rows_hold : map given table ≡ map expected table
unfolding table given
rows_hold = refl

-- Printed by tests/print-cases from rows/Order.rows: do not edit.
-- The order of work: constraints, rules and roots, propagation before splits, and depth first.
use mathlib.Core.Path.{◌≡◌, refl}
use mathlib.Core.List.{List, [], ◌∷◌, map}
use Rattle.calculus.specs.Calls.{FORMS, FALSE, SPENT, ended}
use Rattle.cases.proofs.Rows.{Row, run, expected, given}

unfoldable pub table : List Row
table =
    -- constraint before rule number, 15 of constraint 0, then 5 of constraint 1: A ⊆ B, A = C, x in A
    run (0 ∷ 1 ∷ 120 ∷ 3 ∷ 65 ∷ 66 ∷ 67 ∷ 3 ∷ 9 ∷ 0 ∷ 1 ∷ 5 ∷ 0 ∷ 2 ∷ 1 ∷ 0 ∷ 0 ∷ []) 12 192 48 (ended FORMS 3 1) (0 ∷ 7 ∷ 0 ∷ []) (1 ∷ 2 ∷ 0 ∷ 1 ∷ 15 ∷ 0 ∷ 0 ∷ 1 ∷ 5 ∷ 1 ∷ 0 ∷ 1 ∷ [])
    -- constraint before rule number, 2 of constraint 0, then 1 of constraint 1: x not in B, x in A
    ∷ run (0 ∷ 1 ∷ 120 ∷ 2 ∷ 65 ∷ 66 ∷ 2 ∷ 2 ∷ 0 ∷ 1 ∷ 1 ∷ 0 ∷ 0 ∷ []) 12 192 48 (ended FORMS 2 1) (0 ∷ 1 ∷ 2 ∷ []) (2 ∷ 0 ∷ 0 ∷ 1 ∷ 1 ∷ 1 ∷ 0 ∷ 1 ∷ [])
    -- constraint before root: y in A, x in A
    ∷ run (0 ∷ 2 ∷ 120 ∷ 121 ∷ 1 ∷ 65 ∷ 2 ∷ 1 ∷ 1 ∷ 0 ∷ 1 ∷ 0 ∷ 0 ∷ []) 12 192 48 (ended FORMS 2 1) (0 ∷ 1 ∷ 0 ∷ 1 ∷ 1 ∷ 0 ∷ []) (1 ∷ 0 ∷ 1 ∷ 1 ∷ 1 ∷ 1 ∷ 0 ∷ 1 ∷ [])
    -- rule number before root, 5 for y, then 6 for x: y in A, x in B, A = B
    ∷ run (0 ∷ 2 ∷ 120 ∷ 121 ∷ 2 ∷ 65 ∷ 66 ∷ 3 ∷ 1 ∷ 1 ∷ 0 ∷ 1 ∷ 0 ∷ 1 ∷ 5 ∷ 0 ∷ 1 ∷ []) 12 192 48 (ended FORMS 4 1) (0 ∷ 3 ∷ 0 ∷ 1 ∷ 3 ∷ 0 ∷ []) (1 ∷ 0 ∷ 1 ∷ 1 ∷ 1 ∷ 1 ∷ 0 ∷ 1 ∷ 5 ∷ 2 ∷ 1 ∷ 1 ∷ 6 ∷ 2 ∷ 0 ∷ 1 ∷ [])
    -- rule number before root, 8 for y, then 9 for x: y in A, x in B, C = A ∪ B
    ∷ run (0 ∷ 2 ∷ 120 ∷ 121 ∷ 3 ∷ 65 ∷ 66 ∷ 67 ∷ 3 ∷ 1 ∷ 1 ∷ 0 ∷ 1 ∷ 0 ∷ 1 ∷ 7 ∷ 0 ∷ 1 ∷ 2 ∷ []) 12 192 48 (ended FORMS 4 1) (0 ∷ 6 ∷ 0 ∷ 1 ∷ 5 ∷ 0 ∷ []) (1 ∷ 0 ∷ 1 ∷ 1 ∷ 1 ∷ 1 ∷ 0 ∷ 1 ∷ 8 ∷ 2 ∷ 1 ∷ 1 ∷ 9 ∷ 2 ∷ 0 ∷ 1 ∷ [])
    -- rule number before root, 9 for y, then 10 for x: y in B, x in C, x not in A, C = A ∪ B
    ∷ run (0 ∷ 2 ∷ 120 ∷ 121 ∷ 3 ∷ 65 ∷ 66 ∷ 67 ∷ 4 ∷ 1 ∷ 1 ∷ 1 ∷ 1 ∷ 0 ∷ 2 ∷ 2 ∷ 0 ∷ 0 ∷ 7 ∷ 0 ∷ 1 ∷ 2 ∷ []) 12 192 48 (ended FORMS 5 1) (0 ∷ 6 ∷ 1 ∷ 1 ∷ 6 ∷ 0 ∷ []) (1 ∷ 0 ∷ 1 ∷ 1 ∷ 1 ∷ 1 ∷ 0 ∷ 1 ∷ 2 ∷ 2 ∷ 0 ∷ 1 ∷ 9 ∷ 3 ∷ 1 ∷ 1 ∷ 10 ∷ 3 ∷ 0 ∷ 1 ∷ [])
    -- rule number before root, 10 for y, then 11 for x: y in C, y not in A, x in C, x not in B, C = A ∪ B
    ∷ run (0 ∷ 2 ∷ 120 ∷ 121 ∷ 3 ∷ 65 ∷ 66 ∷ 67 ∷ 5 ∷ 1 ∷ 1 ∷ 2 ∷ 2 ∷ 1 ∷ 0 ∷ 1 ∷ 0 ∷ 2 ∷ 2 ∷ 0 ∷ 1 ∷ 7 ∷ 0 ∷ 1 ∷ 2 ∷ []) 12 192 48 (ended FORMS 6 1) (0 ∷ 5 ∷ 2 ∷ 1 ∷ 6 ∷ 1 ∷ []) (1 ∷ 0 ∷ 1 ∷ 1 ∷ 2 ∷ 1 ∷ 1 ∷ 1 ∷ 1 ∷ 2 ∷ 0 ∷ 1 ∷ 2 ∷ 3 ∷ 0 ∷ 1 ∷ 10 ∷ 4 ∷ 1 ∷ 1 ∷ 11 ∷ 4 ∷ 0 ∷ 1 ∷ [])
    -- rule number before root, 13 for y, then 14 for x: y in A, x in B, A and B share nothing
    ∷ run (0 ∷ 2 ∷ 120 ∷ 121 ∷ 2 ∷ 65 ∷ 66 ∷ 3 ∷ 1 ∷ 1 ∷ 0 ∷ 1 ∷ 0 ∷ 1 ∷ 8 ∷ 0 ∷ 1 ∷ []) 12 192 48 (ended FORMS 4 1) (0 ∷ 2 ∷ 1 ∷ 1 ∷ 1 ∷ 2 ∷ []) (1 ∷ 0 ∷ 1 ∷ 1 ∷ 1 ∷ 1 ∷ 0 ∷ 1 ∷ 13 ∷ 2 ∷ 1 ∷ 1 ∷ 14 ∷ 2 ∷ 0 ∷ 1 ∷ [])
    -- rule number before root, 16 for y, then 17 for x and y: x in A, x in C, y in C, C = A ∩ B
    ∷ run (0 ∷ 2 ∷ 120 ∷ 121 ∷ 3 ∷ 65 ∷ 66 ∷ 67 ∷ 4 ∷ 1 ∷ 0 ∷ 0 ∷ 1 ∷ 0 ∷ 2 ∷ 1 ∷ 1 ∷ 2 ∷ 10 ∷ 0 ∷ 1 ∷ 2 ∷ []) 12 192 48 (ended FORMS 6 1) (0 ∷ 7 ∷ 0 ∷ 1 ∷ 7 ∷ 0 ∷ []) (1 ∷ 0 ∷ 0 ∷ 1 ∷ 1 ∷ 1 ∷ 0 ∷ 1 ∷ 1 ∷ 2 ∷ 1 ∷ 1 ∷ 16 ∷ 3 ∷ 1 ∷ 1 ∷ 17 ∷ 3 ∷ 0 ∷ 1 ∷ 17 ∷ 3 ∷ 1 ∷ 1 ∷ [])
    -- rule number before root, 17 for y, then 18 for x: y in C, x in A, x in B, C = A ∩ B
    ∷ run (0 ∷ 2 ∷ 120 ∷ 121 ∷ 3 ∷ 65 ∷ 66 ∷ 67 ∷ 4 ∷ 1 ∷ 1 ∷ 2 ∷ 1 ∷ 0 ∷ 0 ∷ 1 ∷ 0 ∷ 1 ∷ 10 ∷ 0 ∷ 1 ∷ 2 ∷ []) 12 192 48 (ended FORMS 6 1) (0 ∷ 7 ∷ 0 ∷ 1 ∷ 7 ∷ 0 ∷ []) (1 ∷ 0 ∷ 1 ∷ 1 ∷ 1 ∷ 1 ∷ 0 ∷ 1 ∷ 1 ∷ 2 ∷ 0 ∷ 1 ∷ 16 ∷ 3 ∷ 1 ∷ 1 ∷ 17 ∷ 3 ∷ 1 ∷ 1 ∷ 18 ∷ 3 ∷ 0 ∷ 1 ∷ [])
    -- roots upward, x before y: y in A, x in A, A ⊆ B
    ∷ run (0 ∷ 2 ∷ 120 ∷ 121 ∷ 2 ∷ 65 ∷ 66 ∷ 3 ∷ 1 ∷ 1 ∷ 0 ∷ 1 ∷ 0 ∷ 0 ∷ 9 ∷ 0 ∷ 1 ∷ []) 12 192 48 (ended FORMS 4 1) (0 ∷ 3 ∷ 0 ∷ 1 ∷ 3 ∷ 0 ∷ []) (1 ∷ 0 ∷ 1 ∷ 1 ∷ 1 ∷ 1 ∷ 0 ∷ 1 ∷ 15 ∷ 2 ∷ 0 ∷ 1 ∷ 15 ∷ 2 ∷ 1 ∷ 1 ∷ [])
    -- the search starts anew after each step: A ⊆ B, x in A, y in A
    ∷ run (0 ∷ 2 ∷ 120 ∷ 121 ∷ 2 ∷ 65 ∷ 66 ∷ 3 ∷ 9 ∷ 0 ∷ 1 ∷ 1 ∷ 0 ∷ 0 ∷ 1 ∷ 1 ∷ 0 ∷ []) 12 192 48 (ended FORMS 4 1) (0 ∷ 3 ∷ 0 ∷ 1 ∷ 3 ∷ 0 ∷ []) (1 ∷ 1 ∷ 0 ∷ 1 ∷ 15 ∷ 0 ∷ 0 ∷ 1 ∷ 1 ∷ 2 ∷ 1 ∷ 1 ∷ 15 ∷ 0 ∷ 1 ∷ 1 ∷ [])
    -- propagation before split, though the split's constraint is lower: A ≠ B, x in A
    ∷ run (0 ∷ 1 ∷ 120 ∷ 2 ∷ 65 ∷ 66 ∷ 2 ∷ 6 ∷ 0 ∷ 1 ∷ 1 ∷ 0 ∷ 0 ∷ []) 12 192 48 (ended FORMS 2 2) (0 ∷ 1 ∷ 0 ∷ 1 ∷ 1 ∷ 2 ∷ 0 ∷ 1 ∷ 0 ∷ 1 ∷ 2 ∷ 1 ∷ []) (1 ∷ 1 ∷ 0 ∷ 1 ∷ 7 ∷ 0 ∷ 1 ∷ 2 ∷ [])
    -- propagation before split, out of A by a later constraint leaves no split: C = A ∪ B, x in C, x not in A
    ∷ run (0 ∷ 1 ∷ 120 ∷ 3 ∷ 65 ∷ 66 ∷ 67 ∷ 3 ∷ 7 ∷ 0 ∷ 1 ∷ 2 ∷ 1 ∷ 0 ∷ 2 ∷ 2 ∷ 0 ∷ 0 ∷ []) 12 192 48 (ended FORMS 3 1) (0 ∷ 6 ∷ 1 ∷ []) (1 ∷ 1 ∷ 0 ∷ 1 ∷ 2 ∷ 2 ∷ 0 ∷ 1 ∷ 10 ∷ 0 ∷ 0 ∷ 1 ∷ [])
    -- rule 19 and rule 1 compete, the constraint decides: A = {x}, x in A
    ∷ run (0 ∷ 1 ∷ 120 ∷ 1 ∷ 65 ∷ 2 ∷ 11 ∷ 0 ∷ 1 ∷ 0 ∷ 1 ∷ 0 ∷ 0 ∷ []) 12 192 48 (ended FORMS 1 1) (0 ∷ 1 ∷ 0 ∷ []) (19 ∷ 0 ∷ 0 ∷ 1 ∷ [])
    -- rule 19 by entry order: A = {z, x, y}
    ∷ run (0 ∷ 3 ∷ 120 ∷ 121 ∷ 122 ∷ 1 ∷ 65 ∷ 1 ∷ 11 ∷ 0 ∷ 3 ∷ 2 ∷ 0 ∷ 1 ∷ []) 12 192 48 (ended FORMS 3 1) (0 ∷ 1 ∷ 0 ∷ 1 ∷ 1 ∷ 0 ∷ 2 ∷ 1 ∷ 0 ∷ []) (19 ∷ 0 ∷ 2 ∷ 1 ∷ 19 ∷ 0 ∷ 0 ∷ 1 ∷ 19 ∷ 0 ∷ 1 ∷ 1 ∷ [])
    -- rule 19 of an interval, from i to j: A = [4, 5]
    ∷ run (3 ∷ 3 ∷ 0 ∷ 4 ∷ 0 ∷ 5 ∷ 0 ∷ 0 ∷ 1 ∷ 65 ∷ 1 ∷ 12 ∷ 0 ∷ 1 ∷ 2 ∷ []) 12 192 48 (ended FORMS 2 1) (0 ∷ 0 ∷ 0 ∷ 1 ∷ 1 ∷ 0 ∷ 2 ∷ 1 ∷ 0 ∷ []) (19 ∷ 0 ∷ 1 ∷ 1 ∷ 19 ∷ 0 ∷ 2 ∷ 1 ∷ [])
    -- rule 19 shows the entry's root: x = y, A = {y}
    ∷ run (0 ∷ 2 ∷ 120 ∷ 121 ∷ 1 ∷ 65 ∷ 2 ∷ 3 ∷ 0 ∷ 1 ∷ 11 ∷ 0 ∷ 1 ∷ 1 ∷ []) 12 192 48 (ended FORMS 2 1) (0 ∷ 1 ∷ 0 ∷ 0 ∷ 1 ∷ 0 ∷ []) (3 ∷ 0 ∷ 0 ∷ 1 ∷ 19 ∷ 1 ∷ 0 ∷ 1 ∷ [])
    -- rule 20's children in entry order: z in A, A = {y, x}
    ∷ run (0 ∷ 3 ∷ 120 ∷ 121 ∷ 122 ∷ 1 ∷ 65 ∷ 2 ∷ 1 ∷ 2 ∷ 0 ∷ 11 ∷ 0 ∷ 2 ∷ 1 ∷ 0 ∷ []) 12 192 48 (ended FORMS 4 2) (0 ∷ 1 ∷ 0 ∷ 1 ∷ 1 ∷ 0 ∷ 1 ∷ 1 ∷ 0 ∷ 0 ∷ 1 ∷ 0 ∷ 1 ∷ 1 ∷ 0 ∷ 0 ∷ 1 ∷ 0 ∷ []) (1 ∷ 0 ∷ 2 ∷ 1 ∷ 19 ∷ 1 ∷ 1 ∷ 1 ∷ 19 ∷ 1 ∷ 0 ∷ 1 ∷ 20 ∷ 1 ∷ 2 ∷ 2 ∷ [])
    -- rule 20's children, a repeated entry counts once: z in A, A = {y, x, y}
    ∷ run (0 ∷ 3 ∷ 120 ∷ 121 ∷ 122 ∷ 1 ∷ 65 ∷ 2 ∷ 1 ∷ 2 ∷ 0 ∷ 11 ∷ 0 ∷ 3 ∷ 1 ∷ 0 ∷ 1 ∷ []) 12 192 48 (ended FORMS 4 2) (0 ∷ 1 ∷ 0 ∷ 1 ∷ 1 ∷ 0 ∷ 1 ∷ 1 ∷ 0 ∷ 0 ∷ 1 ∷ 0 ∷ 1 ∷ 1 ∷ 0 ∷ 0 ∷ 1 ∷ 0 ∷ []) (1 ∷ 0 ∷ 2 ∷ 1 ∷ 19 ∷ 1 ∷ 1 ∷ 1 ∷ 19 ∷ 1 ∷ 0 ∷ 1 ∷ 20 ∷ 1 ∷ 2 ∷ 2 ∷ [])
    -- rule 20's children, a repeated class counts once: x = y, z in A, A = {y, x}
    ∷ run (0 ∷ 3 ∷ 120 ∷ 121 ∷ 122 ∷ 1 ∷ 65 ∷ 3 ∷ 3 ∷ 0 ∷ 1 ∷ 1 ∷ 2 ∷ 0 ∷ 11 ∷ 0 ∷ 2 ∷ 1 ∷ 0 ∷ []) 12 192 48 (ended FORMS 4 1) (0 ∷ 1 ∷ 0 ∷ 0 ∷ 1 ∷ 0 ∷ 0 ∷ 1 ∷ 0 ∷ []) (3 ∷ 0 ∷ 0 ∷ 1 ∷ 1 ∷ 1 ∷ 2 ∷ 1 ∷ 19 ∷ 2 ∷ 0 ∷ 1 ∷ 20 ∷ 2 ∷ 2 ∷ 1 ∷ [])
    -- rule 20's children by a class's first entry, not by its root as entry: a = c, d in A, A = {c, b, a}
    ∷ run (0 ∷ 4 ∷ 97 ∷ 98 ∷ 99 ∷ 100 ∷ 1 ∷ 65 ∷ 3 ∷ 3 ∷ 0 ∷ 2 ∷ 1 ∷ 3 ∷ 0 ∷ 11 ∷ 0 ∷ 3 ∷ 2 ∷ 1 ∷ 0 ∷ []) 12 192 48 (ended FORMS 5 2) (0 ∷ 1 ∷ 0 ∷ 1 ∷ 1 ∷ 0 ∷ 0 ∷ 1 ∷ 0 ∷ 0 ∷ 1 ∷ 0 ∷ 0 ∷ 1 ∷ 0 ∷ 1 ∷ 1 ∷ 0 ∷ 0 ∷ 1 ∷ 0 ∷ 1 ∷ 1 ∷ 0 ∷ []) (3 ∷ 0 ∷ 0 ∷ 1 ∷ 1 ∷ 1 ∷ 3 ∷ 1 ∷ 19 ∷ 2 ∷ 0 ∷ 1 ∷ 19 ∷ 2 ∷ 1 ∷ 1 ∷ 20 ∷ 2 ∷ 3 ∷ 2 ∷ [])
    -- rule 20's children by first entry, not by root: a = c, d in A, A = {b, c}
    ∷ run (0 ∷ 4 ∷ 97 ∷ 98 ∷ 99 ∷ 100 ∷ 1 ∷ 65 ∷ 3 ∷ 3 ∷ 0 ∷ 2 ∷ 1 ∷ 3 ∷ 0 ∷ 11 ∷ 0 ∷ 2 ∷ 1 ∷ 2 ∷ []) 12 192 48 (ended FORMS 5 2) (0 ∷ 1 ∷ 0 ∷ 1 ∷ 1 ∷ 0 ∷ 0 ∷ 1 ∷ 0 ∷ 1 ∷ 1 ∷ 0 ∷ 0 ∷ 1 ∷ 0 ∷ 1 ∷ 1 ∷ 0 ∷ 0 ∷ 1 ∷ 0 ∷ 0 ∷ 1 ∷ 0 ∷ []) (3 ∷ 0 ∷ 0 ∷ 1 ∷ 1 ∷ 1 ∷ 3 ∷ 1 ∷ 19 ∷ 2 ∷ 1 ∷ 1 ∷ 19 ∷ 2 ∷ 0 ∷ 1 ∷ 20 ∷ 2 ∷ 3 ∷ 2 ∷ [])
    -- rule 20, three children: d in A, A = {c, a, b}
    ∷ run (0 ∷ 4 ∷ 97 ∷ 98 ∷ 99 ∷ 100 ∷ 1 ∷ 65 ∷ 2 ∷ 1 ∷ 3 ∷ 0 ∷ 11 ∷ 0 ∷ 3 ∷ 2 ∷ 0 ∷ 1 ∷ []) 12 192 48 (ended FORMS 5 3) (0 ∷ 1 ∷ 0 ∷ 1 ∷ 1 ∷ 0 ∷ 2 ∷ 1 ∷ 0 ∷ 2 ∷ 1 ∷ 0 ∷ 0 ∷ 1 ∷ 0 ∷ 1 ∷ 1 ∷ 0 ∷ 2 ∷ 1 ∷ 0 ∷ 0 ∷ 1 ∷ 0 ∷ 0 ∷ 1 ∷ 0 ∷ 1 ∷ 1 ∷ 0 ∷ 2 ∷ 1 ∷ 0 ∷ 1 ∷ 1 ∷ 0 ∷ []) (1 ∷ 0 ∷ 3 ∷ 1 ∷ 19 ∷ 1 ∷ 2 ∷ 1 ∷ 19 ∷ 1 ∷ 0 ∷ 1 ∷ 19 ∷ 1 ∷ 1 ∷ 1 ∷ 20 ∷ 1 ∷ 3 ∷ 3 ∷ [])
    -- rule 20, the middle one of three children is dropped and not counted: a in B, d not in B, d in A, A = {c, a, b}
    ∷ run (0 ∷ 4 ∷ 97 ∷ 98 ∷ 99 ∷ 100 ∷ 2 ∷ 65 ∷ 66 ∷ 4 ∷ 1 ∷ 0 ∷ 1 ∷ 2 ∷ 3 ∷ 1 ∷ 1 ∷ 3 ∷ 0 ∷ 11 ∷ 0 ∷ 3 ∷ 2 ∷ 0 ∷ 1 ∷ []) 12 192 48 (ended FORMS 7 2) (0 ∷ 3 ∷ 0 ∷ 1 ∷ 1 ∷ 0 ∷ 2 ∷ 1 ∷ 2 ∷ 2 ∷ 1 ∷ 2 ∷ 0 ∷ 3 ∷ 0 ∷ 1 ∷ 1 ∷ 2 ∷ 2 ∷ 1 ∷ 0 ∷ 1 ∷ 1 ∷ 2 ∷ []) (1 ∷ 0 ∷ 0 ∷ 1 ∷ 2 ∷ 1 ∷ 3 ∷ 1 ∷ 1 ∷ 2 ∷ 3 ∷ 1 ∷ 19 ∷ 3 ∷ 2 ∷ 1 ∷ 19 ∷ 3 ∷ 0 ∷ 1 ∷ 19 ∷ 3 ∷ 1 ∷ 1 ∷ 20 ∷ 3 ∷ 3 ∷ 2 ∷ [])
    -- rule 20, a child in and out of B is dropped and not counted: y in B, z not in B, z in A, A = {y, x}
    ∷ run (0 ∷ 3 ∷ 120 ∷ 121 ∷ 122 ∷ 2 ∷ 65 ∷ 66 ∷ 4 ∷ 1 ∷ 1 ∷ 1 ∷ 2 ∷ 2 ∷ 1 ∷ 1 ∷ 2 ∷ 0 ∷ 11 ∷ 0 ∷ 2 ∷ 1 ∷ 0 ∷ []) 12 192 48 (ended FORMS 6 1) (0 ∷ 1 ∷ 2 ∷ 1 ∷ 3 ∷ 0 ∷ 0 ∷ 1 ∷ 2 ∷ []) (1 ∷ 0 ∷ 1 ∷ 1 ∷ 2 ∷ 1 ∷ 2 ∷ 1 ∷ 1 ∷ 2 ∷ 2 ∷ 1 ∷ 19 ∷ 3 ∷ 1 ∷ 1 ∷ 19 ∷ 3 ∷ 0 ∷ 1 ∷ 20 ∷ 3 ∷ 2 ∷ 1 ∷ [])
    -- rule 20, a child of two constants is dropped and not counted: 5 in A, A = {3, x}
    ∷ run (2 ∷ 3 ∷ 0 ∷ 5 ∷ 0 ∷ 1 ∷ 120 ∷ 1 ∷ 65 ∷ 2 ∷ 1 ∷ 1 ∷ 0 ∷ 11 ∷ 0 ∷ 2 ∷ 0 ∷ 2 ∷ []) 12 192 48 (ended FORMS 4 1) (0 ∷ 1 ∷ 0 ∷ 1 ∷ 1 ∷ 0 ∷ 1 ∷ 1 ∷ 0 ∷ []) (1 ∷ 0 ∷ 1 ∷ 1 ∷ 19 ∷ 1 ∷ 0 ∷ 1 ∷ 19 ∷ 1 ∷ 2 ∷ 1 ∷ 20 ∷ 1 ∷ 1 ∷ 1 ∷ [])
    -- rule 20, no child left closes with 0: x in A, x = 4, A = {3}
    ∷ run (2 ∷ 3 ∷ 0 ∷ 4 ∷ 0 ∷ 1 ∷ 120 ∷ 1 ∷ 65 ∷ 3 ∷ 1 ∷ 2 ∷ 0 ∷ 3 ∷ 2 ∷ 1 ∷ 11 ∷ 0 ∷ 1 ∷ 0 ∷ []) 12 192 48 (ended FALSE 4 0) [] (1 ∷ 0 ∷ 2 ∷ 1 ∷ 3 ∷ 1 ∷ 2 ∷ 1 ∷ 19 ∷ 2 ∷ 0 ∷ 1 ∷ 20 ∷ 2 ∷ 1 ∷ 0 ∷ [])
    -- a split without child below a split, then the next child: x in A, x in B, A = [3, 4], B = {4}
    ∷ run (2 ∷ 3 ∷ 0 ∷ 4 ∷ 0 ∷ 1 ∷ 120 ∷ 2 ∷ 65 ∷ 66 ∷ 4 ∷ 1 ∷ 2 ∷ 0 ∷ 1 ∷ 2 ∷ 1 ∷ 12 ∷ 0 ∷ 0 ∷ 1 ∷ 11 ∷ 1 ∷ 1 ∷ 1 ∷ []) 12 192 48 (ended FORMS 7 1) (0 ∷ 1 ∷ 0 ∷ 1 ∷ 3 ∷ 0 ∷ 1 ∷ 3 ∷ 0 ∷ []) (1 ∷ 0 ∷ 2 ∷ 1 ∷ 1 ∷ 1 ∷ 2 ∷ 1 ∷ 19 ∷ 2 ∷ 0 ∷ 1 ∷ 19 ∷ 2 ∷ 1 ∷ 1 ∷ 19 ∷ 3 ∷ 1 ∷ 1 ∷ 20 ∷ 2 ∷ 2 ∷ 2 ∷ 20 ∷ 3 ∷ 0 ∷ 0 ∷ [])
    -- rule 20 after a merge, an entry is in the class already: x = y, x in A, A = {y}
    ∷ run (0 ∷ 2 ∷ 120 ∷ 121 ∷ 1 ∷ 65 ∷ 3 ∷ 3 ∷ 0 ∷ 1 ∷ 1 ∷ 0 ∷ 0 ∷ 11 ∷ 0 ∷ 1 ∷ 1 ∷ []) 12 192 48 (ended FORMS 2 1) (0 ∷ 1 ∷ 0 ∷ 0 ∷ 1 ∷ 0 ∷ []) (3 ∷ 0 ∷ 0 ∷ 1 ∷ 1 ∷ 1 ∷ 0 ∷ 1 ∷ [])
    -- rule 20 after a merge, one step for the class of b and c: b = c, b in A, A = {a}
    ∷ run (0 ∷ 3 ∷ 97 ∷ 98 ∷ 99 ∷ 1 ∷ 65 ∷ 3 ∷ 3 ∷ 1 ∷ 2 ∷ 1 ∷ 1 ∷ 0 ∷ 11 ∷ 0 ∷ 1 ∷ 0 ∷ []) 12 192 48 (ended FORMS 4 1) (0 ∷ 1 ∷ 0 ∷ 0 ∷ 1 ∷ 0 ∷ 0 ∷ 1 ∷ 0 ∷ []) (3 ∷ 0 ∷ 1 ∷ 1 ∷ 1 ∷ 1 ∷ 1 ∷ 1 ∷ 19 ∷ 2 ∷ 0 ∷ 1 ∷ 20 ∷ 2 ∷ 1 ∷ 1 ∷ [])
    -- rule 20 by roots upward: z in A, y in A, A = {x}
    ∷ run (0 ∷ 3 ∷ 120 ∷ 121 ∷ 122 ∷ 1 ∷ 65 ∷ 3 ∷ 1 ∷ 2 ∷ 0 ∷ 1 ∷ 1 ∷ 0 ∷ 11 ∷ 0 ∷ 1 ∷ 0 ∷ []) 12 192 48 (ended FORMS 5 1) (0 ∷ 1 ∷ 0 ∷ 0 ∷ 1 ∷ 0 ∷ 0 ∷ 1 ∷ 0 ∷ []) (1 ∷ 0 ∷ 2 ∷ 1 ∷ 1 ∷ 1 ∷ 1 ∷ 1 ∷ 19 ∷ 2 ∷ 0 ∷ 1 ∷ 20 ∷ 2 ∷ 1 ∷ 1 ∷ 20 ∷ 2 ∷ 2 ∷ 1 ∷ [])
    -- rule 20 where the class concerned has the lower root: x in A, A = {y}
    ∷ run (0 ∷ 2 ∷ 120 ∷ 121 ∷ 1 ∷ 65 ∷ 2 ∷ 1 ∷ 0 ∷ 0 ∷ 11 ∷ 0 ∷ 1 ∷ 1 ∷ []) 12 192 48 (ended FORMS 3 1) (0 ∷ 1 ∷ 0 ∷ 0 ∷ 1 ∷ 0 ∷ []) (1 ∷ 0 ∷ 0 ∷ 1 ∷ 19 ∷ 1 ∷ 1 ∷ 1 ∷ 20 ∷ 1 ∷ 0 ∷ 1 ∷ [])
    -- rule 12 by roots upward, depth first, four solved forms: y in C, x in C, C = A ∪ B
    ∷ run (0 ∷ 2 ∷ 120 ∷ 121 ∷ 3 ∷ 65 ∷ 66 ∷ 67 ∷ 3 ∷ 1 ∷ 1 ∷ 2 ∷ 1 ∷ 0 ∷ 2 ∷ 7 ∷ 0 ∷ 1 ∷ 2 ∷ []) 12 192 48 (ended FORMS 5 4) (0 ∷ 5 ∷ 0 ∷ 1 ∷ 5 ∷ 0 ∷ 0 ∷ 5 ∷ 0 ∷ 1 ∷ 6 ∷ 1 ∷ 0 ∷ 6 ∷ 1 ∷ 1 ∷ 5 ∷ 0 ∷ 0 ∷ 6 ∷ 1 ∷ 1 ∷ 6 ∷ 1 ∷ []) (1 ∷ 0 ∷ 1 ∷ 1 ∷ 1 ∷ 1 ∷ 0 ∷ 1 ∷ 12 ∷ 2 ∷ 0 ∷ 2 ∷ 12 ∷ 2 ∷ 1 ∷ 2 ∷ 12 ∷ 2 ∷ 1 ∷ 2 ∷ [])
    -- depth first, propagation between the splits: C = A ∪ B, x in C, y in C, A ⊆ D
    ∷ run (0 ∷ 2 ∷ 120 ∷ 121 ∷ 4 ∷ 65 ∷ 66 ∷ 67 ∷ 68 ∷ 4 ∷ 7 ∷ 0 ∷ 1 ∷ 2 ∷ 1 ∷ 0 ∷ 2 ∷ 1 ∷ 1 ∷ 2 ∷ 9 ∷ 0 ∷ 3 ∷ []) 12 192 48 (ended FORMS 8 4) (0 ∷ 13 ∷ 0 ∷ 1 ∷ 13 ∷ 0 ∷ 0 ∷ 13 ∷ 0 ∷ 1 ∷ 6 ∷ 1 ∷ 0 ∷ 6 ∷ 1 ∷ 1 ∷ 13 ∷ 0 ∷ 0 ∷ 6 ∷ 1 ∷ 1 ∷ 6 ∷ 1 ∷ []) (1 ∷ 1 ∷ 0 ∷ 1 ∷ 1 ∷ 2 ∷ 1 ∷ 1 ∷ 12 ∷ 0 ∷ 0 ∷ 2 ∷ 15 ∷ 3 ∷ 0 ∷ 1 ∷ 12 ∷ 0 ∷ 1 ∷ 2 ∷ 15 ∷ 3 ∷ 1 ∷ 1 ∷ 12 ∷ 0 ∷ 1 ∷ 2 ∷ 15 ∷ 3 ∷ 1 ∷ 1 ∷ [])
    -- two witnesses in the order of the constraints, depth first: A ≠ B, A ≠ B
    ∷ run (0 ∷ 0 ∷ 2 ∷ 65 ∷ 66 ∷ 2 ∷ 6 ∷ 0 ∷ 1 ∷ 6 ∷ 0 ∷ 1 ∷ []) 12 192 48 (ended FORMS 3 4) (0 ∷ 1 ∷ 2 ∷ 1 ∷ 1 ∷ 2 ∷ 0 ∷ 1 ∷ 2 ∷ 1 ∷ 2 ∷ 1 ∷ 0 ∷ 2 ∷ 1 ∷ 1 ∷ 1 ∷ 2 ∷ 0 ∷ 2 ∷ 1 ∷ 1 ∷ 2 ∷ 1 ∷ []) (7 ∷ 0 ∷ 0 ∷ 2 ∷ 7 ∷ 1 ∷ 1 ∷ 2 ∷ 7 ∷ 1 ∷ 1 ∷ 2 ∷ [])
    -- splits by constraint, not by rule number; a witness is merged: A = {x}, A ≠ B, y in A
    ∷ run (0 ∷ 2 ∷ 120 ∷ 121 ∷ 2 ∷ 65 ∷ 66 ∷ 3 ∷ 11 ∷ 0 ∷ 1 ∷ 0 ∷ 6 ∷ 0 ∷ 1 ∷ 1 ∷ 1 ∷ 0 ∷ []) 12 192 48 (ended FORMS 5 2) (0 ∷ 1 ∷ 2 ∷ 0 ∷ 1 ∷ 2 ∷ 0 ∷ 1 ∷ 2 ∷ 0 ∷ 1 ∷ 0 ∷ 0 ∷ 1 ∷ 0 ∷ 2 ∷ 2 ∷ 1 ∷ []) (19 ∷ 0 ∷ 0 ∷ 1 ∷ 1 ∷ 2 ∷ 1 ∷ 1 ∷ 20 ∷ 0 ∷ 1 ∷ 1 ∷ 7 ∷ 1 ∷ 2 ∷ 2 ∷ 20 ∷ 0 ∷ 2 ∷ 1 ∷ [])
    -- splits by constraint, rule 12 of constraint 0 before rule 7 of constraint 1: C = A ∪ B, A ≠ A, x in C
    ∷ run (0 ∷ 1 ∷ 120 ∷ 3 ∷ 65 ∷ 66 ∷ 67 ∷ 3 ∷ 7 ∷ 0 ∷ 1 ∷ 2 ∷ 6 ∷ 0 ∷ 0 ∷ 1 ∷ 0 ∷ 2 ∷ []) 12 192 48 (ended FALSE 4 0) [] (1 ∷ 2 ∷ 0 ∷ 1 ∷ 12 ∷ 0 ∷ 0 ∷ 2 ∷ 7 ∷ 1 ∷ 1 ∷ 0 ∷ 7 ∷ 1 ∷ 1 ∷ 0 ∷ [])
    -- the same record twice: A = {x, y}, B = {x}, u in A, y in B
    ∷ run (0 ∷ 3 ∷ 117 ∷ 120 ∷ 121 ∷ 2 ∷ 65 ∷ 66 ∷ 4 ∷ 11 ∷ 0 ∷ 2 ∷ 1 ∷ 2 ∷ 11 ∷ 1 ∷ 1 ∷ 1 ∷ 1 ∷ 0 ∷ 0 ∷ 1 ∷ 2 ∷ 1 ∷ []) 12 192 48 (ended FORMS 8 2) (0 ∷ 3 ∷ 0 ∷ 0 ∷ 3 ∷ 0 ∷ 0 ∷ 3 ∷ 0 ∷ 0 ∷ 3 ∷ 0 ∷ 0 ∷ 3 ∷ 0 ∷ 0 ∷ 3 ∷ 0 ∷ []) (19 ∷ 0 ∷ 1 ∷ 1 ∷ 19 ∷ 0 ∷ 2 ∷ 1 ∷ 19 ∷ 1 ∷ 1 ∷ 1 ∷ 1 ∷ 2 ∷ 0 ∷ 1 ∷ 1 ∷ 3 ∷ 2 ∷ 1 ∷ 20 ∷ 0 ∷ 0 ∷ 2 ∷ 20 ∷ 1 ∷ 2 ∷ 1 ∷ 20 ∷ 1 ∷ 0 ∷ 1 ∷ [])
    -- the root before the step: y = x
    ∷ run (0 ∷ 2 ∷ 120 ∷ 121 ∷ 0 ∷ 1 ∷ 3 ∷ 1 ∷ 0 ∷ []) 12 192 48 (ended FORMS 1 1) (0 ∷ 0 ∷ 0 ∷ 0 ∷ 0 ∷ 0 ∷ []) (3 ∷ 0 ∷ 1 ∷ 1 ∷ [])
    -- the root before the step, of a class of two: y = z, z = x
    ∷ run (0 ∷ 3 ∷ 120 ∷ 121 ∷ 122 ∷ 0 ∷ 2 ∷ 3 ∷ 1 ∷ 2 ∷ 3 ∷ 2 ∷ 0 ∷ []) 12 192 48 (ended FORMS 2 1) (0 ∷ 0 ∷ 0 ∷ 0 ∷ 0 ∷ 0 ∷ 0 ∷ 0 ∷ 0 ∷ []) (3 ∷ 0 ∷ 1 ∷ 1 ∷ 3 ∷ 1 ∷ 1 ∷ 1 ∷ [])
    -- the root, not the term, in rule 1: x = y, y in A
    ∷ run (0 ∷ 2 ∷ 120 ∷ 121 ∷ 1 ∷ 65 ∷ 2 ∷ 3 ∷ 0 ∷ 1 ∷ 1 ∷ 1 ∷ 0 ∷ []) 12 192 48 (ended FORMS 2 1) (0 ∷ 1 ∷ 0 ∷ 0 ∷ 1 ∷ 0 ∷ []) (3 ∷ 0 ∷ 0 ∷ 1 ∷ 1 ∷ 1 ∷ 0 ∷ 1 ∷ [])
    -- the root, not the term, in rule 2: x = y, y not in A
    ∷ run (0 ∷ 2 ∷ 120 ∷ 121 ∷ 1 ∷ 65 ∷ 2 ∷ 3 ∷ 0 ∷ 1 ∷ 2 ∷ 1 ∷ 0 ∷ []) 12 192 48 (ended FORMS 2 1) (0 ∷ 0 ∷ 1 ∷ 0 ∷ 0 ∷ 1 ∷ []) (3 ∷ 0 ∷ 0 ∷ 1 ∷ 2 ∷ 1 ∷ 0 ∷ 1 ∷ [])
    -- the root, not the term, in rule 3: x = y, y = z
    ∷ run (0 ∷ 3 ∷ 120 ∷ 121 ∷ 122 ∷ 0 ∷ 2 ∷ 3 ∷ 0 ∷ 1 ∷ 3 ∷ 1 ∷ 2 ∷ []) 12 192 48 (ended FORMS 2 1) (0 ∷ 0 ∷ 0 ∷ 0 ∷ 0 ∷ 0 ∷ 0 ∷ 0 ∷ 0 ∷ []) (3 ∷ 0 ∷ 0 ∷ 1 ∷ 3 ∷ 1 ∷ 0 ∷ 1 ∷ [])
    -- the root, not the term, in rule 4: y ≠ x, x = y
    ∷ run (0 ∷ 2 ∷ 120 ∷ 121 ∷ 0 ∷ 2 ∷ 4 ∷ 1 ∷ 0 ∷ 3 ∷ 0 ∷ 1 ∷ []) 12 192 48 (ended FALSE 2 0) [] (3 ∷ 1 ∷ 0 ∷ 1 ∷ 4 ∷ 0 ∷ 0 ∷ 0 ∷ [])
    -- a walk of two steps to the root: b = c, a = b, c in A
    ∷ run (0 ∷ 3 ∷ 97 ∷ 98 ∷ 99 ∷ 1 ∷ 65 ∷ 3 ∷ 3 ∷ 1 ∷ 2 ∷ 3 ∷ 0 ∷ 1 ∷ 1 ∷ 2 ∷ 0 ∷ []) 12 192 48 (ended FORMS 3 1) (0 ∷ 1 ∷ 0 ∷ 0 ∷ 1 ∷ 0 ∷ 0 ∷ 1 ∷ 0 ∷ []) (3 ∷ 0 ∷ 1 ∷ 1 ∷ 3 ∷ 1 ∷ 0 ∷ 1 ∷ 1 ∷ 2 ∷ 0 ∷ 1 ∷ [])
    -- merging merges the roots: b in A, b = c, c = a
    ∷ run (0 ∷ 3 ∷ 97 ∷ 98 ∷ 99 ∷ 1 ∷ 65 ∷ 3 ∷ 1 ∷ 1 ∷ 0 ∷ 3 ∷ 1 ∷ 2 ∷ 3 ∷ 2 ∷ 0 ∷ []) 12 192 48 (ended FORMS 3 1) (0 ∷ 1 ∷ 0 ∷ 0 ∷ 1 ∷ 0 ∷ 0 ∷ 1 ∷ 0 ∷ []) (1 ∷ 0 ∷ 1 ∷ 1 ∷ 3 ∷ 1 ∷ 1 ∷ 1 ∷ 3 ∷ 2 ∷ 1 ∷ 1 ∷ [])
    -- merging two classes of two: a = c, b = d, c = d
    ∷ run (0 ∷ 4 ∷ 97 ∷ 98 ∷ 99 ∷ 100 ∷ 0 ∷ 3 ∷ 3 ∷ 0 ∷ 2 ∷ 3 ∷ 1 ∷ 3 ∷ 3 ∷ 2 ∷ 3 ∷ []) 12 192 48 (ended FORMS 3 1) (0 ∷ 0 ∷ 0 ∷ 0 ∷ 0 ∷ 0 ∷ 0 ∷ 0 ∷ 0 ∷ 0 ∷ 0 ∷ 0 ∷ []) (3 ∷ 0 ∷ 0 ∷ 1 ∷ 3 ∷ 1 ∷ 1 ∷ 1 ∷ 3 ∷ 2 ∷ 0 ∷ 1 ∷ [])
    -- two constants meet through variables: x = 3, y = 4, x = y
    ∷ run (2 ∷ 3 ∷ 0 ∷ 4 ∷ 0 ∷ 2 ∷ 120 ∷ 121 ∷ 0 ∷ 3 ∷ 3 ∷ 2 ∷ 0 ∷ 3 ∷ 3 ∷ 1 ∷ 3 ∷ 2 ∷ 3 ∷ []) 12 192 48 (ended FALSE 3 0) [] (3 ∷ 0 ∷ 2 ∷ 1 ∷ 3 ∷ 1 ∷ 3 ∷ 1 ∷ 3 ∷ 2 ∷ 0 ∷ 0 ∷ [])
    -- rule 4 and rule 1 compete, the constraint decides: x in A, x ≠ x
    ∷ run (0 ∷ 1 ∷ 120 ∷ 1 ∷ 65 ∷ 2 ∷ 1 ∷ 0 ∷ 0 ∷ 4 ∷ 0 ∷ 0 ∷ []) 12 192 48 (ended FALSE 2 0) [] (1 ∷ 0 ∷ 0 ∷ 1 ∷ 4 ∷ 1 ∷ 0 ∷ 0 ∷ [])
    -- the same, in the other order: x ≠ x, x in A
    ∷ run (0 ∷ 1 ∷ 120 ∷ 1 ∷ 65 ∷ 2 ∷ 4 ∷ 0 ∷ 0 ∷ 1 ∷ 0 ∷ 0 ∷ []) 12 192 48 (ended FALSE 1 0) [] (4 ∷ 0 ∷ 0 ∷ 0 ∷ [])
    -- splits 20 and 12 compete, the constraint decides: D = {a, b}, C = A ∪ B, x in D, x in C
    ∷ run (0 ∷ 3 ∷ 97 ∷ 98 ∷ 120 ∷ 4 ∷ 65 ∷ 66 ∷ 67 ∷ 68 ∷ 4 ∷ 11 ∷ 3 ∷ 2 ∷ 0 ∷ 1 ∷ 7 ∷ 0 ∷ 1 ∷ 2 ∷ 1 ∷ 2 ∷ 3 ∷ 1 ∷ 2 ∷ 2 ∷ []) 5 192 20 (ended SPENT 5 0) [] (19 ∷ 0 ∷ 0 ∷ 1 ∷ 19 ∷ 0 ∷ 1 ∷ 1 ∷ 1 ∷ 2 ∷ 2 ∷ 1 ∷ 1 ∷ 3 ∷ 2 ∷ 1 ∷ 20 ∷ 0 ∷ 2 ∷ 2 ∷ [])
    -- splits 7 and 12 compete, the constraint decides: A ≠ B, C = A ∪ B, x in C
    ∷ run (0 ∷ 1 ∷ 120 ∷ 3 ∷ 65 ∷ 66 ∷ 67 ∷ 3 ∷ 6 ∷ 0 ∷ 1 ∷ 7 ∷ 0 ∷ 1 ∷ 2 ∷ 1 ∷ 0 ∷ 2 ∷ []) 2 192 8 (ended SPENT 2 0) [] (1 ∷ 2 ∷ 0 ∷ 1 ∷ 7 ∷ 0 ∷ 1 ∷ 2 ∷ [])
    -- splits 7 and 20 compete, the constraint decides: A ≠ B, C = {a, b}, x in C
    ∷ run (0 ∷ 3 ∷ 97 ∷ 98 ∷ 120 ∷ 3 ∷ 65 ∷ 66 ∷ 67 ∷ 3 ∷ 6 ∷ 0 ∷ 1 ∷ 11 ∷ 2 ∷ 2 ∷ 0 ∷ 1 ∷ 1 ∷ 2 ∷ 2 ∷ []) 4 192 16 (ended SPENT 4 0) [] (19 ∷ 1 ∷ 0 ∷ 1 ∷ 19 ∷ 1 ∷ 1 ∷ 1 ∷ 1 ∷ 2 ∷ 2 ∷ 1 ∷ 7 ∷ 0 ∷ 3 ∷ 2 ∷ [])
    ∷ []

pub rows_hold : map given table ≡ map expected table
unfolding table given
rows_hold = refl

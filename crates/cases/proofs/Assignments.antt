-- Printed by tests/print-cases from rows/Assignments.rows: do not edit.
-- The assignment check: each kind of constraint holds and fails, and the lowest that fails.
use mathlib.Core.Path.{◌≡◌, refl}
use mathlib.Core.List.{List, [], ◌∷◌, map}
use Rattle.calculus.specs.Calls.{HOLDS, FAILS}
use Rattle.cases.proofs.Rows.{Row, check, expected, given}

unfoldable pub table : List Row
table =
    -- kind 1 holds: x in A; x = 5, A = {5}
    check (0 ∷ 1 ∷ 120 ∷ 1 ∷ 65 ∷ 1 ∷ 1 ∷ 0 ∷ 0 ∷ []) (1 ∷ 5 ∷ 0 ∷ 1 ∷ 5 ∷ 0 ∷ []) HOLDS
    -- kind 1 fails: x in A; x = 5, A = {4, 6}
    ∷ check (0 ∷ 1 ∷ 120 ∷ 1 ∷ 65 ∷ 1 ∷ 1 ∷ 0 ∷ 0 ∷ []) (1 ∷ 5 ∷ 0 ∷ 2 ∷ 4 ∷ 0 ∷ 6 ∷ 0 ∷ []) (FAILS 0)
    -- kind 2 holds: x not in A; x = 5, A = {4, 6}
    ∷ check (0 ∷ 1 ∷ 120 ∷ 1 ∷ 65 ∷ 1 ∷ 2 ∷ 0 ∷ 0 ∷ []) (1 ∷ 5 ∷ 0 ∷ 2 ∷ 4 ∷ 0 ∷ 6 ∷ 0 ∷ []) HOLDS
    -- kind 2 fails: x not in A; x = 5, A = {4, 5}
    ∷ check (0 ∷ 1 ∷ 120 ∷ 1 ∷ 65 ∷ 1 ∷ 2 ∷ 0 ∷ 0 ∷ []) (1 ∷ 5 ∷ 0 ∷ 2 ∷ 4 ∷ 0 ∷ 5 ∷ 0 ∷ []) (FAILS 0)
    -- kind 3 holds: x = y; x = 5, y = 5
    ∷ check (0 ∷ 2 ∷ 120 ∷ 121 ∷ 0 ∷ 1 ∷ 3 ∷ 0 ∷ 1 ∷ []) (2 ∷ 5 ∷ 0 ∷ 5 ∷ 0 ∷ []) HOLDS
    -- kind 3 fails: x = y; x = 5, y = 6
    ∷ check (0 ∷ 2 ∷ 120 ∷ 121 ∷ 0 ∷ 1 ∷ 3 ∷ 0 ∷ 1 ∷ []) (2 ∷ 5 ∷ 0 ∷ 6 ∷ 0 ∷ []) (FAILS 0)
    -- kind 3 fails by the high byte: x = y; x = 5, y = 261
    ∷ check (0 ∷ 2 ∷ 120 ∷ 121 ∷ 0 ∷ 1 ∷ 3 ∷ 0 ∷ 1 ∷ []) (2 ∷ 5 ∷ 0 ∷ 5 ∷ 1 ∷ []) (FAILS 0)
    -- kind 4 holds: x ≠ y; x = 5, y = 6
    ∷ check (0 ∷ 2 ∷ 120 ∷ 121 ∷ 0 ∷ 1 ∷ 4 ∷ 0 ∷ 1 ∷ []) (2 ∷ 5 ∷ 0 ∷ 6 ∷ 0 ∷ []) HOLDS
    -- kind 4 fails: x ≠ y; x = 5, y = 5
    ∷ check (0 ∷ 2 ∷ 120 ∷ 121 ∷ 0 ∷ 1 ∷ 4 ∷ 0 ∷ 1 ∷ []) (2 ∷ 5 ∷ 0 ∷ 5 ∷ 0 ∷ []) (FAILS 0)
    -- kind 5 holds: A = B; A = {1, 2}, B = {1, 2}
    ∷ check (0 ∷ 0 ∷ 2 ∷ 65 ∷ 66 ∷ 1 ∷ 5 ∷ 0 ∷ 1 ∷ []) (0 ∷ 2 ∷ 1 ∷ 0 ∷ 2 ∷ 0 ∷ 2 ∷ 1 ∷ 0 ∷ 2 ∷ 0 ∷ []) HOLDS
    -- kind 5 fails, B has one too many: A = B; A = {1}, B = {1, 2}
    ∷ check (0 ∷ 0 ∷ 2 ∷ 65 ∷ 66 ∷ 1 ∷ 5 ∷ 0 ∷ 1 ∷ []) (0 ∷ 1 ∷ 1 ∷ 0 ∷ 2 ∷ 1 ∷ 0 ∷ 2 ∷ 0 ∷ []) (FAILS 0)
    -- kind 5 fails, A has one too many: A = B; A = {1, 2}, B = {1}
    ∷ check (0 ∷ 0 ∷ 2 ∷ 65 ∷ 66 ∷ 1 ∷ 5 ∷ 0 ∷ 1 ∷ []) (0 ∷ 2 ∷ 1 ∷ 0 ∷ 2 ∷ 0 ∷ 1 ∷ 1 ∷ 0 ∷ []) (FAILS 0)
    -- kind 5 fails, as many, but others: A = B; A = {1}, B = {2}
    ∷ check (0 ∷ 0 ∷ 2 ∷ 65 ∷ 66 ∷ 1 ∷ 5 ∷ 0 ∷ 1 ∷ []) (0 ∷ 1 ∷ 1 ∷ 0 ∷ 1 ∷ 2 ∷ 0 ∷ []) (FAILS 0)
    -- kind 6 holds, B has one more: A ≠ B; A = {1}, B = {1, 2}
    ∷ check (0 ∷ 0 ∷ 2 ∷ 65 ∷ 66 ∷ 1 ∷ 6 ∷ 0 ∷ 1 ∷ []) (0 ∷ 1 ∷ 1 ∷ 0 ∷ 2 ∷ 1 ∷ 0 ∷ 2 ∷ 0 ∷ []) HOLDS
    -- kind 6 holds, A has one more: A ≠ B; A = {1, 2}, B = {1}
    ∷ check (0 ∷ 0 ∷ 2 ∷ 65 ∷ 66 ∷ 1 ∷ 6 ∷ 0 ∷ 1 ∷ []) (0 ∷ 2 ∷ 1 ∷ 0 ∷ 2 ∷ 0 ∷ 1 ∷ 1 ∷ 0 ∷ []) HOLDS
    -- kind 6 fails: A ≠ B; A = {1, 2}, B = {1, 2}
    ∷ check (0 ∷ 0 ∷ 2 ∷ 65 ∷ 66 ∷ 1 ∷ 6 ∷ 0 ∷ 1 ∷ []) (0 ∷ 2 ∷ 1 ∷ 0 ∷ 2 ∷ 0 ∷ 2 ∷ 1 ∷ 0 ∷ 2 ∷ 0 ∷ []) (FAILS 0)
    -- kind 6 fails, both empty: A ≠ B; A = {}, B = {}
    ∷ check (0 ∷ 0 ∷ 2 ∷ 65 ∷ 66 ∷ 1 ∷ 6 ∷ 0 ∷ 1 ∷ []) (0 ∷ 0 ∷ 0 ∷ []) (FAILS 0)
    -- kind 7 holds: C = A ∪ B; A = {1}, B = {2}, C = {1, 2}
    ∷ check (0 ∷ 0 ∷ 3 ∷ 65 ∷ 66 ∷ 67 ∷ 1 ∷ 7 ∷ 0 ∷ 1 ∷ 2 ∷ []) (0 ∷ 1 ∷ 1 ∷ 0 ∷ 1 ∷ 2 ∷ 0 ∷ 2 ∷ 1 ∷ 0 ∷ 2 ∷ 0 ∷ []) HOLDS
    -- kind 7 holds, A and B share one: C = A ∪ B; A = {1, 2}, B = {2, 3}, C = {1, 2, 3}
    ∷ check (0 ∷ 0 ∷ 3 ∷ 65 ∷ 66 ∷ 67 ∷ 1 ∷ 7 ∷ 0 ∷ 1 ∷ 2 ∷ []) (0 ∷ 2 ∷ 1 ∷ 0 ∷ 2 ∷ 0 ∷ 2 ∷ 2 ∷ 0 ∷ 3 ∷ 0 ∷ 3 ∷ 1 ∷ 0 ∷ 2 ∷ 0 ∷ 3 ∷ 0 ∷ []) HOLDS
    -- kind 7 fails, C lacks one of A: C = A ∪ B; A = {1}, B = {2}, C = {2}
    ∷ check (0 ∷ 0 ∷ 3 ∷ 65 ∷ 66 ∷ 67 ∷ 1 ∷ 7 ∷ 0 ∷ 1 ∷ 2 ∷ []) (0 ∷ 1 ∷ 1 ∷ 0 ∷ 1 ∷ 2 ∷ 0 ∷ 1 ∷ 2 ∷ 0 ∷ []) (FAILS 0)
    -- kind 7 fails, C lacks one of B: C = A ∪ B; A = {1}, B = {2}, C = {1}
    ∷ check (0 ∷ 0 ∷ 3 ∷ 65 ∷ 66 ∷ 67 ∷ 1 ∷ 7 ∷ 0 ∷ 1 ∷ 2 ∷ []) (0 ∷ 1 ∷ 1 ∷ 0 ∷ 1 ∷ 2 ∷ 0 ∷ 1 ∷ 1 ∷ 0 ∷ []) (FAILS 0)
    -- kind 7 fails, C has one too many: C = A ∪ B; A = {1}, B = {2}, C = {1, 2, 3}
    ∷ check (0 ∷ 0 ∷ 3 ∷ 65 ∷ 66 ∷ 67 ∷ 1 ∷ 7 ∷ 0 ∷ 1 ∷ 2 ∷ []) (0 ∷ 1 ∷ 1 ∷ 0 ∷ 1 ∷ 2 ∷ 0 ∷ 3 ∷ 1 ∷ 0 ∷ 2 ∷ 0 ∷ 3 ∷ 0 ∷ []) (FAILS 0)
    -- kind 8 holds: A and B share nothing; A = {1, 3}, B = {2, 4}
    ∷ check (0 ∷ 0 ∷ 2 ∷ 65 ∷ 66 ∷ 1 ∷ 8 ∷ 0 ∷ 1 ∷ []) (0 ∷ 2 ∷ 1 ∷ 0 ∷ 3 ∷ 0 ∷ 2 ∷ 2 ∷ 0 ∷ 4 ∷ 0 ∷ []) HOLDS
    -- kind 8 holds, both empty: A and B share nothing; A = {}, B = {}
    ∷ check (0 ∷ 0 ∷ 2 ∷ 65 ∷ 66 ∷ 1 ∷ 8 ∷ 0 ∷ 1 ∷ []) (0 ∷ 0 ∷ 0 ∷ []) HOLDS
    -- kind 8 fails: A and B share nothing; A = {1, 3}, B = {2, 3}
    ∷ check (0 ∷ 0 ∷ 2 ∷ 65 ∷ 66 ∷ 1 ∷ 8 ∷ 0 ∷ 1 ∷ []) (0 ∷ 2 ∷ 1 ∷ 0 ∷ 3 ∷ 0 ∷ 2 ∷ 2 ∷ 0 ∷ 3 ∷ 0 ∷ []) (FAILS 0)
    -- kind 9 holds: A ⊆ B; A = {1}, B = {1, 2}
    ∷ check (0 ∷ 0 ∷ 2 ∷ 65 ∷ 66 ∷ 1 ∷ 9 ∷ 0 ∷ 1 ∷ []) (0 ∷ 1 ∷ 1 ∷ 0 ∷ 2 ∷ 1 ∷ 0 ∷ 2 ∷ 0 ∷ []) HOLDS
    -- kind 9 holds, A and B equal: A ⊆ B; A = {1, 2}, B = {1, 2}
    ∷ check (0 ∷ 0 ∷ 2 ∷ 65 ∷ 66 ∷ 1 ∷ 9 ∷ 0 ∷ 1 ∷ []) (0 ∷ 2 ∷ 1 ∷ 0 ∷ 2 ∷ 0 ∷ 2 ∷ 1 ∷ 0 ∷ 2 ∷ 0 ∷ []) HOLDS
    -- kind 9 holds, A empty: A ⊆ B; A = {}, B = {1}
    ∷ check (0 ∷ 0 ∷ 2 ∷ 65 ∷ 66 ∷ 1 ∷ 9 ∷ 0 ∷ 1 ∷ []) (0 ∷ 0 ∷ 1 ∷ 1 ∷ 0 ∷ []) HOLDS
    -- kind 9 fails: A ⊆ B; A = {1, 2}, B = {1}
    ∷ check (0 ∷ 0 ∷ 2 ∷ 65 ∷ 66 ∷ 1 ∷ 9 ∷ 0 ∷ 1 ∷ []) (0 ∷ 2 ∷ 1 ∷ 0 ∷ 2 ∷ 0 ∷ 1 ∷ 1 ∷ 0 ∷ []) (FAILS 0)
    -- kind 10 holds: C = A ∩ B; A = {1, 2}, B = {2, 3}, C = {2}
    ∷ check (0 ∷ 0 ∷ 3 ∷ 65 ∷ 66 ∷ 67 ∷ 1 ∷ 10 ∷ 0 ∷ 1 ∷ 2 ∷ []) (0 ∷ 2 ∷ 1 ∷ 0 ∷ 2 ∷ 0 ∷ 2 ∷ 2 ∷ 0 ∷ 3 ∷ 0 ∷ 1 ∷ 2 ∷ 0 ∷ []) HOLDS
    -- kind 10 fails, C lacks one: C = A ∩ B; A = {1, 2}, B = {2, 3}, C = {}
    ∷ check (0 ∷ 0 ∷ 3 ∷ 65 ∷ 66 ∷ 67 ∷ 1 ∷ 10 ∷ 0 ∷ 1 ∷ 2 ∷ []) (0 ∷ 2 ∷ 1 ∷ 0 ∷ 2 ∷ 0 ∷ 2 ∷ 2 ∷ 0 ∷ 3 ∷ 0 ∷ 0 ∷ []) (FAILS 0)
    -- kind 10 fails, C has one of A only: C = A ∩ B; A = {1, 2}, B = {2, 3}, C = {1, 2}
    ∷ check (0 ∷ 0 ∷ 3 ∷ 65 ∷ 66 ∷ 67 ∷ 1 ∷ 10 ∷ 0 ∷ 1 ∷ 2 ∷ []) (0 ∷ 2 ∷ 1 ∷ 0 ∷ 2 ∷ 0 ∷ 2 ∷ 2 ∷ 0 ∷ 3 ∷ 0 ∷ 2 ∷ 1 ∷ 0 ∷ 2 ∷ 0 ∷ []) (FAILS 0)
    -- kind 10 fails, C has one of B only: C = A ∩ B; A = {1, 2}, B = {2, 3}, C = {2, 3}
    ∷ check (0 ∷ 0 ∷ 3 ∷ 65 ∷ 66 ∷ 67 ∷ 1 ∷ 10 ∷ 0 ∷ 1 ∷ 2 ∷ []) (0 ∷ 2 ∷ 1 ∷ 0 ∷ 2 ∷ 0 ∷ 2 ∷ 2 ∷ 0 ∷ 3 ∷ 0 ∷ 2 ∷ 2 ∷ 0 ∷ 3 ∷ 0 ∷ []) (FAILS 0)
    -- kind 10 fails, C has one of neither: C = A ∩ B; A = {1, 2}, B = {2, 3}, C = {2, 4}
    ∷ check (0 ∷ 0 ∷ 3 ∷ 65 ∷ 66 ∷ 67 ∷ 1 ∷ 10 ∷ 0 ∷ 1 ∷ 2 ∷ []) (0 ∷ 2 ∷ 1 ∷ 0 ∷ 2 ∷ 0 ∷ 2 ∷ 2 ∷ 0 ∷ 3 ∷ 0 ∷ 2 ∷ 2 ∷ 0 ∷ 4 ∷ 0 ∷ []) (FAILS 0)
    -- kind 11 holds: A = {3, x}; x = 7, A = {3, 7}
    ∷ check (1 ∷ 3 ∷ 0 ∷ 1 ∷ 120 ∷ 1 ∷ 65 ∷ 1 ∷ 11 ∷ 0 ∷ 2 ∷ 0 ∷ 1 ∷ []) (1 ∷ 7 ∷ 0 ∷ 2 ∷ 3 ∷ 0 ∷ 7 ∷ 0 ∷ []) HOLDS
    -- kind 11 holds, two entries of one value: A = {3, x}; x = 3, A = {3}
    ∷ check (1 ∷ 3 ∷ 0 ∷ 1 ∷ 120 ∷ 1 ∷ 65 ∷ 1 ∷ 11 ∷ 0 ∷ 2 ∷ 0 ∷ 1 ∷ []) (1 ∷ 3 ∷ 0 ∷ 1 ∷ 3 ∷ 0 ∷ []) HOLDS
    -- kind 11 fails, A lacks the first entry: A = {3, x}; x = 7, A = {7}
    ∷ check (1 ∷ 3 ∷ 0 ∷ 1 ∷ 120 ∷ 1 ∷ 65 ∷ 1 ∷ 11 ∷ 0 ∷ 2 ∷ 0 ∷ 1 ∷ []) (1 ∷ 7 ∷ 0 ∷ 1 ∷ 7 ∷ 0 ∷ []) (FAILS 0)
    -- kind 11 fails, A lacks the last entry: A = {3, x}; x = 7, A = {3}
    ∷ check (1 ∷ 3 ∷ 0 ∷ 1 ∷ 120 ∷ 1 ∷ 65 ∷ 1 ∷ 11 ∷ 0 ∷ 2 ∷ 0 ∷ 1 ∷ []) (1 ∷ 7 ∷ 0 ∷ 1 ∷ 3 ∷ 0 ∷ []) (FAILS 0)
    -- kind 11 fails, A has one too many: A = {3, x}; x = 7, A = {3, 5, 7}
    ∷ check (1 ∷ 3 ∷ 0 ∷ 1 ∷ 120 ∷ 1 ∷ 65 ∷ 1 ∷ 11 ∷ 0 ∷ 2 ∷ 0 ∷ 1 ∷ []) (1 ∷ 7 ∷ 0 ∷ 3 ∷ 3 ∷ 0 ∷ 5 ∷ 0 ∷ 7 ∷ 0 ∷ []) (FAILS 0)
    -- kind 11 holds, empty list: A = {}; x = 7, A = {}
    ∷ check (0 ∷ 1 ∷ 120 ∷ 1 ∷ 65 ∷ 1 ∷ 11 ∷ 0 ∷ 0 ∷ []) (1 ∷ 7 ∷ 0 ∷ 0 ∷ []) HOLDS
    -- kind 11 fails, empty list, one member: A = {}; x = 7, A = {7}
    ∷ check (0 ∷ 1 ∷ 120 ∷ 1 ∷ 65 ∷ 1 ∷ 11 ∷ 0 ∷ 0 ∷ []) (1 ∷ 7 ∷ 0 ∷ 1 ∷ 7 ∷ 0 ∷ []) (FAILS 0)
    -- kind 12 holds: A = [3, 5]; A = {3, 4, 5}
    ∷ check (3 ∷ 3 ∷ 0 ∷ 4 ∷ 0 ∷ 5 ∷ 0 ∷ 0 ∷ 1 ∷ 65 ∷ 1 ∷ 12 ∷ 0 ∷ 0 ∷ 2 ∷ []) (0 ∷ 3 ∷ 3 ∷ 0 ∷ 4 ∷ 0 ∷ 5 ∷ 0 ∷ []) HOLDS
    -- kind 12 fails, A lacks its second end: A = [3, 5]; A = {3, 4}
    ∷ check (3 ∷ 3 ∷ 0 ∷ 4 ∷ 0 ∷ 5 ∷ 0 ∷ 0 ∷ 1 ∷ 65 ∷ 1 ∷ 12 ∷ 0 ∷ 0 ∷ 2 ∷ []) (0 ∷ 2 ∷ 3 ∷ 0 ∷ 4 ∷ 0 ∷ []) (FAILS 0)
    -- kind 12 fails, A lacks its first end: A = [3, 5]; A = {4, 5}
    ∷ check (3 ∷ 3 ∷ 0 ∷ 4 ∷ 0 ∷ 5 ∷ 0 ∷ 0 ∷ 1 ∷ 65 ∷ 1 ∷ 12 ∷ 0 ∷ 0 ∷ 2 ∷ []) (0 ∷ 2 ∷ 4 ∷ 0 ∷ 5 ∷ 0 ∷ []) (FAILS 0)
    -- kind 12 fails, A lacks the middle: A = [3, 5]; A = {3, 5}
    ∷ check (3 ∷ 3 ∷ 0 ∷ 4 ∷ 0 ∷ 5 ∷ 0 ∷ 0 ∷ 1 ∷ 65 ∷ 1 ∷ 12 ∷ 0 ∷ 0 ∷ 2 ∷ []) (0 ∷ 2 ∷ 3 ∷ 0 ∷ 5 ∷ 0 ∷ []) (FAILS 0)
    -- kind 12 fails, one too many below: A = [3, 5]; A = {2, 3, 4, 5}
    ∷ check (3 ∷ 3 ∷ 0 ∷ 4 ∷ 0 ∷ 5 ∷ 0 ∷ 0 ∷ 1 ∷ 65 ∷ 1 ∷ 12 ∷ 0 ∷ 0 ∷ 2 ∷ []) (0 ∷ 4 ∷ 2 ∷ 0 ∷ 3 ∷ 0 ∷ 4 ∷ 0 ∷ 5 ∷ 0 ∷ []) (FAILS 0)
    -- kind 12 fails, one too many above: A = [3, 5]; A = {3, 4, 5, 6}
    ∷ check (3 ∷ 3 ∷ 0 ∷ 4 ∷ 0 ∷ 5 ∷ 0 ∷ 0 ∷ 1 ∷ 65 ∷ 1 ∷ 12 ∷ 0 ∷ 0 ∷ 2 ∷ []) (0 ∷ 4 ∷ 3 ∷ 0 ∷ 4 ∷ 0 ∷ 5 ∷ 0 ∷ 6 ∷ 0 ∷ []) (FAILS 0)
    -- kind 12 holds, i = j: A = [4, 4]; A = {4}
    ∷ check (2 ∷ 3 ∷ 0 ∷ 4 ∷ 0 ∷ 0 ∷ 1 ∷ 65 ∷ 1 ∷ 12 ∷ 0 ∷ 1 ∷ 1 ∷ []) (0 ∷ 1 ∷ 4 ∷ 0 ∷ []) HOLDS
    -- kind 12 fails, i = j and A empty: A = [4, 4]; A = {}
    ∷ check (2 ∷ 3 ∷ 0 ∷ 4 ∷ 0 ∷ 0 ∷ 1 ∷ 65 ∷ 1 ∷ 12 ∷ 0 ∷ 1 ∷ 1 ∷ []) (0 ∷ 0 ∷ []) (FAILS 0)
    -- kind 12 holds, j < i and A empty: A = [4, 3]; A = {}
    ∷ check (2 ∷ 3 ∷ 0 ∷ 4 ∷ 0 ∷ 0 ∷ 1 ∷ 65 ∷ 1 ∷ 12 ∷ 0 ∷ 1 ∷ 0 ∷ []) (0 ∷ 0 ∷ []) HOLDS
    -- kind 12 fails, j < i and A not empty: A = [4, 3]; A = {3, 4}
    ∷ check (2 ∷ 3 ∷ 0 ∷ 4 ∷ 0 ∷ 0 ∷ 1 ∷ 65 ∷ 1 ∷ 12 ∷ 0 ∷ 1 ∷ 0 ∷ []) (0 ∷ 2 ∷ 3 ∷ 0 ∷ 4 ∷ 0 ∷ []) (FAILS 0)
    -- three constraints hold: x in A, y in A, x = y; x = 5, y = 5, A = {5}
    ∷ check (0 ∷ 2 ∷ 120 ∷ 121 ∷ 1 ∷ 65 ∷ 3 ∷ 1 ∷ 0 ∷ 0 ∷ 1 ∷ 1 ∷ 0 ∷ 3 ∷ 0 ∷ 1 ∷ []) (2 ∷ 5 ∷ 0 ∷ 5 ∷ 0 ∷ 1 ∷ 5 ∷ 0 ∷ []) HOLDS
    -- the lowest of several that fail, 0: x in A, y in A, x = y; x = 5, y = 6, A = {4}
    ∷ check (0 ∷ 2 ∷ 120 ∷ 121 ∷ 1 ∷ 65 ∷ 3 ∷ 1 ∷ 0 ∷ 0 ∷ 1 ∷ 1 ∷ 0 ∷ 3 ∷ 0 ∷ 1 ∷ []) (2 ∷ 5 ∷ 0 ∷ 6 ∷ 0 ∷ 1 ∷ 4 ∷ 0 ∷ []) (FAILS 0)
    -- the lowest of several that fail, 1: x in A, y in A, x = y; x = 5, y = 6, A = {5}
    ∷ check (0 ∷ 2 ∷ 120 ∷ 121 ∷ 1 ∷ 65 ∷ 3 ∷ 1 ∷ 0 ∷ 0 ∷ 1 ∷ 1 ∷ 0 ∷ 3 ∷ 0 ∷ 1 ∷ []) (2 ∷ 5 ∷ 0 ∷ 6 ∷ 0 ∷ 1 ∷ 5 ∷ 0 ∷ []) (FAILS 1)
    -- only the last one fails, 2: x in A, y in A, x = y; x = 5, y = 6, A = {5, 6}
    ∷ check (0 ∷ 2 ∷ 120 ∷ 121 ∷ 1 ∷ 65 ∷ 3 ∷ 1 ∷ 0 ∷ 0 ∷ 1 ∷ 1 ∷ 0 ∷ 3 ∷ 0 ∷ 1 ∷ []) (2 ∷ 5 ∷ 0 ∷ 6 ∷ 0 ∷ 2 ∷ 5 ∷ 0 ∷ 6 ∷ 0 ∷ []) (FAILS 2)
    -- values outside the constants' range: x in A, x ≠ y; x = 32,767, y = −32,768, A = {−32,768, 32,767}
    ∷ check (0 ∷ 2 ∷ 120 ∷ 121 ∷ 1 ∷ 65 ∷ 2 ∷ 1 ∷ 0 ∷ 0 ∷ 4 ∷ 0 ∷ 1 ∷ []) (2 ∷ 255 ∷ 127 ∷ 0 ∷ 128 ∷ 2 ∷ 0 ∷ 128 ∷ 255 ∷ 127 ∷ []) HOLDS
    -- values outside the constants' range, one wrong: x in A, y in A; x = 32,767, y = −32,768, A = {−32,767, 32,767}
    ∷ check (0 ∷ 2 ∷ 120 ∷ 121 ∷ 1 ∷ 65 ∷ 2 ∷ 1 ∷ 0 ∷ 0 ∷ 1 ∷ 1 ∷ 0 ∷ []) (2 ∷ 255 ∷ 127 ∷ 0 ∷ 128 ∷ 2 ∷ 1 ∷ 128 ∷ 255 ∷ 127 ∷ []) (FAILS 1)
    -- a constant has its own value: 3 in A, 3 ≠ x; x = 7, A = {3}
    ∷ check (1 ∷ 3 ∷ 0 ∷ 1 ∷ 120 ∷ 1 ∷ 65 ∷ 2 ∷ 1 ∷ 0 ∷ 0 ∷ 4 ∷ 0 ∷ 1 ∷ []) (1 ∷ 7 ∷ 0 ∷ 1 ∷ 3 ∷ 0 ∷ []) HOLDS
    -- a constant has its own value, not the variable's: 3 in A; x = 7, A = {7}
    ∷ check (1 ∷ 3 ∷ 0 ∷ 1 ∷ 120 ∷ 1 ∷ 65 ∷ 1 ∷ 1 ∷ 0 ∷ 0 ∷ []) (1 ∷ 7 ∷ 0 ∷ 1 ∷ 7 ∷ 0 ∷ []) (FAILS 0)
    -- a free variable may have a constant's value: 3 = x; x = 3
    ∷ check (1 ∷ 3 ∷ 0 ∷ 1 ∷ 120 ∷ 0 ∷ 1 ∷ 3 ∷ 0 ∷ 1 ∷ []) (1 ∷ 3 ∷ 0 ∷ []) HOLDS
    -- values of x and y are not mixed up: x in A, y in B; x = 1, y = 2, A = {1}, B = {2}
    ∷ check (0 ∷ 2 ∷ 120 ∷ 121 ∷ 2 ∷ 65 ∷ 66 ∷ 2 ∷ 1 ∷ 0 ∷ 0 ∷ 1 ∷ 1 ∷ 1 ∷ []) (2 ∷ 1 ∷ 0 ∷ 2 ∷ 0 ∷ 1 ∷ 1 ∷ 0 ∷ 1 ∷ 2 ∷ 0 ∷ []) HOLDS
    -- values of x and y are not mixed up, the other way: x in A, y in B; x = 1, y = 2, A = {2}, B = {1}
    ∷ check (0 ∷ 2 ∷ 120 ∷ 121 ∷ 2 ∷ 65 ∷ 66 ∷ 2 ∷ 1 ∷ 0 ∷ 0 ∷ 1 ∷ 1 ∷ 1 ∷ []) (2 ∷ 1 ∷ 0 ∷ 2 ∷ 0 ∷ 1 ∷ 2 ∷ 0 ∷ 1 ∷ 1 ∷ 0 ∷ []) (FAILS 0)
    -- no constraint, any assignment holds: x = 1, y = −1, A = {−5, 0, 5}
    ∷ check (0 ∷ 2 ∷ 120 ∷ 121 ∷ 1 ∷ 65 ∷ 0 ∷ []) (2 ∷ 1 ∷ 0 ∷ 255 ∷ 255 ∷ 3 ∷ 251 ∷ 255 ∷ 0 ∷ 0 ∷ 5 ∷ 0 ∷ []) HOLDS
    -- a union of a set with itself: B = A ∪ A; A = {1, 2}, B = {1, 2}
    ∷ check (0 ∷ 0 ∷ 2 ∷ 65 ∷ 66 ∷ 1 ∷ 7 ∷ 0 ∷ 0 ∷ 1 ∷ []) (0 ∷ 2 ∷ 1 ∷ 0 ∷ 2 ∷ 0 ∷ 2 ∷ 1 ∷ 0 ∷ 2 ∷ 0 ∷ []) HOLDS
    -- kind 6 has no value for its witness: A ≠ B, x in A; x = 5, A = {5}, B = {}
    ∷ check (0 ∷ 1 ∷ 120 ∷ 2 ∷ 65 ∷ 66 ∷ 2 ∷ 6 ∷ 0 ∷ 1 ∷ 1 ∷ 0 ∷ 0 ∷ []) (1 ∷ 5 ∷ 0 ∷ 1 ∷ 5 ∷ 0 ∷ 0 ∷ []) HOLDS
    ∷ []

pub rows_hold : map given table ≡ map expected table
unfolding table given
rows_hold = refl

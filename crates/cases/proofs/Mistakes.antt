-- Printed by tests/print-cases from rows/Mistakes.rows: do not edit.
-- What trainees' solvers got wrong (document 01), and what trainees believe (the customer's words, quoted).
use mathlib.Core.Path.{◌≡◌, refl}
use mathlib.Core.List.{List, [], ◌∷◌, map}
use lib.IntN.{pos}
use Rattle.calculus.specs.Calls.{FORMS, FALSE, SPENT, NOROOM, refusal, ended, declined, HOLDS}
use Rattle.cases.proofs.Rows.{Row, run, check, model, expected, given}

unfoldable pub table : List Row
table =
    -- nobody merged x and y: no constraint, and nothing is known
    run (0 ∷ 2 ∷ 120 ∷ 121 ∷ 0 ∷ 0 ∷ []) 12 192 48 (ended FORMS 0 1) (0 ∷ 0 ∷ 0 ∷ 1 ∷ 0 ∷ 0 ∷ []) []
    -- nobody merged x and y: only the model parts them
    ∷ model (0 ∷ 2 ∷ 120 ∷ 121 ∷ 0 ∷ 0 ∷ []) (0 ∷ 0 ∷ 0 ∷ 1 ∷ 0 ∷ 0 ∷ []) (record { numbers = pos 32001 ∷ pos 32002 ∷ []; sets = [] })
    -- nobody merged x and y: x ≠ y asserts nothing
    ∷ run (0 ∷ 2 ∷ 120 ∷ 121 ∷ 1 ∷ 65 ∷ 1 ∷ 4 ∷ 0 ∷ 1 ∷ []) 12 192 48 (ended FORMS 0 1) (0 ∷ 0 ∷ 0 ∷ 1 ∷ 0 ∷ 0 ∷ []) []
    -- nobody merged x and y: both are in A, and nothing says that they are one or that they differ
    ∷ run (0 ∷ 2 ∷ 120 ∷ 121 ∷ 1 ∷ 65 ∷ 2 ∷ 1 ∷ 0 ∷ 0 ∷ 1 ∷ 1 ∷ 0 ∷ []) 12 192 48 (ended FORMS 2 1) (0 ∷ 1 ∷ 0 ∷ 1 ∷ 1 ∷ 0 ∷ []) (1 ∷ 0 ∷ 0 ∷ 1 ∷ 1 ∷ 1 ∷ 1 ∷ 1 ∷ [])
    -- nobody merged x and y, for x ≠ y; the later x = y closes
    ∷ run (0 ∷ 2 ∷ 120 ∷ 121 ∷ 0 ∷ 2 ∷ 4 ∷ 0 ∷ 1 ∷ 3 ∷ 0 ∷ 1 ∷ []) 12 192 48 (ended FALSE 2 0) [] (3 ∷ 1 ∷ 0 ∷ 1 ∷ 4 ∷ 0 ∷ 0 ∷ 0 ∷ [])
    -- A = {x} and A = {y} merge x and y
    ∷ run (0 ∷ 2 ∷ 120 ∷ 121 ∷ 1 ∷ 65 ∷ 2 ∷ 11 ∷ 0 ∷ 1 ∷ 0 ∷ 11 ∷ 0 ∷ 1 ∷ 1 ∷ []) 12 192 48 (ended FORMS 3 1) (0 ∷ 1 ∷ 0 ∷ 0 ∷ 1 ∷ 0 ∷ []) (19 ∷ 0 ∷ 0 ∷ 1 ∷ 19 ∷ 1 ∷ 1 ∷ 1 ∷ 20 ∷ 0 ∷ 1 ∷ 1 ∷ [])
    -- nobody merged x and y: z in A, A = {x, y} has both cases
    ∷ run (0 ∷ 3 ∷ 120 ∷ 121 ∷ 122 ∷ 1 ∷ 65 ∷ 2 ∷ 1 ∷ 2 ∷ 0 ∷ 11 ∷ 0 ∷ 2 ∷ 0 ∷ 1 ∷ []) 12 192 48 (ended FORMS 4 2) (0 ∷ 1 ∷ 0 ∷ 1 ∷ 1 ∷ 0 ∷ 0 ∷ 1 ∷ 0 ∷ 0 ∷ 1 ∷ 0 ∷ 1 ∷ 1 ∷ 0 ∷ 1 ∷ 1 ∷ 0 ∷ []) (1 ∷ 0 ∷ 2 ∷ 1 ∷ 19 ∷ 1 ∷ 0 ∷ 1 ∷ 19 ∷ 1 ∷ 1 ∷ 1 ∷ 20 ∷ 1 ∷ 2 ∷ 2 ∷ [])
    -- nobody merged x and y: x in A, y not in A, and each has its own fact
    ∷ run (0 ∷ 2 ∷ 120 ∷ 121 ∷ 1 ∷ 65 ∷ 2 ∷ 1 ∷ 0 ∷ 0 ∷ 2 ∷ 1 ∷ 0 ∷ []) 12 192 48 (ended FORMS 2 1) (0 ∷ 1 ∷ 0 ∷ 1 ∷ 0 ∷ 1 ∷ []) (1 ∷ 0 ∷ 0 ∷ 1 ∷ 2 ∷ 1 ∷ 1 ∷ 1 ∷ [])
    -- a class that loses its root keeps its inside mask: x in A, a = x
    ∷ run (0 ∷ 2 ∷ 97 ∷ 120 ∷ 1 ∷ 65 ∷ 2 ∷ 1 ∷ 1 ∷ 0 ∷ 3 ∷ 0 ∷ 1 ∷ []) 12 192 48 (ended FORMS 2 1) (0 ∷ 1 ∷ 0 ∷ 0 ∷ 1 ∷ 0 ∷ []) (1 ∷ 0 ∷ 1 ∷ 1 ∷ 3 ∷ 1 ∷ 0 ∷ 1 ∷ [])
    -- a class that loses its root keeps its outside mask: x not in A, a = x
    ∷ run (0 ∷ 2 ∷ 97 ∷ 120 ∷ 1 ∷ 65 ∷ 2 ∷ 2 ∷ 1 ∷ 0 ∷ 3 ∷ 0 ∷ 1 ∷ []) 12 192 48 (ended FORMS 2 1) (0 ∷ 0 ∷ 1 ∷ 0 ∷ 0 ∷ 1 ∷ []) (2 ∷ 0 ∷ 1 ∷ 1 ∷ 3 ∷ 1 ∷ 0 ∷ 1 ∷ [])
    -- the masks of both classes are united: a in A, a not in B, x in C, x not in D, a = x
    ∷ run (0 ∷ 2 ∷ 97 ∷ 120 ∷ 4 ∷ 65 ∷ 66 ∷ 67 ∷ 68 ∷ 5 ∷ 1 ∷ 0 ∷ 0 ∷ 2 ∷ 0 ∷ 1 ∷ 1 ∷ 1 ∷ 2 ∷ 2 ∷ 1 ∷ 3 ∷ 3 ∷ 0 ∷ 1 ∷ []) 12 192 48 (ended FORMS 5 1) (0 ∷ 5 ∷ 10 ∷ 0 ∷ 5 ∷ 10 ∷ []) (1 ∷ 0 ∷ 0 ∷ 1 ∷ 2 ∷ 1 ∷ 0 ∷ 1 ∷ 1 ∷ 2 ∷ 1 ∷ 1 ∷ 2 ∷ 3 ∷ 1 ∷ 1 ∷ 3 ∷ 4 ∷ 0 ∷ 1 ∷ [])
    -- the inside mask of the class that loses its root meets an outside mask: x in A, a not in A, a = x
    ∷ run (0 ∷ 2 ∷ 97 ∷ 120 ∷ 1 ∷ 65 ∷ 3 ∷ 1 ∷ 1 ∷ 0 ∷ 2 ∷ 0 ∷ 0 ∷ 3 ∷ 0 ∷ 1 ∷ []) 12 192 48 (ended FALSE 3 0) [] (1 ∷ 0 ∷ 1 ∷ 1 ∷ 2 ∷ 1 ∷ 0 ∷ 1 ∷ 3 ∷ 2 ∷ 0 ∷ 0 ∷ [])
    -- the outside mask of the class that loses its root meets an inside mask: x not in A, a in A, a = x
    ∷ run (0 ∷ 2 ∷ 97 ∷ 120 ∷ 1 ∷ 65 ∷ 3 ∷ 2 ∷ 1 ∷ 0 ∷ 1 ∷ 0 ∷ 0 ∷ 3 ∷ 0 ∷ 1 ∷ []) 12 192 48 (ended FALSE 3 0) [] (2 ∷ 0 ∷ 1 ∷ 1 ∷ 1 ∷ 1 ∷ 0 ∷ 1 ∷ 3 ∷ 2 ∷ 0 ∷ 0 ∷ [])
    -- a class that loses its root to rule 20 after a split keeps both masks: C = A ∪ B, x in C, x in D, D = {a}
    ∷ run (0 ∷ 2 ∷ 97 ∷ 120 ∷ 4 ∷ 65 ∷ 66 ∷ 67 ∷ 68 ∷ 4 ∷ 7 ∷ 0 ∷ 1 ∷ 2 ∷ 1 ∷ 1 ∷ 2 ∷ 1 ∷ 1 ∷ 3 ∷ 11 ∷ 3 ∷ 1 ∷ 0 ∷ []) 12 192 48 (ended FORMS 6 2) (0 ∷ 13 ∷ 0 ∷ 0 ∷ 13 ∷ 0 ∷ 0 ∷ 14 ∷ 1 ∷ 0 ∷ 14 ∷ 1 ∷ []) (1 ∷ 1 ∷ 1 ∷ 1 ∷ 1 ∷ 2 ∷ 1 ∷ 1 ∷ 19 ∷ 3 ∷ 0 ∷ 1 ∷ 12 ∷ 0 ∷ 1 ∷ 2 ∷ 20 ∷ 3 ∷ 1 ∷ 1 ∷ 20 ∷ 3 ∷ 1 ∷ 1 ∷ [])
    -- a free variable: 3 in A, 3 ≠ x
    ∷ run (1 ∷ 3 ∷ 0 ∷ 1 ∷ 120 ∷ 1 ∷ 65 ∷ 2 ∷ 1 ∷ 0 ∷ 0 ∷ 4 ∷ 0 ∷ 1 ∷ []) 12 192 48 (ended FORMS 1 1) (0 ∷ 1 ∷ 0 ∷ 1 ∷ 0 ∷ 0 ∷ []) (1 ∷ 0 ∷ 0 ∷ 1 ∷ [])
    -- a free variable has no constant's value in the model: x = 32,002, A = {3}
    ∷ model (1 ∷ 3 ∷ 0 ∷ 1 ∷ 120 ∷ 1 ∷ 65 ∷ 2 ∷ 1 ∷ 0 ∷ 0 ∷ 4 ∷ 0 ∷ 1 ∷ []) (0 ∷ 1 ∷ 0 ∷ 1 ∷ 0 ∷ 0 ∷ []) (record { numbers = pos 32002 ∷ []; sets = (pos 3 ∷ []) ∷ [] })
    -- that model holds
    ∷ check (1 ∷ 3 ∷ 0 ∷ 1 ∷ 120 ∷ 1 ∷ 65 ∷ 2 ∷ 1 ∷ 0 ∷ 0 ∷ 4 ∷ 0 ∷ 1 ∷ []) (1 ∷ 2 ∷ 125 ∷ 1 ∷ 3 ∷ 0 ∷ []) HOLDS
    -- a solved form before the budget: x in A, budget 1
    ∷ run (0 ∷ 1 ∷ 120 ∷ 1 ∷ 65 ∷ 1 ∷ 1 ∷ 0 ∷ 0 ∷ []) 1 192 4 (ended FORMS 1 1) (0 ∷ 1 ∷ 0 ∷ []) (1 ∷ 0 ∷ 0 ∷ 1 ∷ [])
    -- a solved form before the budget: one variable, no constraint, budget 0
    ∷ run (0 ∷ 1 ∷ 120 ∷ 0 ∷ 0 ∷ []) 0 192 0 (ended FORMS 0 1) (0 ∷ 0 ∷ 0 ∷ []) []
    -- a solved form before the budget: two of them after the last step
    ∷ run (0 ∷ 1 ∷ 120 ∷ 3 ∷ 65 ∷ 66 ∷ 67 ∷ 2 ∷ 7 ∷ 0 ∷ 1 ∷ 2 ∷ 1 ∷ 0 ∷ 2 ∷ []) 2 192 8 (ended FORMS 2 2) (0 ∷ 5 ∷ 0 ∷ 0 ∷ 6 ∷ 1 ∷ []) (1 ∷ 1 ∷ 0 ∷ 1 ∷ 12 ∷ 0 ∷ 0 ∷ 2 ∷ [])
    -- no branch left, before the budget: A ≠ A, budget 1
    ∷ run (0 ∷ 0 ∷ 1 ∷ 65 ∷ 1 ∷ 6 ∷ 0 ∷ 0 ∷ []) 1 192 4 (ended FALSE 1 0) [] (7 ∷ 0 ∷ 0 ∷ 0 ∷ [])
    -- a solved form before the budget: NO ROOM although the budget is spent
    ∷ run (0 ∷ 1 ∷ 120 ∷ 3 ∷ 65 ∷ 66 ∷ 67 ∷ 2 ∷ 7 ∷ 0 ∷ 1 ∷ 2 ∷ 1 ∷ 0 ∷ 2 ∷ []) 2 2 8 (ended NOROOM 2 0) [] (1 ∷ 1 ∷ 0 ∷ 1 ∷ 12 ∷ 0 ∷ 0 ∷ 2 ∷ [])
    -- constants are signed: A = [−1, 0]
    ∷ run (2 ∷ 255 ∷ 255 ∷ 0 ∷ 0 ∷ 0 ∷ 1 ∷ 65 ∷ 1 ∷ 12 ∷ 0 ∷ 0 ∷ 1 ∷ []) 12 192 48 (ended FORMS 2 1) (0 ∷ 1 ∷ 0 ∷ 1 ∷ 1 ∷ 0 ∷ []) (19 ∷ 0 ∷ 0 ∷ 1 ∷ 19 ∷ 0 ∷ 1 ∷ 1 ∷ [])
    -- constants are signed: 0, −1 descend
    ∷ run (2 ∷ 0 ∷ 0 ∷ 255 ∷ 255 ∷ 0 ∷ 1 ∷ 65 ∷ 0 ∷ []) 5 192 20 (refusal 3) [] []
    -- constants are signed: −1 alone is in range
    ∷ run (1 ∷ 255 ∷ 255 ∷ 0 ∷ 0 ∷ 0 ∷ []) 12 192 48 (ended FORMS 0 1) (0 ∷ 0 ∷ 0 ∷ []) []
    -- constants are signed: −256, −255 ascend
    ∷ run (2 ∷ 0 ∷ 255 ∷ 1 ∷ 255 ∷ 0 ∷ 1 ∷ 65 ∷ 1 ∷ 12 ∷ 0 ∷ 0 ∷ 1 ∷ []) 12 192 48 (ended FORMS 2 1) (0 ∷ 1 ∷ 0 ∷ 1 ∷ 1 ∷ 0 ∷ []) (19 ∷ 0 ∷ 0 ∷ 1 ∷ 19 ∷ 0 ∷ 1 ∷ 1 ∷ [])
    -- constants are signed: from −2 to 1 without −1 is a gap
    ∷ run (3 ∷ 254 ∷ 255 ∷ 0 ∷ 0 ∷ 1 ∷ 0 ∷ 0 ∷ 1 ∷ 65 ∷ 1 ∷ 12 ∷ 0 ∷ 0 ∷ 2 ∷ []) 5 192 20 (refusal 9) [] []
    -- low byte first: 255, 256 without a gap
    ∷ run (2 ∷ 255 ∷ 0 ∷ 0 ∷ 1 ∷ 0 ∷ 1 ∷ 65 ∷ 1 ∷ 12 ∷ 0 ∷ 0 ∷ 1 ∷ []) 12 192 48 (ended FORMS 2 1) (0 ∷ 1 ∷ 0 ∷ 1 ∷ 1 ∷ 0 ∷ []) (19 ∷ 0 ∷ 0 ∷ 1 ∷ 19 ∷ 0 ∷ 1 ∷ 1 ∷ [])
    -- values are signed: A = {−1, 0} satisfies A = [−1, 0]
    ∷ check (2 ∷ 255 ∷ 255 ∷ 0 ∷ 0 ∷ 0 ∷ 1 ∷ 65 ∷ 1 ∷ 12 ∷ 0 ∷ 0 ∷ 1 ∷ []) (0 ∷ 2 ∷ 255 ∷ 255 ∷ 0 ∷ 0 ∷ []) HOLDS
    -- values are signed: members 0, −1 descend
    ∷ check (2 ∷ 255 ∷ 255 ∷ 0 ∷ 0 ∷ 0 ∷ 1 ∷ 65 ∷ 1 ∷ 12 ∷ 0 ∷ 0 ∷ 1 ∷ []) (0 ∷ 2 ∷ 0 ∷ 0 ∷ 255 ∷ 255 ∷ []) (declined 14)
    -- values are signed: x = −1 is the constant −1
    ∷ check (1 ∷ 255 ∷ 255 ∷ 1 ∷ 120 ∷ 0 ∷ 1 ∷ 3 ∷ 0 ∷ 1 ∷ []) (1 ∷ 255 ∷ 255 ∷ []) HOLDS
    -- "two letters must mean two sectors": no, x in A, y in A, A = {3} makes both 3
    ∷ run (1 ∷ 3 ∷ 0 ∷ 2 ∷ 120 ∷ 121 ∷ 1 ∷ 65 ∷ 3 ∷ 1 ∷ 1 ∷ 0 ∷ 1 ∷ 2 ∷ 0 ∷ 11 ∷ 0 ∷ 1 ∷ 0 ∷ []) 12 192 48 (ended FORMS 5 1) (0 ∷ 1 ∷ 0 ∷ 0 ∷ 1 ∷ 0 ∷ 0 ∷ 1 ∷ 0 ∷ []) (1 ∷ 0 ∷ 1 ∷ 1 ∷ 1 ∷ 1 ∷ 2 ∷ 1 ∷ 19 ∷ 2 ∷ 0 ∷ 1 ∷ 20 ∷ 2 ∷ 1 ∷ 1 ∷ 20 ∷ 2 ∷ 2 ∷ 1 ∷ [])
    -- "two letters must mean two sectors": no, x = 3 and y = 3 holds
    ∷ check (1 ∷ 3 ∷ 0 ∷ 2 ∷ 120 ∷ 121 ∷ 1 ∷ 65 ∷ 3 ∷ 1 ∷ 1 ∷ 0 ∷ 1 ∷ 2 ∷ 0 ∷ 11 ∷ 0 ∷ 1 ∷ 0 ∷ []) (2 ∷ 3 ∷ 0 ∷ 3 ∷ 0 ∷ 1 ∷ 3 ∷ 0 ∷ []) HOLDS
    -- FALSE is not "the tool gave up": the budget is just enough
    ∷ run (0 ∷ 1 ∷ 120 ∷ 1 ∷ 65 ∷ 2 ∷ 11 ∷ 0 ∷ 0 ∷ 1 ∷ 0 ∷ 0 ∷ []) 2 192 8 (ended FALSE 2 0) [] (1 ∷ 1 ∷ 0 ∷ 1 ∷ 20 ∷ 0 ∷ 0 ∷ 0 ∷ [])
    -- SPENT, and not FALSE: one step short
    ∷ run (0 ∷ 1 ∷ 120 ∷ 1 ∷ 65 ∷ 2 ∷ 11 ∷ 0 ∷ 0 ∷ 1 ∷ 0 ∷ 0 ∷ []) 1 192 4 (ended SPENT 1 0) [] (1 ∷ 1 ∷ 0 ∷ 1 ∷ [])
    -- "a sector listed in no line is in no zone": no, nothing is known of constant 3
    ∷ run (1 ∷ 3 ∷ 0 ∷ 1 ∷ 120 ∷ 1 ∷ 65 ∷ 1 ∷ 1 ∷ 1 ∷ 0 ∷ []) 12 192 48 (ended FORMS 1 1) (0 ∷ 0 ∷ 0 ∷ 1 ∷ 1 ∷ 0 ∷ []) (1 ∷ 0 ∷ 1 ∷ 1 ∷ [])
    -- "a sector listed in no line is in no zone": no, A = {3, 7} holds
    ∷ check (1 ∷ 3 ∷ 0 ∷ 1 ∷ 120 ∷ 1 ∷ 65 ∷ 1 ∷ 1 ∷ 1 ∷ 0 ∷ []) (1 ∷ 7 ∷ 0 ∷ 2 ∷ 3 ∷ 0 ∷ 7 ∷ 0 ∷ []) HOLDS
    -- a constant that is not in the list gets no fact: constants 3, 4, and A = {3}
    ∷ run (2 ∷ 3 ∷ 0 ∷ 4 ∷ 0 ∷ 0 ∷ 1 ∷ 65 ∷ 1 ∷ 11 ∷ 0 ∷ 1 ∷ 0 ∷ []) 12 192 48 (ended FORMS 1 1) (0 ∷ 1 ∷ 0 ∷ 1 ∷ 0 ∷ 0 ∷ []) (19 ∷ 0 ∷ 0 ∷ 1 ∷ [])
    -- "the first case of a union" conflicts, the second does not: C = A ∪ B, x in C, A ⊆ D, x not in D
    ∷ run (0 ∷ 1 ∷ 120 ∷ 4 ∷ 65 ∷ 66 ∷ 67 ∷ 68 ∷ 4 ∷ 7 ∷ 0 ∷ 1 ∷ 2 ∷ 1 ∷ 0 ∷ 2 ∷ 9 ∷ 0 ∷ 3 ∷ 2 ∷ 0 ∷ 3 ∷ []) 12 192 48 (ended FORMS 4 1) (0 ∷ 6 ∷ 9 ∷ []) (1 ∷ 1 ∷ 0 ∷ 1 ∷ 2 ∷ 3 ∷ 0 ∷ 1 ∷ 12 ∷ 0 ∷ 0 ∷ 2 ∷ 15 ∷ 2 ∷ 0 ∷ 0 ∷ [])
    -- the first case of A ≠ B conflicts, the second does not: A ≠ B, A ⊆ B
    ∷ run (0 ∷ 0 ∷ 2 ∷ 65 ∷ 66 ∷ 2 ∷ 6 ∷ 0 ∷ 1 ∷ 9 ∷ 0 ∷ 1 ∷ []) 12 192 48 (ended FORMS 2 1) (0 ∷ 2 ∷ 1 ∷ []) (7 ∷ 0 ∷ 0 ∷ 2 ∷ 15 ∷ 1 ∷ 0 ∷ 0 ∷ [])
    -- the second case of a union conflicts, the first does not: C = A ∪ B, x in C, B ⊆ D, x not in D
    ∷ run (0 ∷ 1 ∷ 120 ∷ 4 ∷ 65 ∷ 66 ∷ 67 ∷ 68 ∷ 4 ∷ 7 ∷ 0 ∷ 1 ∷ 2 ∷ 1 ∷ 0 ∷ 2 ∷ 9 ∷ 1 ∷ 3 ∷ 2 ∷ 0 ∷ 3 ∷ []) 12 192 48 (ended FORMS 4 1) (0 ∷ 5 ∷ 8 ∷ []) (1 ∷ 1 ∷ 0 ∷ 1 ∷ 2 ∷ 3 ∷ 0 ∷ 1 ∷ 12 ∷ 0 ∷ 0 ∷ 2 ∷ 15 ∷ 2 ∷ 0 ∷ 0 ∷ [])
    ∷ []

pub rows_hold : map given table ≡ map expected table
unfolding table given
rows_hold = refl

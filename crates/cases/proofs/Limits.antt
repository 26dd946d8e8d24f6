-- Printed by tests/print-cases from rows/Limits.rows: do not edit.
-- Both sides of each limit.
use mathlib.Core.Path.{◌≡◌, refl}
use mathlib.Core.List.{List, [], ◌∷◌, ◌++◌, map}
use lib.ListN.{replicate}
use Rattle.calculus.specs.Lists.{up_from}
use Rattle.calculus.specs.Calls.{FORMS, FALSE, SPENT, NOROOM, refusal, ended, declined, HOLDS, FAILS}
use Rattle.cases.proofs.Rows.{Row, run, check, words_from, repeated, expected, given}

unfoldable pub table : List Row
table =
    -- 64 constants, form buffer of one record
    run ((64 ∷ []) ++ words_from 0 64 ++ (0 ∷ 0 ∷ 0 ∷ [])) 12 192 48 (ended FORMS 0 1) (0 ∷ 0 ∷ 0 ∷ 1 ∷ 0 ∷ 0 ∷ 2 ∷ 0 ∷ 0 ∷ 3 ∷ 0 ∷ 0 ∷ 4 ∷ 0 ∷ 0 ∷ 5 ∷ 0 ∷ 0 ∷ 6 ∷ 0 ∷ 0 ∷ 7 ∷ 0 ∷ 0 ∷ 8 ∷ 0 ∷ 0 ∷ 9 ∷ 0 ∷ 0 ∷ 10 ∷ 0 ∷ 0 ∷ 11 ∷ 0 ∷ 0 ∷ 12 ∷ 0 ∷ 0 ∷ 13 ∷ 0 ∷ 0 ∷ 14 ∷ 0 ∷ 0 ∷ 15 ∷ 0 ∷ 0 ∷ 16 ∷ 0 ∷ 0 ∷ 17 ∷ 0 ∷ 0 ∷ 18 ∷ 0 ∷ 0 ∷ 19 ∷ 0 ∷ 0 ∷ 20 ∷ 0 ∷ 0 ∷ 21 ∷ 0 ∷ 0 ∷ 22 ∷ 0 ∷ 0 ∷ 23 ∷ 0 ∷ 0 ∷ 24 ∷ 0 ∷ 0 ∷ 25 ∷ 0 ∷ 0 ∷ 26 ∷ 0 ∷ 0 ∷ 27 ∷ 0 ∷ 0 ∷ 28 ∷ 0 ∷ 0 ∷ 29 ∷ 0 ∷ 0 ∷ 30 ∷ 0 ∷ 0 ∷ 31 ∷ 0 ∷ 0 ∷ 32 ∷ 0 ∷ 0 ∷ 33 ∷ 0 ∷ 0 ∷ 34 ∷ 0 ∷ 0 ∷ 35 ∷ 0 ∷ 0 ∷ 36 ∷ 0 ∷ 0 ∷ 37 ∷ 0 ∷ 0 ∷ 38 ∷ 0 ∷ 0 ∷ 39 ∷ 0 ∷ 0 ∷ 40 ∷ 0 ∷ 0 ∷ 41 ∷ 0 ∷ 0 ∷ 42 ∷ 0 ∷ 0 ∷ 43 ∷ 0 ∷ 0 ∷ 44 ∷ 0 ∷ 0 ∷ 45 ∷ 0 ∷ 0 ∷ 46 ∷ 0 ∷ 0 ∷ 47 ∷ 0 ∷ 0 ∷ 48 ∷ 0 ∷ 0 ∷ 49 ∷ 0 ∷ 0 ∷ 50 ∷ 0 ∷ 0 ∷ 51 ∷ 0 ∷ 0 ∷ 52 ∷ 0 ∷ 0 ∷ 53 ∷ 0 ∷ 0 ∷ 54 ∷ 0 ∷ 0 ∷ 55 ∷ 0 ∷ 0 ∷ 56 ∷ 0 ∷ 0 ∷ 57 ∷ 0 ∷ 0 ∷ 58 ∷ 0 ∷ 0 ∷ 59 ∷ 0 ∷ 0 ∷ 60 ∷ 0 ∷ 0 ∷ 61 ∷ 0 ∷ 0 ∷ 62 ∷ 0 ∷ 0 ∷ 63 ∷ 0 ∷ 0 ∷ []) []
    -- 64 constants, form buffer a byte short of one record
    ∷ run ((64 ∷ []) ++ words_from 0 64 ++ (0 ∷ 0 ∷ 0 ∷ [])) 12 191 48 (ended NOROOM 0 0) [] []
    -- 65 constants
    ∷ run ((65 ∷ []) ++ words_from 0 65 ++ (0 ∷ 0 ∷ 0 ∷ [])) 5 192 20 (refusal 11) [] []
    -- 255 constants
    ∷ run ((255 ∷ []) ++ words_from 0 255 ++ (0 ∷ 0 ∷ 0 ∷ [])) 5 192 20 (refusal 11) [] []
    -- more than 64 constants are still read: 200, not ascending
    ∷ run ((200 ∷ []) ++ words_from 0 100 ++ words_from 0 100 ++ (0 ∷ 0 ∷ 0 ∷ [])) 5 192 20 (refusal 3) [] []
    -- more than 64 constants are still read: 66, then a capital as variable
    ∷ run ((66 ∷ []) ++ words_from 0 66 ++ (1 ∷ 88 ∷ 0 ∷ 0 ∷ [])) 5 192 20 (refusal 4) [] []
    -- more than 64 constants are still read: term 64 of 65 passes question 8
    ∷ run ((65 ∷ []) ++ words_from 0 65 ++ (0 ∷ 1 ∷ 65 ∷ 1 ∷ 1 ∷ 64 ∷ 0 ∷ [])) 5 192 20 (refusal 11) [] []
    -- more than 64 constants are still read: term 65 of 65 does not
    ∷ run ((65 ∷ []) ++ words_from 0 65 ++ (0 ∷ 1 ∷ 65 ∷ 1 ∷ 1 ∷ 65 ∷ 0 ∷ [])) 5 192 20 (refusal 8) [] []
    -- 64 terms: 37 constants, 26 variables, 1 witness
    ∷ run ((37 ∷ []) ++ words_from 0 37 ++ (26 ∷ []) ++ up_from 97 26 ++ (1 ∷ 65 ∷ 1 ∷ 6 ∷ 0 ∷ 0 ∷ [])) 12 192 48 (ended FALSE 1 0) [] (7 ∷ 0 ∷ 63 ∷ 0 ∷ [])
    -- 65 terms: 38 constants, 26 variables, 1 witness
    ∷ run ((38 ∷ []) ++ words_from 0 38 ++ (26 ∷ []) ++ up_from 97 26 ++ (1 ∷ 65 ∷ 1 ∷ 6 ∷ 0 ∷ 0 ∷ [])) 5 192 20 (refusal 11) [] []
    -- 65 terms: 64 constants and a variable
    ∷ run ((64 ∷ []) ++ words_from 0 64 ++ (1 ∷ 120 ∷ 0 ∷ 0 ∷ [])) 5 192 20 (refusal 11) [] []
    -- 65 terms: 64 constants and a witness
    ∷ run ((64 ∷ []) ++ words_from 0 64 ++ (0 ∷ 1 ∷ 65 ∷ 1 ∷ 6 ∷ 0 ∷ 0 ∷ [])) 5 192 20 (refusal 11) [] []
    -- 64 terms: 16 constants and 48 witnesses
    ∷ run ((16 ∷ []) ++ words_from 0 16 ++ (0 ∷ 7 ∷ 65 ∷ 66 ∷ 67 ∷ 68 ∷ 69 ∷ 70 ∷ 71 ∷ 48 ∷ []) ++ replicate 144 6) 12 192 48 (ended FALSE 1 0) [] (7 ∷ 0 ∷ 16 ∷ 0 ∷ [])
    -- 65 terms: 17 constants and 48 witnesses
    ∷ run ((17 ∷ []) ++ words_from 0 17 ++ (0 ∷ 7 ∷ 65 ∷ 66 ∷ 67 ∷ 68 ∷ 69 ∷ 70 ∷ 71 ∷ 48 ∷ []) ++ replicate 144 6) 5 192 20 (refusal 11) [] []
    -- 64 terms: term 63 ≠ term 63
    ∷ run ((63 ∷ []) ++ words_from 0 63 ++ (1 ∷ 120 ∷ 0 ∷ 1 ∷ 4 ∷ 63 ∷ 63 ∷ [])) 12 192 48 (ended FALSE 1 0) [] (4 ∷ 0 ∷ 63 ∷ 0 ∷ [])
    -- 26 variables, form buffer of one record
    ∷ run ((0 ∷ 26 ∷ []) ++ up_from 97 26 ++ (0 ∷ 0 ∷ [])) 12 78 48 (ended FORMS 0 1) (0 ∷ 0 ∷ 0 ∷ 1 ∷ 0 ∷ 0 ∷ 2 ∷ 0 ∷ 0 ∷ 3 ∷ 0 ∷ 0 ∷ 4 ∷ 0 ∷ 0 ∷ 5 ∷ 0 ∷ 0 ∷ 6 ∷ 0 ∷ 0 ∷ 7 ∷ 0 ∷ 0 ∷ 8 ∷ 0 ∷ 0 ∷ 9 ∷ 0 ∷ 0 ∷ 10 ∷ 0 ∷ 0 ∷ 11 ∷ 0 ∷ 0 ∷ 12 ∷ 0 ∷ 0 ∷ 13 ∷ 0 ∷ 0 ∷ 14 ∷ 0 ∷ 0 ∷ 15 ∷ 0 ∷ 0 ∷ 16 ∷ 0 ∷ 0 ∷ 17 ∷ 0 ∷ 0 ∷ 18 ∷ 0 ∷ 0 ∷ 19 ∷ 0 ∷ 0 ∷ 20 ∷ 0 ∷ 0 ∷ 21 ∷ 0 ∷ 0 ∷ 22 ∷ 0 ∷ 0 ∷ 23 ∷ 0 ∷ 0 ∷ 24 ∷ 0 ∷ 0 ∷ 25 ∷ 0 ∷ 0 ∷ []) []
    -- 8 sets: x in H
    ∷ run (0 ∷ 1 ∷ 120 ∷ 8 ∷ 65 ∷ 66 ∷ 67 ∷ 68 ∷ 69 ∷ 70 ∷ 71 ∷ 72 ∷ 1 ∷ 1 ∷ 0 ∷ 7 ∷ []) 12 192 48 (ended FORMS 1 1) (0 ∷ 128 ∷ 0 ∷ []) (1 ∷ 0 ∷ 0 ∷ 1 ∷ [])
    -- 8 sets: x not in H
    ∷ run (0 ∷ 1 ∷ 120 ∷ 8 ∷ 65 ∷ 66 ∷ 67 ∷ 68 ∷ 69 ∷ 70 ∷ 71 ∷ 72 ∷ 1 ∷ 2 ∷ 0 ∷ 7 ∷ []) 12 192 48 (ended FORMS 1 1) (0 ∷ 0 ∷ 128 ∷ []) (2 ∷ 0 ∷ 0 ∷ 1 ∷ [])
    -- 8 sets: set number 8
    ∷ run (0 ∷ 1 ∷ 120 ∷ 8 ∷ 65 ∷ 66 ∷ 67 ∷ 68 ∷ 69 ∷ 70 ∷ 71 ∷ 72 ∷ 1 ∷ 1 ∷ 0 ∷ 8 ∷ []) 5 192 20 (refusal 8) [] []
    -- 9 sets
    ∷ run (0 ∷ 1 ∷ 120 ∷ 9 ∷ 65 ∷ 66 ∷ 67 ∷ 68 ∷ 69 ∷ 70 ∷ 71 ∷ 72 ∷ 73 ∷ 1 ∷ 1 ∷ 0 ∷ 7 ∷ []) 5 192 20 (refusal 5) [] []
    -- 48 constraints: one step, the rest is known
    ∷ run ((0 ∷ 2 ∷ 97 ∷ 98 ∷ 2 ∷ 65 ∷ 66 ∷ 48 ∷ []) ++ replicate 144 1) 12 192 48 (ended FORMS 1 1) (0 ∷ 0 ∷ 0 ∷ 1 ∷ 2 ∷ 0 ∷ []) (1 ∷ 0 ∷ 1 ∷ 1 ∷ [])
    -- 48 constraints: the last one's step
    ∷ run ((0 ∷ 4 ∷ 97 ∷ 98 ∷ 99 ∷ 100 ∷ 1 ∷ 65 ∷ 48 ∷ []) ++ replicate 141 3 ++ (1 ∷ 0 ∷ 0 ∷ [])) 12 192 48 (ended FORMS 1 1) (0 ∷ 1 ∷ 0 ∷ 1 ∷ 0 ∷ 0 ∷ 2 ∷ 0 ∷ 0 ∷ 3 ∷ 0 ∷ 0 ∷ []) (1 ∷ 47 ∷ 0 ∷ 1 ∷ [])
    -- 48 constraints: the last one fails
    ∷ check ((0 ∷ 4 ∷ 97 ∷ 98 ∷ 99 ∷ 100 ∷ 1 ∷ 65 ∷ 48 ∷ []) ++ replicate 141 3 ++ (1 ∷ 0 ∷ 0 ∷ [])) (4 ∷ 0 ∷ 0 ∷ 0 ∷ 0 ∷ 0 ∷ 0 ∷ 0 ∷ 0 ∷ 0 ∷ []) (FAILS 47)
    -- 49 constraints
    ∷ run ((0 ∷ 2 ∷ 97 ∷ 98 ∷ 2 ∷ 65 ∷ 66 ∷ 49 ∷ []) ++ replicate 147 1) 5 192 20 (refusal 6) [] []
    -- 255 constraints
    ∷ run ((0 ∷ 2 ∷ 97 ∷ 98 ∷ 2 ∷ 65 ∷ 66 ∷ 255 ∷ []) ++ replicate 765 1) 5 192 20 (refusal 6) [] []
    -- 4,096 bytes are read: 10
    ∷ run (replicate 4096 0) 5 192 20 (refusal 10) [] []
    -- 4,097 bytes are not: 1
    ∷ run (replicate 4097 0) 5 192 20 (refusal 1) [] []
    -- 4,096 bytes, all used: 16 long lists
    ∷ run ((1 ∷ 5 ∷ 0 ∷ 0 ∷ 1 ∷ 65 ∷ 16 ∷ []) ++ repeated 15 ((11 ∷ 0 ∷ 255 ∷ []) ++ replicate 255 0) ++ (11 ∷ 0 ∷ 216 ∷ []) ++ replicate 216 0) 12 192 48 (ended FORMS 1 1) (0 ∷ 1 ∷ 0 ∷ []) (19 ∷ 0 ∷ 0 ∷ 1 ∷ [])
    -- 4,097 bytes, all used
    ∷ run ((1 ∷ 5 ∷ 0 ∷ 0 ∷ 1 ∷ 65 ∷ 16 ∷ []) ++ repeated 15 ((11 ∷ 0 ∷ 255 ∷ []) ++ replicate 255 0) ++ (11 ∷ 0 ∷ 217 ∷ []) ++ replicate 217 0) 5 192 20 (refusal 1) [] []
    -- budget 10,000
    ∷ run (0 ∷ 1 ∷ 120 ∷ 1 ∷ 65 ∷ 1 ∷ 1 ∷ 0 ∷ 0 ∷ []) 10000 192 40000 (ended FORMS 1 1) (0 ∷ 1 ∷ 0 ∷ []) (1 ∷ 0 ∷ 0 ∷ 1 ∷ [])
    -- budget 10,001
    ∷ run (0 ∷ 1 ∷ 120 ∷ 1 ∷ 65 ∷ 1 ∷ 1 ∷ 0 ∷ 0 ∷ []) 10001 192 40004 (refusal 12) [] []
    -- budget 65,536
    ∷ run (0 ∷ 1 ∷ 120 ∷ 1 ∷ 65 ∷ 1 ∷ 1 ∷ 0 ∷ 0 ∷ []) 65536 192 262144 (refusal 12) [] []
    -- budget 2^30, no trace buffer
    ∷ run (0 ∷ 1 ∷ 120 ∷ 1 ∷ 65 ∷ 1 ∷ 1 ∷ 0 ∷ 0 ∷ []) 1073741824 192 0 (refusal 12) [] []
    -- budget 0: SPENT at once
    ∷ run (0 ∷ 1 ∷ 120 ∷ 1 ∷ 65 ∷ 1 ∷ 1 ∷ 0 ∷ 0 ∷ []) 0 192 0 (ended SPENT 0 0) [] []
    -- budget exactly enough: x in A, budget 1
    ∷ run (0 ∷ 1 ∷ 120 ∷ 1 ∷ 65 ∷ 1 ∷ 1 ∷ 0 ∷ 0 ∷ []) 1 192 4 (ended FORMS 1 1) (0 ∷ 1 ∷ 0 ∷ []) (1 ∷ 0 ∷ 0 ∷ 1 ∷ [])
    -- budget exactly enough after a listed form
    ∷ run (0 ∷ 1 ∷ 120 ∷ 4 ∷ 65 ∷ 66 ∷ 67 ∷ 68 ∷ 3 ∷ 7 ∷ 0 ∷ 1 ∷ 2 ∷ 1 ∷ 0 ∷ 2 ∷ 9 ∷ 1 ∷ 3 ∷ []) 3 192 12 (ended FORMS 3 2) (0 ∷ 5 ∷ 0 ∷ 0 ∷ 14 ∷ 1 ∷ []) (1 ∷ 1 ∷ 0 ∷ 1 ∷ 12 ∷ 0 ∷ 0 ∷ 2 ∷ 15 ∷ 2 ∷ 0 ∷ 1 ∷ [])
    -- budget one short after a listed form
    ∷ run (0 ∷ 1 ∷ 120 ∷ 4 ∷ 65 ∷ 66 ∷ 67 ∷ 68 ∷ 3 ∷ 7 ∷ 0 ∷ 1 ∷ 2 ∷ 1 ∷ 0 ∷ 2 ∷ 9 ∷ 1 ∷ 3 ∷ []) 2 192 8 (ended SPENT 2 1) (0 ∷ 5 ∷ 0 ∷ []) (1 ∷ 1 ∷ 0 ∷ 1 ∷ 12 ∷ 0 ∷ 0 ∷ 2 ∷ [])
    -- budget two short: before the split
    ∷ run (0 ∷ 1 ∷ 120 ∷ 4 ∷ 65 ∷ 66 ∷ 67 ∷ 68 ∷ 3 ∷ 7 ∷ 0 ∷ 1 ∷ 2 ∷ 1 ∷ 0 ∷ 2 ∷ 9 ∷ 1 ∷ 3 ∷ []) 1 192 4 (ended SPENT 1 0) [] (1 ∷ 1 ∷ 0 ∷ 1 ∷ [])
    -- budget exactly enough: the second child closes last
    ∷ run (0 ∷ 1 ∷ 120 ∷ 4 ∷ 65 ∷ 66 ∷ 67 ∷ 68 ∷ 4 ∷ 7 ∷ 0 ∷ 1 ∷ 2 ∷ 1 ∷ 0 ∷ 2 ∷ 9 ∷ 1 ∷ 3 ∷ 2 ∷ 0 ∷ 3 ∷ []) 4 192 16 (ended FORMS 4 1) (0 ∷ 5 ∷ 8 ∷ []) (1 ∷ 1 ∷ 0 ∷ 1 ∷ 2 ∷ 3 ∷ 0 ∷ 1 ∷ 12 ∷ 0 ∷ 0 ∷ 2 ∷ 15 ∷ 2 ∷ 0 ∷ 0 ∷ [])
    -- budget one short: the second child does not close
    ∷ run (0 ∷ 1 ∷ 120 ∷ 4 ∷ 65 ∷ 66 ∷ 67 ∷ 68 ∷ 4 ∷ 7 ∷ 0 ∷ 1 ∷ 2 ∷ 1 ∷ 0 ∷ 2 ∷ 9 ∷ 1 ∷ 3 ∷ 2 ∷ 0 ∷ 3 ∷ []) 3 192 12 (ended SPENT 3 1) (0 ∷ 5 ∷ 8 ∷ []) (1 ∷ 1 ∷ 0 ∷ 1 ∷ 2 ∷ 3 ∷ 0 ∷ 1 ∷ 12 ∷ 0 ∷ 0 ∷ 2 ∷ [])
    -- trace buffer of 4 bytes for budget 1
    ∷ run (0 ∷ 1 ∷ 120 ∷ 1 ∷ 65 ∷ 1 ∷ 1 ∷ 0 ∷ 0 ∷ []) 1 192 4 (ended FORMS 1 1) (0 ∷ 1 ∷ 0 ∷ []) (1 ∷ 0 ∷ 0 ∷ 1 ∷ [])
    -- trace buffer of 3 bytes for budget 1
    ∷ run (0 ∷ 1 ∷ 120 ∷ 1 ∷ 65 ∷ 1 ∷ 1 ∷ 0 ∷ 0 ∷ []) 1 192 3 (refusal 13) [] []
    -- trace buffer of 20 bytes for budget 5
    ∷ run (2 ∷ 3 ∷ 0 ∷ 4 ∷ 0 ∷ 1 ∷ 120 ∷ 1 ∷ 65 ∷ 3 ∷ 1 ∷ 2 ∷ 0 ∷ 12 ∷ 0 ∷ 0 ∷ 1 ∷ 4 ∷ 2 ∷ 0 ∷ []) 5 192 20 (ended FORMS 5 1) (0 ∷ 1 ∷ 0 ∷ 1 ∷ 1 ∷ 0 ∷ 1 ∷ 1 ∷ 0 ∷ []) (1 ∷ 0 ∷ 2 ∷ 1 ∷ 19 ∷ 1 ∷ 0 ∷ 1 ∷ 19 ∷ 1 ∷ 1 ∷ 1 ∷ 20 ∷ 1 ∷ 2 ∷ 2 ∷ 4 ∷ 2 ∷ 0 ∷ 0 ∷ [])
    -- trace buffer of 19 bytes for budget 5
    ∷ run (2 ∷ 3 ∷ 0 ∷ 4 ∷ 0 ∷ 1 ∷ 120 ∷ 1 ∷ 65 ∷ 3 ∷ 1 ∷ 2 ∷ 0 ∷ 12 ∷ 0 ∷ 0 ∷ 1 ∷ 4 ∷ 2 ∷ 0 ∷ []) 5 192 19 (refusal 13) [] []
    -- trace buffer of 39,999 bytes for budget 10,000
    ∷ run (0 ∷ 1 ∷ 120 ∷ 1 ∷ 65 ∷ 1 ∷ 1 ∷ 0 ∷ 0 ∷ []) 10000 192 39999 (refusal 13) [] []
    -- trace buffer long enough for the steps, but not for the budget
    ∷ run (0 ∷ 1 ∷ 120 ∷ 1 ∷ 65 ∷ 1 ∷ 1 ∷ 0 ∷ 0 ∷ []) 2 192 4 (refusal 13) [] []
    -- trace buffer longer than asked
    ∷ run (0 ∷ 1 ∷ 120 ∷ 1 ∷ 65 ∷ 1 ∷ 1 ∷ 0 ∷ 0 ∷ []) 1 192 9 (ended FORMS 1 1) (0 ∷ 1 ∷ 0 ∷ []) (1 ∷ 0 ∷ 0 ∷ 1 ∷ [])
    -- trace buffer of 0 bytes for budget 0
    ∷ run (0 ∷ 1 ∷ 120 ∷ 0 ∷ 0 ∷ []) 0 192 0 (ended FORMS 0 1) (0 ∷ 0 ∷ 0 ∷ []) []
    -- form buffer just enough for one record
    ∷ run (2 ∷ 3 ∷ 0 ∷ 4 ∷ 0 ∷ 1 ∷ 120 ∷ 1 ∷ 65 ∷ 3 ∷ 1 ∷ 2 ∷ 0 ∷ 12 ∷ 0 ∷ 0 ∷ 1 ∷ 4 ∷ 2 ∷ 0 ∷ []) 5 9 20 (ended FORMS 5 1) (0 ∷ 1 ∷ 0 ∷ 1 ∷ 1 ∷ 0 ∷ 1 ∷ 1 ∷ 0 ∷ []) (1 ∷ 0 ∷ 2 ∷ 1 ∷ 19 ∷ 1 ∷ 0 ∷ 1 ∷ 19 ∷ 1 ∷ 1 ∷ 1 ∷ 20 ∷ 1 ∷ 2 ∷ 2 ∷ 4 ∷ 2 ∷ 0 ∷ 0 ∷ [])
    -- form buffer a byte short of one record
    ∷ run (2 ∷ 3 ∷ 0 ∷ 4 ∷ 0 ∷ 1 ∷ 120 ∷ 1 ∷ 65 ∷ 3 ∷ 1 ∷ 2 ∷ 0 ∷ 12 ∷ 0 ∷ 0 ∷ 1 ∷ 4 ∷ 2 ∷ 0 ∷ []) 5 8 20 (ended NOROOM 5 0) [] (1 ∷ 0 ∷ 2 ∷ 1 ∷ 19 ∷ 1 ∷ 0 ∷ 1 ∷ 19 ∷ 1 ∷ 1 ∷ 1 ∷ 20 ∷ 1 ∷ 2 ∷ 2 ∷ 4 ∷ 2 ∷ 0 ∷ 0 ∷ [])
    -- form buffer just enough for two records
    ∷ run (0 ∷ 1 ∷ 120 ∷ 3 ∷ 65 ∷ 66 ∷ 67 ∷ 2 ∷ 7 ∷ 0 ∷ 1 ∷ 2 ∷ 1 ∷ 0 ∷ 2 ∷ []) 12 6 48 (ended FORMS 2 2) (0 ∷ 5 ∷ 0 ∷ 0 ∷ 6 ∷ 1 ∷ []) (1 ∷ 1 ∷ 0 ∷ 1 ∷ 12 ∷ 0 ∷ 0 ∷ 2 ∷ [])
    -- form buffer a byte short of two records
    ∷ run (0 ∷ 1 ∷ 120 ∷ 3 ∷ 65 ∷ 66 ∷ 67 ∷ 2 ∷ 7 ∷ 0 ∷ 1 ∷ 2 ∷ 1 ∷ 0 ∷ 2 ∷ []) 12 5 48 (ended NOROOM 2 1) (0 ∷ 5 ∷ 0 ∷ []) (1 ∷ 1 ∷ 0 ∷ 1 ∷ 12 ∷ 0 ∷ 0 ∷ 2 ∷ [])
    -- form buffer just enough for the first record only
    ∷ run (0 ∷ 1 ∷ 120 ∷ 3 ∷ 65 ∷ 66 ∷ 67 ∷ 2 ∷ 7 ∷ 0 ∷ 1 ∷ 2 ∷ 1 ∷ 0 ∷ 2 ∷ []) 12 3 48 (ended NOROOM 2 1) (0 ∷ 5 ∷ 0 ∷ []) (1 ∷ 1 ∷ 0 ∷ 1 ∷ 12 ∷ 0 ∷ 0 ∷ 2 ∷ [])
    -- form buffer a byte short of the first record
    ∷ run (0 ∷ 1 ∷ 120 ∷ 3 ∷ 65 ∷ 66 ∷ 67 ∷ 2 ∷ 7 ∷ 0 ∷ 1 ∷ 2 ∷ 1 ∷ 0 ∷ 2 ∷ []) 12 2 48 (ended NOROOM 2 0) [] (1 ∷ 1 ∷ 0 ∷ 1 ∷ 12 ∷ 0 ∷ 0 ∷ 2 ∷ [])
    -- form buffer full, and the second child needs a step first
    ∷ run (0 ∷ 1 ∷ 120 ∷ 4 ∷ 65 ∷ 66 ∷ 67 ∷ 68 ∷ 3 ∷ 7 ∷ 0 ∷ 1 ∷ 2 ∷ 1 ∷ 0 ∷ 2 ∷ 9 ∷ 1 ∷ 3 ∷ []) 12 3 48 (ended NOROOM 3 1) (0 ∷ 5 ∷ 0 ∷ []) (1 ∷ 1 ∷ 0 ∷ 1 ∷ 12 ∷ 0 ∷ 0 ∷ 2 ∷ 15 ∷ 2 ∷ 0 ∷ 1 ∷ [])
    -- form buffer full, and the second child has no solved form
    ∷ run (0 ∷ 1 ∷ 120 ∷ 4 ∷ 65 ∷ 66 ∷ 67 ∷ 68 ∷ 4 ∷ 7 ∷ 0 ∷ 1 ∷ 2 ∷ 1 ∷ 0 ∷ 2 ∷ 9 ∷ 1 ∷ 3 ∷ 2 ∷ 0 ∷ 3 ∷ []) 12 3 48 (ended FORMS 4 1) (0 ∷ 5 ∷ 8 ∷ []) (1 ∷ 1 ∷ 0 ∷ 1 ∷ 2 ∷ 3 ∷ 0 ∷ 1 ∷ 12 ∷ 0 ∷ 0 ∷ 2 ∷ 15 ∷ 2 ∷ 0 ∷ 0 ∷ [])
    -- form buffer full and budget spent before a step: SPENT
    ∷ run (0 ∷ 1 ∷ 120 ∷ 4 ∷ 65 ∷ 66 ∷ 67 ∷ 68 ∷ 3 ∷ 7 ∷ 0 ∷ 1 ∷ 2 ∷ 1 ∷ 0 ∷ 2 ∷ 9 ∷ 1 ∷ 3 ∷ []) 2 3 8 (ended SPENT 2 1) (0 ∷ 5 ∷ 0 ∷ []) (1 ∷ 1 ∷ 0 ∷ 1 ∷ 12 ∷ 0 ∷ 0 ∷ 2 ∷ [])
    -- form buffer full and budget spent before a solved form: NO ROOM
    ∷ run (0 ∷ 1 ∷ 120 ∷ 3 ∷ 65 ∷ 66 ∷ 67 ∷ 2 ∷ 7 ∷ 0 ∷ 1 ∷ 2 ∷ 1 ∷ 0 ∷ 2 ∷ []) 2 3 8 (ended NOROOM 2 1) (0 ∷ 5 ∷ 0 ∷ []) (1 ∷ 1 ∷ 0 ∷ 1 ∷ 12 ∷ 0 ∷ 0 ∷ 2 ∷ [])
    -- form buffer of 0 bytes: FALSE needs none
    ∷ run (0 ∷ 0 ∷ 1 ∷ 65 ∷ 1 ∷ 6 ∷ 0 ∷ 0 ∷ []) 12 0 48 (ended FALSE 1 0) [] (7 ∷ 0 ∷ 0 ∷ 0 ∷ [])
    -- form buffer of 0 bytes: an empty record fits
    ∷ run (0 ∷ 0 ∷ 0 ∷ 0 ∷ []) 0 0 0 (ended FORMS 0 1) [] []
    -- form buffer of 0 bytes: a record of one term does not
    ∷ run (0 ∷ 1 ∷ 120 ∷ 0 ∷ 0 ∷ []) 12 0 48 (ended NOROOM 0 0) [] []
    -- no term, but sets and constraints: one empty record
    ∷ run (0 ∷ 0 ∷ 2 ∷ 65 ∷ 66 ∷ 2 ∷ 5 ∷ 0 ∷ 1 ∷ 11 ∷ 0 ∷ 0 ∷ []) 12 192 48 (ended FORMS 0 1) [] []
    -- constants −32,000 and 32,000
    ∷ run (2 ∷ 0 ∷ 131 ∷ 0 ∷ 125 ∷ 0 ∷ 0 ∷ 0 ∷ []) 12 192 48 (ended FORMS 0 1) (0 ∷ 0 ∷ 0 ∷ 1 ∷ 0 ∷ 0 ∷ []) []
    -- constant −32,001
    ∷ run (2 ∷ 255 ∷ 130 ∷ 0 ∷ 125 ∷ 0 ∷ 0 ∷ 0 ∷ []) 5 192 20 (refusal 3) [] []
    -- constant 32,001
    ∷ run (2 ∷ 0 ∷ 131 ∷ 1 ∷ 125 ∷ 0 ∷ 0 ∷ 0 ∷ []) 5 192 20 (refusal 3) [] []
    -- kind 1 is accepted
    ∷ run (0 ∷ 1 ∷ 120 ∷ 1 ∷ 65 ∷ 1 ∷ 1 ∷ 0 ∷ 0 ∷ []) 12 192 48 (ended FORMS 1 1) (0 ∷ 1 ∷ 0 ∷ []) (1 ∷ 0 ∷ 0 ∷ 1 ∷ [])
    -- kind 12 is accepted
    ∷ run (1 ∷ 3 ∷ 0 ∷ 0 ∷ 1 ∷ 65 ∷ 1 ∷ 12 ∷ 0 ∷ 0 ∷ 0 ∷ []) 12 192 48 (ended FORMS 1 1) (0 ∷ 1 ∷ 0 ∷ []) (19 ∷ 0 ∷ 0 ∷ 1 ∷ [])
    -- kind 0 is not
    ∷ run (1 ∷ 3 ∷ 0 ∷ 0 ∷ 1 ∷ 65 ∷ 1 ∷ 0 ∷ 0 ∷ 0 ∷ 0 ∷ []) 5 192 20 (refusal 7) [] []
    -- kind 13 is not
    ∷ run (1 ∷ 3 ∷ 0 ∷ 0 ∷ 1 ∷ 65 ∷ 1 ∷ 13 ∷ 0 ∷ 0 ∷ 0 ∷ []) 5 192 20 (refusal 7) [] []
    -- kind 14 is not
    ∷ run (1 ∷ 3 ∷ 0 ∷ 0 ∷ 1 ∷ 65 ∷ 1 ∷ 14 ∷ 0 ∷ 0 ∷ 0 ∷ []) 5 192 20 (refusal 7) [] []
    -- kind 255 is not
    ∷ run (1 ∷ 3 ∷ 0 ∷ 0 ∷ 1 ∷ 65 ∷ 1 ∷ 255 ∷ 0 ∷ 0 ∷ 0 ∷ []) 5 192 20 (refusal 7) [] []
    -- an empty list
    ∷ run (0 ∷ 1 ∷ 120 ∷ 1 ∷ 65 ∷ 1 ∷ 11 ∷ 0 ∷ 0 ∷ []) 12 192 48 (ended FORMS 0 1) (0 ∷ 0 ∷ 0 ∷ []) []
    -- an empty list, and x not in A
    ∷ run (0 ∷ 1 ∷ 120 ∷ 1 ∷ 65 ∷ 2 ∷ 11 ∷ 0 ∷ 0 ∷ 2 ∷ 0 ∷ 0 ∷ []) 12 192 48 (ended FORMS 1 1) (0 ∷ 0 ∷ 1 ∷ []) (2 ∷ 1 ∷ 0 ∷ 1 ∷ [])
    -- a list with a repeated entry
    ∷ run (0 ∷ 1 ∷ 120 ∷ 1 ∷ 65 ∷ 1 ∷ 11 ∷ 0 ∷ 2 ∷ 0 ∷ 0 ∷ []) 12 192 48 (ended FORMS 1 1) (0 ∷ 1 ∷ 0 ∷ []) (19 ∷ 0 ∷ 0 ∷ 1 ∷ [])
    -- a list of 255 entries
    ∷ run ((0 ∷ 1 ∷ 120 ∷ 1 ∷ 65 ∷ 1 ∷ 11 ∷ 0 ∷ 255 ∷ []) ++ replicate 255 0) 12 192 48 (ended FORMS 1 1) (0 ∷ 1 ∷ 0 ∷ []) (19 ∷ 0 ∷ 0 ∷ 1 ∷ [])
    -- a list of 255 with 254 there
    ∷ run ((0 ∷ 1 ∷ 120 ∷ 1 ∷ 65 ∷ 1 ∷ 11 ∷ 0 ∷ 255 ∷ []) ++ replicate 254 0) 5 192 20 (refusal 2) [] []
    -- an interval with i = j
    ∷ run (2 ∷ 3 ∷ 0 ∷ 4 ∷ 0 ∷ 0 ∷ 1 ∷ 65 ∷ 1 ∷ 12 ∷ 0 ∷ 1 ∷ 1 ∷ []) 12 192 48 (ended FORMS 1 1) (0 ∷ 0 ∷ 0 ∷ 1 ∷ 1 ∷ 0 ∷ []) (19 ∷ 0 ∷ 1 ∷ 1 ∷ [])
    -- an interval with j < i
    ∷ run (2 ∷ 3 ∷ 0 ∷ 4 ∷ 0 ∷ 0 ∷ 1 ∷ 65 ∷ 1 ∷ 12 ∷ 0 ∷ 1 ∷ 0 ∷ []) 12 192 48 (ended FORMS 0 1) (0 ∷ 0 ∷ 0 ∷ 1 ∷ 0 ∷ 0 ∷ []) []
    -- an interval with j < i, and 3 in A
    ∷ run (2 ∷ 3 ∷ 0 ∷ 4 ∷ 0 ∷ 0 ∷ 1 ∷ 65 ∷ 2 ∷ 12 ∷ 0 ∷ 1 ∷ 0 ∷ 1 ∷ 0 ∷ 0 ∷ []) 12 192 48 (ended FALSE 2 0) [] (1 ∷ 1 ∷ 0 ∷ 1 ∷ 20 ∷ 0 ∷ 0 ∷ 0 ∷ [])
    -- members at −32,768 and 32,767
    ∷ check (0 ∷ 1 ∷ 120 ∷ 1 ∷ 65 ∷ 1 ∷ 1 ∷ 0 ∷ 0 ∷ []) (1 ∷ 0 ∷ 128 ∷ 2 ∷ 0 ∷ 128 ∷ 255 ∷ 127 ∷ []) HOLDS
    -- 32,767 is not −32,768
    ∷ check (0 ∷ 1 ∷ 120 ∷ 1 ∷ 65 ∷ 1 ∷ 1 ∷ 0 ∷ 0 ∷ []) (1 ∷ 255 ∷ 127 ∷ 1 ∷ 0 ∷ 128 ∷ []) (FAILS 0)
    -- 255 members
    ∷ check (0 ∷ 1 ∷ 120 ∷ 1 ∷ 65 ∷ 1 ∷ 1 ∷ 0 ∷ 0 ∷ []) ((1 ∷ 254 ∷ 0 ∷ 255 ∷ []) ++ words_from 0 255) HOLDS
    -- 255 members, and not the one wanted
    ∷ check (0 ∷ 1 ∷ 120 ∷ 1 ∷ 65 ∷ 1 ∷ 1 ∷ 0 ∷ 0 ∷ []) ((1 ∷ 255 ∷ 0 ∷ 255 ∷ []) ++ words_from 0 255) (FAILS 0)
    -- 255 members, one cut off
    ∷ check (0 ∷ 1 ∷ 120 ∷ 1 ∷ 65 ∷ 1 ∷ 1 ∷ 0 ∷ 0 ∷ []) ((1 ∷ 254 ∷ 0 ∷ 255 ∷ []) ++ words_from 0 254) (declined 14)
    -- no variable, no set, no constraint
    ∷ check (0 ∷ 0 ∷ 0 ∷ 0 ∷ []) (0 ∷ []) HOLDS
    -- 26 variables and 8 sets in an assignment
    ∷ check ((0 ∷ 26 ∷ []) ++ up_from 97 26 ++ (8 ∷ 65 ∷ 66 ∷ 67 ∷ 68 ∷ 69 ∷ 70 ∷ 71 ∷ 72 ∷ 1 ∷ 1 ∷ 25 ∷ 7 ∷ [])) ((26 ∷ []) ++ repeated 26 (7 ∷ 0 ∷ []) ++ (0 ∷ 0 ∷ 0 ∷ 0 ∷ 0 ∷ 0 ∷ 0 ∷ 1 ∷ 7 ∷ 0 ∷ [])) HOLDS
    ∷ []

pub rows_hold : map given table ≡ map expected table
unfolding table given
rows_hold = refl

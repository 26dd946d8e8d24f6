-- Printed by tests/print-cases from rows/Refusals.rows: do not edit.
-- The refusals: every question answered "no", and of two such questions the first.
use mathlib.Core.Path.{◌≡◌, refl}
use mathlib.Core.List.{List, [], ◌∷◌, ◌++◌, map}
use lib.ListN.{replicate}
use Rattle.calculus.specs.Calls.{FORMS, refusal, ended, declined}
use Rattle.cases.proofs.Rows.{Row, run, check, words_from, repeated, expected, given}

unfoldable pub table : List Row
table =
    -- question 1: 4,097 bytes
    run (replicate 4097 0) 5 192 20 (refusal 1) [] []
    -- question 2: constants cut short by one byte
    ∷ run (2 ∷ 3 ∷ 0 ∷ 4 ∷ []) 5 192 20 (refusal 2) [] []
    -- question 2: a constant missing
    ∷ run (2 ∷ 3 ∷ 0 ∷ []) 5 192 20 (refusal 2) [] []
    -- question 2: constants' count alone
    ∷ run (1 ∷ []) 5 192 20 (refusal 2) [] []
    -- question 2: variables' count missing
    ∷ run (0 ∷ []) 5 192 20 (refusal 2) [] []
    -- question 2: variables cut short
    ∷ run (0 ∷ 2 ∷ 120 ∷ []) 5 192 20 (refusal 2) [] []
    -- question 2: set variables' count missing
    ∷ run (0 ∷ 0 ∷ []) 5 192 20 (refusal 2) [] []
    -- question 2: set variables cut short
    ∷ run (0 ∷ 0 ∷ 2 ∷ 65 ∷ []) 5 192 20 (refusal 2) [] []
    -- question 2: constraint count missing
    ∷ run (0 ∷ 0 ∷ 0 ∷ []) 5 192 20 (refusal 2) [] []
    -- question 2: first constraint's kind missing
    ∷ run (0 ∷ 0 ∷ 0 ∷ 1 ∷ []) 5 192 20 (refusal 2) [] []
    -- question 2: second constraint's kind missing
    ∷ run (0 ∷ 1 ∷ 120 ∷ 1 ∷ 65 ∷ 2 ∷ 1 ∷ 0 ∷ 0 ∷ []) 5 192 20 (refusal 2) [] []
    -- question 3: constants descending
    ∷ run (2 ∷ 4 ∷ 0 ∷ 3 ∷ 0 ∷ 0 ∷ 0 ∷ 0 ∷ []) 5 192 20 (refusal 3) [] []
    -- question 3: equal neighbours
    ∷ run (2 ∷ 3 ∷ 0 ∷ 3 ∷ 0 ∷ 0 ∷ 0 ∷ 0 ∷ []) 5 192 20 (refusal 3) [] []
    -- question 3: below −32,000
    ∷ run (1 ∷ 255 ∷ 130 ∷ 0 ∷ 0 ∷ 0 ∷ []) 5 192 20 (refusal 3) [] []
    -- question 3: above 32,000
    ∷ run (1 ∷ 1 ∷ 125 ∷ 0 ∷ 0 ∷ 0 ∷ []) 5 192 20 (refusal 3) [] []
    -- question 3: the lowest word, −32,768
    ∷ run (1 ∷ 0 ∷ 128 ∷ 0 ∷ 0 ∷ 0 ∷ []) 5 192 20 (refusal 3) [] []
    -- question 3: the highest word, 32,767
    ∷ run (1 ∷ 255 ∷ 127 ∷ 0 ∷ 0 ∷ 0 ∷ []) 5 192 20 (refusal 3) [] []
    -- question 3: third constant out of order
    ∷ run (3 ∷ 3 ∷ 0 ∷ 5 ∷ 0 ∷ 4 ∷ 0 ∷ 0 ∷ 0 ∷ 0 ∷ []) 5 192 20 (refusal 3) [] []
    -- question 3: last constant above the range
    ∷ run (3 ∷ 3 ∷ 0 ∷ 4 ∷ 0 ∷ 1 ∷ 125 ∷ 0 ∷ 0 ∷ 0 ∷ []) 5 192 20 (refusal 3) [] []
    -- question 4: variables descending
    ∷ run (0 ∷ 2 ∷ 121 ∷ 120 ∷ 0 ∷ 0 ∷ []) 5 192 20 (refusal 4) [] []
    -- question 4: equal variables
    ∷ run (0 ∷ 2 ∷ 120 ∷ 120 ∷ 0 ∷ 0 ∷ []) 5 192 20 (refusal 4) [] []
    -- question 4: a capital as variable
    ∷ run (0 ∷ 1 ∷ 88 ∷ 0 ∷ 0 ∷ []) 5 192 20 (refusal 4) [] []
    -- question 4: the byte before a
    ∷ run (0 ∷ 1 ∷ 96 ∷ 0 ∷ 0 ∷ []) 5 192 20 (refusal 4) [] []
    -- question 4: the byte after z
    ∷ run (0 ∷ 1 ∷ 123 ∷ 0 ∷ 0 ∷ []) 5 192 20 (refusal 4) [] []
    -- question 4: third variable out of order
    ∷ run (0 ∷ 3 ∷ 120 ∷ 122 ∷ 121 ∷ 0 ∷ 0 ∷ []) 5 192 20 (refusal 4) [] []
    -- a and z are variables
    ∷ run (0 ∷ 2 ∷ 97 ∷ 122 ∷ 0 ∷ 0 ∷ []) 12 192 48 (ended FORMS 0 1) (0 ∷ 0 ∷ 0 ∷ 1 ∷ 0 ∷ 0 ∷ []) []
    -- question 5: set variables descending
    ∷ run (0 ∷ 0 ∷ 2 ∷ 66 ∷ 65 ∷ 0 ∷ []) 5 192 20 (refusal 5) [] []
    -- question 5: equal set variables
    ∷ run (0 ∷ 0 ∷ 2 ∷ 65 ∷ 65 ∷ 0 ∷ []) 5 192 20 (refusal 5) [] []
    -- question 5: a small letter as set variable
    ∷ run (0 ∷ 0 ∷ 1 ∷ 97 ∷ 0 ∷ []) 5 192 20 (refusal 5) [] []
    -- question 5: the byte before A
    ∷ run (0 ∷ 0 ∷ 1 ∷ 64 ∷ 0 ∷ []) 5 192 20 (refusal 5) [] []
    -- question 5: the byte after Z
    ∷ run (0 ∷ 0 ∷ 1 ∷ 91 ∷ 0 ∷ []) 5 192 20 (refusal 5) [] []
    -- question 5: third set variable out of order
    ∷ run (0 ∷ 0 ∷ 3 ∷ 65 ∷ 67 ∷ 66 ∷ 0 ∷ []) 5 192 20 (refusal 5) [] []
    -- question 5: 9 sets
    ∷ run (0 ∷ 0 ∷ 9 ∷ 65 ∷ 66 ∷ 67 ∷ 68 ∷ 69 ∷ 70 ∷ 71 ∷ 72 ∷ 73 ∷ 0 ∷ []) 5 192 20 (refusal 5) [] []
    -- A and Z are set variables
    ∷ run (0 ∷ 0 ∷ 2 ∷ 65 ∷ 90 ∷ 0 ∷ []) 12 192 48 (ended FORMS 0 1) [] []
    -- question 6: 49 constraints
    ∷ run ((0 ∷ 4 ∷ 97 ∷ 98 ∷ 99 ∷ 100 ∷ 0 ∷ 49 ∷ []) ++ replicate 147 3) 5 192 20 (refusal 6) [] []
    -- question 7: kind 0
    ∷ run (0 ∷ 1 ∷ 120 ∷ 1 ∷ 65 ∷ 1 ∷ 0 ∷ 0 ∷ 0 ∷ []) 5 192 20 (refusal 7) [] []
    -- question 7: kind 13
    ∷ run (0 ∷ 1 ∷ 120 ∷ 1 ∷ 65 ∷ 1 ∷ 13 ∷ 0 ∷ 0 ∷ []) 5 192 20 (refusal 7) [] []
    -- question 7: kind 14
    ∷ run (0 ∷ 1 ∷ 120 ∷ 1 ∷ 65 ∷ 1 ∷ 14 ∷ 0 ∷ 0 ∷ []) 5 192 20 (refusal 7) [] []
    -- question 7: kind 255
    ∷ run (0 ∷ 1 ∷ 120 ∷ 1 ∷ 65 ∷ 1 ∷ 255 ∷ 0 ∷ 0 ∷ []) 5 192 20 (refusal 7) [] []
    -- question 7: in the second constraint
    ∷ run (0 ∷ 1 ∷ 120 ∷ 1 ∷ 65 ∷ 2 ∷ 1 ∷ 0 ∷ 0 ∷ 13 ∷ 0 ∷ 0 ∷ []) 5 192 20 (refusal 7) [] []
    -- question 2: last operand of kind 1 missing
    ∷ run (1 ∷ 3 ∷ 0 ∷ 0 ∷ 1 ∷ 65 ∷ 1 ∷ 1 ∷ 0 ∷ []) 5 192 20 (refusal 2) [] []
    -- question 2: last operand of kind 2 missing
    ∷ run (1 ∷ 3 ∷ 0 ∷ 0 ∷ 1 ∷ 65 ∷ 1 ∷ 2 ∷ 0 ∷ []) 5 192 20 (refusal 2) [] []
    -- question 2: last operand of kind 3 missing
    ∷ run (1 ∷ 3 ∷ 0 ∷ 0 ∷ 1 ∷ 65 ∷ 1 ∷ 3 ∷ 0 ∷ []) 5 192 20 (refusal 2) [] []
    -- question 2: last operand of kind 4 missing
    ∷ run (1 ∷ 3 ∷ 0 ∷ 0 ∷ 1 ∷ 65 ∷ 1 ∷ 4 ∷ 0 ∷ []) 5 192 20 (refusal 2) [] []
    -- question 2: last operand of kind 5 missing
    ∷ run (1 ∷ 3 ∷ 0 ∷ 0 ∷ 1 ∷ 65 ∷ 1 ∷ 5 ∷ 0 ∷ []) 5 192 20 (refusal 2) [] []
    -- question 2: last operand of kind 6 missing
    ∷ run (1 ∷ 3 ∷ 0 ∷ 0 ∷ 1 ∷ 65 ∷ 1 ∷ 6 ∷ 0 ∷ []) 5 192 20 (refusal 2) [] []
    -- question 2: last operand of kind 7 missing
    ∷ run (1 ∷ 3 ∷ 0 ∷ 0 ∷ 1 ∷ 65 ∷ 1 ∷ 7 ∷ 0 ∷ 0 ∷ []) 5 192 20 (refusal 2) [] []
    -- question 2: last operand of kind 8 missing
    ∷ run (1 ∷ 3 ∷ 0 ∷ 0 ∷ 1 ∷ 65 ∷ 1 ∷ 8 ∷ 0 ∷ []) 5 192 20 (refusal 2) [] []
    -- question 2: last operand of kind 9 missing
    ∷ run (1 ∷ 3 ∷ 0 ∷ 0 ∷ 1 ∷ 65 ∷ 1 ∷ 9 ∷ 0 ∷ []) 5 192 20 (refusal 2) [] []
    -- question 2: last operand of kind 10 missing
    ∷ run (1 ∷ 3 ∷ 0 ∷ 0 ∷ 1 ∷ 65 ∷ 1 ∷ 10 ∷ 0 ∷ 0 ∷ []) 5 192 20 (refusal 2) [] []
    -- question 2: last operand of kind 11 missing
    ∷ run (1 ∷ 3 ∷ 0 ∷ 0 ∷ 1 ∷ 65 ∷ 1 ∷ 11 ∷ 0 ∷ 1 ∷ []) 5 192 20 (refusal 2) [] []
    -- question 2: last operand of kind 12 missing
    ∷ run (1 ∷ 3 ∷ 0 ∷ 0 ∷ 1 ∷ 65 ∷ 1 ∷ 12 ∷ 0 ∷ 0 ∷ []) 5 192 20 (refusal 2) [] []
    -- question 2: all operands missing
    ∷ run (0 ∷ 1 ∷ 120 ∷ 1 ∷ 65 ∷ 1 ∷ 1 ∷ []) 5 192 20 (refusal 2) [] []
    -- question 2: all operands of a list missing
    ∷ run (0 ∷ 1 ∷ 120 ∷ 1 ∷ 65 ∷ 1 ∷ 11 ∷ []) 5 192 20 (refusal 2) [] []
    -- question 2: count of a list missing
    ∷ run (0 ∷ 1 ∷ 120 ∷ 1 ∷ 65 ∷ 1 ∷ 11 ∷ 0 ∷ []) 5 192 20 (refusal 2) [] []
    -- question 2: a list of 3 entries with 2 there
    ∷ run (0 ∷ 1 ∷ 120 ∷ 1 ∷ 65 ∷ 1 ∷ 11 ∷ 0 ∷ 3 ∷ 0 ∷ 0 ∷ []) 5 192 20 (refusal 2) [] []
    -- question 8: kind 1, term 1 where there is only term 0
    ∷ run (0 ∷ 1 ∷ 120 ∷ 2 ∷ 65 ∷ 66 ∷ 1 ∷ 1 ∷ 1 ∷ 0 ∷ []) 5 192 20 (refusal 8) [] []
    -- question 8: kind 1, set 1 where there is only set 0
    ∷ run (0 ∷ 2 ∷ 120 ∷ 121 ∷ 1 ∷ 65 ∷ 1 ∷ 1 ∷ 0 ∷ 1 ∷ []) 5 192 20 (refusal 8) [] []
    -- question 8: kind 2, term 1 where there is only term 0
    ∷ run (0 ∷ 1 ∷ 120 ∷ 2 ∷ 65 ∷ 66 ∷ 1 ∷ 2 ∷ 1 ∷ 0 ∷ []) 5 192 20 (refusal 8) [] []
    -- question 8: kind 2, set 1 where there is only set 0
    ∷ run (0 ∷ 2 ∷ 120 ∷ 121 ∷ 1 ∷ 65 ∷ 1 ∷ 2 ∷ 0 ∷ 1 ∷ []) 5 192 20 (refusal 8) [] []
    -- question 8: kind 3, first term 1 where there is only term 0
    ∷ run (0 ∷ 1 ∷ 120 ∷ 2 ∷ 65 ∷ 66 ∷ 1 ∷ 3 ∷ 1 ∷ 0 ∷ []) 5 192 20 (refusal 8) [] []
    -- question 8: kind 3, second term 1 where there is only term 0
    ∷ run (0 ∷ 1 ∷ 120 ∷ 2 ∷ 65 ∷ 66 ∷ 1 ∷ 3 ∷ 0 ∷ 1 ∷ []) 5 192 20 (refusal 8) [] []
    -- question 8: kind 4, first term 1 where there is only term 0
    ∷ run (0 ∷ 1 ∷ 120 ∷ 2 ∷ 65 ∷ 66 ∷ 1 ∷ 4 ∷ 1 ∷ 0 ∷ []) 5 192 20 (refusal 8) [] []
    -- question 8: kind 4, second term 1 where there is only term 0
    ∷ run (0 ∷ 1 ∷ 120 ∷ 2 ∷ 65 ∷ 66 ∷ 1 ∷ 4 ∷ 0 ∷ 1 ∷ []) 5 192 20 (refusal 8) [] []
    -- question 8: kind 5, first set 1 where there is only set 0
    ∷ run (0 ∷ 2 ∷ 120 ∷ 121 ∷ 1 ∷ 65 ∷ 1 ∷ 5 ∷ 1 ∷ 0 ∷ []) 5 192 20 (refusal 8) [] []
    -- question 8: kind 5, second set 1 where there is only set 0
    ∷ run (0 ∷ 2 ∷ 120 ∷ 121 ∷ 1 ∷ 65 ∷ 1 ∷ 5 ∷ 0 ∷ 1 ∷ []) 5 192 20 (refusal 8) [] []
    -- question 8: kind 6, first set 1 where there is only set 0
    ∷ run (0 ∷ 2 ∷ 120 ∷ 121 ∷ 1 ∷ 65 ∷ 1 ∷ 6 ∷ 1 ∷ 0 ∷ []) 5 192 20 (refusal 8) [] []
    -- question 8: kind 6, second set 1 where there is only set 0
    ∷ run (0 ∷ 2 ∷ 120 ∷ 121 ∷ 1 ∷ 65 ∷ 1 ∷ 6 ∷ 0 ∷ 1 ∷ []) 5 192 20 (refusal 8) [] []
    -- question 8: kind 8, first set 1 where there is only set 0
    ∷ run (0 ∷ 2 ∷ 120 ∷ 121 ∷ 1 ∷ 65 ∷ 1 ∷ 8 ∷ 1 ∷ 0 ∷ []) 5 192 20 (refusal 8) [] []
    -- question 8: kind 8, second set 1 where there is only set 0
    ∷ run (0 ∷ 2 ∷ 120 ∷ 121 ∷ 1 ∷ 65 ∷ 1 ∷ 8 ∷ 0 ∷ 1 ∷ []) 5 192 20 (refusal 8) [] []
    -- question 8: kind 9, first set 1 where there is only set 0
    ∷ run (0 ∷ 2 ∷ 120 ∷ 121 ∷ 1 ∷ 65 ∷ 1 ∷ 9 ∷ 1 ∷ 0 ∷ []) 5 192 20 (refusal 8) [] []
    -- question 8: kind 9, second set 1 where there is only set 0
    ∷ run (0 ∷ 2 ∷ 120 ∷ 121 ∷ 1 ∷ 65 ∷ 1 ∷ 9 ∷ 0 ∷ 1 ∷ []) 5 192 20 (refusal 8) [] []
    -- question 8: kind 7, first set 1 where there is only set 0
    ∷ run (0 ∷ 2 ∷ 120 ∷ 121 ∷ 1 ∷ 65 ∷ 1 ∷ 7 ∷ 1 ∷ 0 ∷ 0 ∷ []) 5 192 20 (refusal 8) [] []
    -- question 8: kind 7, second set 1 where there is only set 0
    ∷ run (0 ∷ 2 ∷ 120 ∷ 121 ∷ 1 ∷ 65 ∷ 1 ∷ 7 ∷ 0 ∷ 1 ∷ 0 ∷ []) 5 192 20 (refusal 8) [] []
    -- question 8: kind 7, third set 1 where there is only set 0
    ∷ run (0 ∷ 2 ∷ 120 ∷ 121 ∷ 1 ∷ 65 ∷ 1 ∷ 7 ∷ 0 ∷ 0 ∷ 1 ∷ []) 5 192 20 (refusal 8) [] []
    -- question 8: kind 10, first set 1 where there is only set 0
    ∷ run (0 ∷ 2 ∷ 120 ∷ 121 ∷ 1 ∷ 65 ∷ 1 ∷ 10 ∷ 1 ∷ 0 ∷ 0 ∷ []) 5 192 20 (refusal 8) [] []
    -- question 8: kind 10, second set 1 where there is only set 0
    ∷ run (0 ∷ 2 ∷ 120 ∷ 121 ∷ 1 ∷ 65 ∷ 1 ∷ 10 ∷ 0 ∷ 1 ∷ 0 ∷ []) 5 192 20 (refusal 8) [] []
    -- question 8: kind 10, third set 1 where there is only set 0
    ∷ run (0 ∷ 2 ∷ 120 ∷ 121 ∷ 1 ∷ 65 ∷ 1 ∷ 10 ∷ 0 ∷ 0 ∷ 1 ∷ []) 5 192 20 (refusal 8) [] []
    -- question 8: kind 11, set 1 where there is only set 0
    ∷ run (0 ∷ 2 ∷ 120 ∷ 121 ∷ 1 ∷ 65 ∷ 1 ∷ 11 ∷ 1 ∷ 1 ∷ 0 ∷ []) 5 192 20 (refusal 8) [] []
    -- question 8: kind 11, set 1 where there is only set 0, empty list
    ∷ run (0 ∷ 2 ∷ 120 ∷ 121 ∷ 1 ∷ 65 ∷ 1 ∷ 11 ∷ 1 ∷ 0 ∷ []) 5 192 20 (refusal 8) [] []
    -- question 8: kind 11, first entry 1 where there is only term 0
    ∷ run (0 ∷ 1 ∷ 120 ∷ 2 ∷ 65 ∷ 66 ∷ 1 ∷ 11 ∷ 0 ∷ 2 ∷ 1 ∷ 0 ∷ []) 5 192 20 (refusal 8) [] []
    -- question 8: kind 11, last entry 1 where there is only term 0
    ∷ run (0 ∷ 1 ∷ 120 ∷ 2 ∷ 65 ∷ 66 ∷ 1 ∷ 11 ∷ 0 ∷ 2 ∷ 0 ∷ 1 ∷ []) 5 192 20 (refusal 8) [] []
    -- question 8: kind 12, set 1 where there is only set 0
    ∷ run (2 ∷ 3 ∷ 0 ∷ 4 ∷ 0 ∷ 0 ∷ 1 ∷ 65 ∷ 1 ∷ 12 ∷ 1 ∷ 0 ∷ 1 ∷ []) 5 192 20 (refusal 8) [] []
    -- question 8: kind 12, first end 1 where there is only term 0
    ∷ run (1 ∷ 3 ∷ 0 ∷ 0 ∷ 2 ∷ 65 ∷ 66 ∷ 1 ∷ 12 ∷ 0 ∷ 1 ∷ 0 ∷ []) 5 192 20 (refusal 8) [] []
    -- question 8: kind 12, second end 1 where there is only term 0
    ∷ run (1 ∷ 3 ∷ 0 ∷ 0 ∷ 2 ∷ 65 ∷ 66 ∷ 1 ∷ 12 ∷ 0 ∷ 0 ∷ 1 ∷ []) 5 192 20 (refusal 8) [] []
    -- question 8: a constraint may not name a witness
    ∷ run (0 ∷ 1 ∷ 120 ∷ 2 ∷ 65 ∷ 66 ∷ 2 ∷ 6 ∷ 0 ∷ 1 ∷ 1 ∷ 1 ∷ 0 ∷ []) 5 192 20 (refusal 8) [] []
    -- question 8: a list may not name a witness
    ∷ run (0 ∷ 1 ∷ 120 ∷ 2 ∷ 65 ∷ 66 ∷ 2 ∷ 6 ∷ 0 ∷ 1 ∷ 11 ∷ 0 ∷ 1 ∷ 1 ∷ []) 5 192 20 (refusal 8) [] []
    -- question 8: a witness as an end
    ∷ run (1 ∷ 3 ∷ 0 ∷ 0 ∷ 2 ∷ 65 ∷ 66 ∷ 2 ∷ 6 ∷ 0 ∷ 1 ∷ 12 ∷ 0 ∷ 0 ∷ 1 ∷ []) 5 192 20 (refusal 8) [] []
    -- question 8: no term at all
    ∷ run (0 ∷ 0 ∷ 1 ∷ 65 ∷ 1 ∷ 1 ∷ 0 ∷ 0 ∷ []) 5 192 20 (refusal 8) [] []
    -- question 8: no set at all
    ∷ run (0 ∷ 1 ∷ 120 ∷ 0 ∷ 1 ∷ 1 ∷ 0 ∷ 0 ∷ []) 5 192 20 (refusal 8) [] []
    -- question 8: in the second constraint
    ∷ run (0 ∷ 1 ∷ 120 ∷ 1 ∷ 65 ∷ 2 ∷ 1 ∷ 0 ∷ 0 ∷ 1 ∷ 1 ∷ 0 ∷ []) 5 192 20 (refusal 8) [] []
    -- question 9: first end a variable
    ∷ run (1 ∷ 3 ∷ 0 ∷ 1 ∷ 120 ∷ 1 ∷ 65 ∷ 1 ∷ 12 ∷ 0 ∷ 1 ∷ 0 ∷ []) 5 192 20 (refusal 9) [] []
    -- question 9: second end a variable
    ∷ run (1 ∷ 3 ∷ 0 ∷ 1 ∷ 120 ∷ 1 ∷ 65 ∷ 1 ∷ 12 ∷ 0 ∷ 0 ∷ 1 ∷ []) 5 192 20 (refusal 9) [] []
    -- question 9: both ends variables
    ∷ run (0 ∷ 1 ∷ 120 ∷ 1 ∷ 65 ∷ 1 ∷ 12 ∷ 0 ∷ 0 ∷ 0 ∷ []) 5 192 20 (refusal 9) [] []
    -- question 9: a gap between neighbours
    ∷ run (2 ∷ 3 ∷ 0 ∷ 5 ∷ 0 ∷ 0 ∷ 1 ∷ 65 ∷ 1 ∷ 12 ∷ 0 ∷ 0 ∷ 1 ∷ []) 5 192 20 (refusal 9) [] []
    -- question 9: a gap in the middle
    ∷ run (4 ∷ 3 ∷ 0 ∷ 4 ∷ 0 ∷ 6 ∷ 0 ∷ 7 ∷ 0 ∷ 0 ∷ 1 ∷ 65 ∷ 1 ∷ 12 ∷ 0 ∷ 0 ∷ 3 ∷ []) 5 192 20 (refusal 9) [] []
    -- j < i with a gap is accepted
    ∷ run (2 ∷ 3 ∷ 0 ∷ 5 ∷ 0 ∷ 0 ∷ 1 ∷ 65 ∷ 1 ∷ 12 ∷ 0 ∷ 1 ∷ 0 ∷ []) 12 192 48 (ended FORMS 0 1) (0 ∷ 0 ∷ 0 ∷ 1 ∷ 0 ∷ 0 ∷ []) []
    -- a gap outside the ends is accepted
    ∷ run (4 ∷ 1 ∷ 0 ∷ 3 ∷ 0 ∷ 4 ∷ 0 ∷ 6 ∷ 0 ∷ 0 ∷ 1 ∷ 65 ∷ 1 ∷ 12 ∷ 0 ∷ 1 ∷ 2 ∷ []) 12 192 48 (ended FORMS 2 1) (0 ∷ 0 ∷ 0 ∷ 1 ∷ 1 ∷ 0 ∷ 2 ∷ 1 ∷ 0 ∷ 3 ∷ 0 ∷ 0 ∷ []) (19 ∷ 0 ∷ 1 ∷ 1 ∷ 19 ∷ 0 ∷ 2 ∷ 1 ∷ [])
    -- question 10: one byte left, no constraint
    ∷ run (0 ∷ 0 ∷ 0 ∷ 0 ∷ 0 ∷ []) 5 192 20 (refusal 10) [] []
    -- question 10: one byte left after a constraint
    ∷ run (0 ∷ 1 ∷ 120 ∷ 1 ∷ 65 ∷ 1 ∷ 1 ∷ 0 ∷ 0 ∷ 0 ∷ []) 5 192 20 (refusal 10) [] []
    -- question 10: a whole constraint left
    ∷ run (0 ∷ 1 ∷ 120 ∷ 1 ∷ 65 ∷ 1 ∷ 1 ∷ 0 ∷ 0 ∷ 1 ∷ 0 ∷ 0 ∷ []) 5 192 20 (refusal 10) [] []
    -- question 11: 65 constants
    ∷ run ((65 ∷ []) ++ words_from 0 65 ++ (0 ∷ 0 ∷ 0 ∷ [])) 5 192 20 (refusal 11) [] []
    -- question 12: budget 10,001
    ∷ run (0 ∷ 1 ∷ 120 ∷ 1 ∷ 65 ∷ 1 ∷ 1 ∷ 0 ∷ 0 ∷ []) 10001 192 40004 (refusal 12) [] []
    -- question 13: trace buffer a byte short
    ∷ run (0 ∷ 1 ∷ 120 ∷ 1 ∷ 65 ∷ 1 ∷ 1 ∷ 0 ∷ 0 ∷ []) 5 192 19 (refusal 13) [] []
    -- question 1 before 2: 4,097 bytes, a list cut short
    ∷ run ((1 ∷ 5 ∷ 0 ∷ 0 ∷ 1 ∷ 65 ∷ 48 ∷ []) ++ repeated 15 ((11 ∷ 0 ∷ 255 ∷ []) ++ replicate 255 0) ++ (11 ∷ 0 ∷ 255 ∷ []) ++ replicate 217 0) 5 192 20 (refusal 1) [] []
    -- question 1 before 3: 4,097 bytes, constants descending
    ∷ run ((2 ∷ 4 ∷ 0 ∷ 3 ∷ []) ++ replicate 4093 0) 5 192 20 (refusal 1) [] []
    -- question 2 before 3: constants cut short, descending
    ∷ run (3 ∷ 5 ∷ 0 ∷ 4 ∷ 0 ∷ []) 5 192 20 (refusal 2) [] []
    -- question 2 before 3: constants cut short, out of range
    ∷ run (2 ∷ 255 ∷ 127 ∷ 0 ∷ []) 5 192 20 (refusal 2) [] []
    -- question 3 before 2: constants descending, nothing after
    ∷ run (2 ∷ 4 ∷ 0 ∷ 3 ∷ 0 ∷ []) 5 192 20 (refusal 3) [] []
    -- question 3 before 2: constant out of range, variables cut short
    ∷ run (1 ∷ 255 ∷ 127 ∷ 2 ∷ 120 ∷ []) 5 192 20 (refusal 3) [] []
    -- question 3 before 4: constants descending, a capital as variable
    ∷ run (2 ∷ 4 ∷ 0 ∷ 3 ∷ 0 ∷ 1 ∷ 88 ∷ 0 ∷ 0 ∷ []) 5 192 20 (refusal 3) [] []
    -- question 2 before 4: variables cut short, a capital
    ∷ run (0 ∷ 2 ∷ 65 ∷ []) 5 192 20 (refusal 2) [] []
    -- question 4 before 2: a capital as variable, nothing after
    ∷ run (0 ∷ 1 ∷ 65 ∷ []) 5 192 20 (refusal 4) [] []
    -- question 4 before 2: variables descending, set variables cut short
    ∷ run (0 ∷ 2 ∷ 121 ∷ 120 ∷ 2 ∷ 65 ∷ []) 5 192 20 (refusal 4) [] []
    -- question 4 before 5: a capital as variable, a small letter as set variable
    ∷ run (0 ∷ 1 ∷ 88 ∷ 1 ∷ 97 ∷ 0 ∷ []) 5 192 20 (refusal 4) [] []
    -- question 2 before 5: set variables cut short, a small letter
    ∷ run (0 ∷ 0 ∷ 2 ∷ 97 ∷ []) 5 192 20 (refusal 2) [] []
    -- question 2 before 5: 9 sets cut short
    ∷ run (0 ∷ 0 ∷ 9 ∷ 65 ∷ 66 ∷ 67 ∷ 68 ∷ 69 ∷ 70 ∷ 71 ∷ 72 ∷ []) 5 192 20 (refusal 2) [] []
    -- question 5 before 2: a small letter as set variable, nothing after
    ∷ run (0 ∷ 0 ∷ 1 ∷ 97 ∷ []) 5 192 20 (refusal 5) [] []
    -- question 5 before 2: 9 sets, nothing after
    ∷ run (0 ∷ 0 ∷ 9 ∷ 65 ∷ 66 ∷ 67 ∷ 68 ∷ 69 ∷ 70 ∷ 71 ∷ 72 ∷ 73 ∷ []) 5 192 20 (refusal 5) [] []
    -- question 5 before 6: a small letter as set variable, 49 constraints
    ∷ run (0 ∷ 0 ∷ 1 ∷ 97 ∷ 49 ∷ []) 5 192 20 (refusal 5) [] []
    -- question 6 before 2: 49 constraints, none there
    ∷ run (0 ∷ 0 ∷ 0 ∷ 49 ∷ []) 5 192 20 (refusal 6) [] []
    -- question 6 before 7: 49 constraints, kind 13
    ∷ run (0 ∷ 0 ∷ 0 ∷ 49 ∷ 13 ∷ []) 5 192 20 (refusal 6) [] []
    -- question 7 before 2: kind 13, nothing after
    ∷ run (0 ∷ 0 ∷ 0 ∷ 1 ∷ 13 ∷ []) 5 192 20 (refusal 7) [] []
    -- question 7 before 2: kind 0, nothing after
    ∷ run (0 ∷ 0 ∷ 0 ∷ 1 ∷ 0 ∷ []) 5 192 20 (refusal 7) [] []
    -- question 7 before 8: kind 13, operands out of bounds
    ∷ run (0 ∷ 0 ∷ 0 ∷ 1 ∷ 13 ∷ 9 ∷ 9 ∷ []) 5 192 20 (refusal 7) [] []
    -- question 2 before 8: first term out of bounds, set missing
    ∷ run (0 ∷ 1 ∷ 120 ∷ 1 ∷ 65 ∷ 1 ∷ 1 ∷ 9 ∷ []) 5 192 20 (refusal 2) [] []
    -- question 2 before 8: first set out of bounds, third missing
    ∷ run (0 ∷ 1 ∷ 120 ∷ 1 ∷ 65 ∷ 1 ∷ 7 ∷ 9 ∷ 9 ∷ []) 5 192 20 (refusal 2) [] []
    -- question 2 before 8: a list's set out of bounds, count missing
    ∷ run (0 ∷ 1 ∷ 120 ∷ 1 ∷ 65 ∷ 1 ∷ 11 ∷ 9 ∷ []) 5 192 20 (refusal 2) [] []
    -- question 2 before 8: an entry out of bounds, list cut short
    ∷ run (0 ∷ 1 ∷ 120 ∷ 1 ∷ 65 ∷ 1 ∷ 11 ∷ 0 ∷ 2 ∷ 9 ∷ []) 5 192 20 (refusal 2) [] []
    -- question 2 before 9: an end a variable, the other missing
    ∷ run (0 ∷ 1 ∷ 120 ∷ 1 ∷ 65 ∷ 1 ∷ 12 ∷ 0 ∷ 0 ∷ []) 5 192 20 (refusal 2) [] []
    -- question 8 before 9: set out of bounds, a variable as end
    ∷ run (1 ∷ 3 ∷ 0 ∷ 1 ∷ 120 ∷ 1 ∷ 65 ∷ 1 ∷ 12 ∷ 1 ∷ 0 ∷ 1 ∷ []) 5 192 20 (refusal 8) [] []
    -- question 8 before 9: first end a variable, second out of bounds
    ∷ run (1 ∷ 3 ∷ 0 ∷ 1 ∷ 120 ∷ 1 ∷ 65 ∷ 1 ∷ 12 ∷ 0 ∷ 1 ∷ 2 ∷ []) 5 192 20 (refusal 8) [] []
    -- question 8 before 9: set out of bounds, a gap
    ∷ run (2 ∷ 3 ∷ 0 ∷ 5 ∷ 0 ∷ 0 ∷ 1 ∷ 65 ∷ 1 ∷ 12 ∷ 1 ∷ 0 ∷ 1 ∷ []) 5 192 20 (refusal 8) [] []
    -- question 9 before 2: a gap, next constraint missing
    ∷ run (2 ∷ 3 ∷ 0 ∷ 5 ∷ 0 ∷ 0 ∷ 1 ∷ 65 ∷ 2 ∷ 12 ∷ 0 ∷ 0 ∷ 1 ∷ []) 5 192 20 (refusal 9) [] []
    -- question 8 before 2: term out of bounds, next constraint missing
    ∷ run (0 ∷ 1 ∷ 120 ∷ 1 ∷ 65 ∷ 2 ∷ 1 ∷ 1 ∷ 0 ∷ []) 5 192 20 (refusal 8) [] []
    -- question 8 before 7: term out of bounds, next constraint of kind 13
    ∷ run (0 ∷ 1 ∷ 120 ∷ 1 ∷ 65 ∷ 2 ∷ 1 ∷ 1 ∷ 0 ∷ 13 ∷ []) 5 192 20 (refusal 8) [] []
    -- question 9 before 7: a gap, next constraint of kind 13
    ∷ run (2 ∷ 3 ∷ 0 ∷ 5 ∷ 0 ∷ 0 ∷ 1 ∷ 65 ∷ 2 ∷ 12 ∷ 0 ∷ 0 ∷ 1 ∷ 13 ∷ []) 5 192 20 (refusal 9) [] []
    -- question 9 before 8: a gap, set out of bounds in the next constraint
    ∷ run (2 ∷ 3 ∷ 0 ∷ 5 ∷ 0 ∷ 0 ∷ 1 ∷ 65 ∷ 2 ∷ 12 ∷ 0 ∷ 0 ∷ 1 ∷ 1 ∷ 0 ∷ 1 ∷ []) 5 192 20 (refusal 9) [] []
    -- question 7 before 8 of the next constraint
    ∷ run (0 ∷ 1 ∷ 120 ∷ 1 ∷ 65 ∷ 2 ∷ 13 ∷ 1 ∷ 1 ∷ 0 ∷ []) 5 192 20 (refusal 7) [] []
    -- question 8 before 10: term out of bounds, a byte left
    ∷ run (0 ∷ 1 ∷ 120 ∷ 1 ∷ 65 ∷ 1 ∷ 1 ∷ 1 ∷ 0 ∷ 0 ∷ []) 5 192 20 (refusal 8) [] []
    -- question 9 before 10: a gap, a byte left
    ∷ run (2 ∷ 3 ∷ 0 ∷ 5 ∷ 0 ∷ 0 ∷ 1 ∷ 65 ∷ 1 ∷ 12 ∷ 0 ∷ 0 ∷ 1 ∷ 0 ∷ []) 5 192 20 (refusal 9) [] []
    -- question 7 before 10: kind 13, bytes left
    ∷ run (0 ∷ 1 ∷ 120 ∷ 1 ∷ 65 ∷ 1 ∷ 13 ∷ 0 ∷ 0 ∷ 0 ∷ []) 5 192 20 (refusal 7) [] []
    -- question 8 before 11: set out of bounds, 65 constants
    ∷ run ((65 ∷ []) ++ words_from 0 65 ++ (0 ∷ 1 ∷ 65 ∷ 1 ∷ 1 ∷ 0 ∷ 1 ∷ [])) 5 192 20 (refusal 8) [] []
    -- question 9 before 11: a gap, 65 constants
    ∷ run ((65 ∷ []) ++ words_from 0 64 ++ (65 ∷ 0 ∷ 0 ∷ 1 ∷ 65 ∷ 1 ∷ 12 ∷ 0 ∷ 0 ∷ 64 ∷ [])) 5 192 20 (refusal 9) [] []
    -- question 10 before 11: a byte left, 65 constants
    ∷ run ((65 ∷ []) ++ words_from 0 65 ++ (0 ∷ 0 ∷ 0 ∷ 0 ∷ [])) 5 192 20 (refusal 10) [] []
    -- question 10 before 12: a byte left, budget 10,001
    ∷ run (0 ∷ 0 ∷ 0 ∷ 0 ∷ 0 ∷ []) 10001 192 40004 (refusal 10) [] []
    -- question 11 before 12: 65 constants, budget 10,001
    ∷ run ((65 ∷ []) ++ words_from 0 65 ++ (0 ∷ 0 ∷ 0 ∷ [])) 10001 192 40004 (refusal 11) [] []
    -- question 11 before 13: 65 constants, trace buffer short
    ∷ run ((65 ∷ []) ++ words_from 0 65 ++ (0 ∷ 0 ∷ 0 ∷ [])) 5 192 19 (refusal 11) [] []
    -- question 12 before 13: budget 10,001, trace buffer short
    ∷ run (0 ∷ 1 ∷ 120 ∷ 1 ∷ 65 ∷ 1 ∷ 1 ∷ 0 ∷ 0 ∷ []) 10001 192 40003 (refusal 12) [] []
    -- question 12 before 13: budget 10,001, no trace buffer
    ∷ run (0 ∷ 1 ∷ 120 ∷ 1 ∷ 65 ∷ 1 ∷ 1 ∷ 0 ∷ 0 ∷ []) 10001 192 0 (refusal 12) [] []
    -- question 10 before 13: a byte left, trace buffer short
    ∷ run (0 ∷ 0 ∷ 0 ∷ 0 ∷ 0 ∷ []) 1 192 0 (refusal 10) [] []
    -- assignment check, question 1: 4,097 bytes
    ∷ check (replicate 4097 0) (0 ∷ []) (declined 1)
    -- assignment check, question 2: empty problem
    ∷ check [] (0 ∷ []) (declined 2)
    -- assignment check, question 3: constants descending
    ∷ check (2 ∷ 4 ∷ 0 ∷ 3 ∷ 0 ∷ 0 ∷ 0 ∷ 0 ∷ []) (0 ∷ []) (declined 3)
    -- assignment check, question 4: a capital as variable
    ∷ check (0 ∷ 1 ∷ 88 ∷ 0 ∷ 0 ∷ []) (1 ∷ 5 ∷ 0 ∷ []) (declined 4)
    -- assignment check, question 5: a small letter as set variable
    ∷ check (0 ∷ 0 ∷ 1 ∷ 97 ∷ 0 ∷ []) (0 ∷ 1 ∷ 5 ∷ 0 ∷ []) (declined 5)
    -- assignment check, question 6: 49 constraints
    ∷ check (0 ∷ 0 ∷ 0 ∷ 49 ∷ []) (0 ∷ []) (declined 6)
    -- assignment check, question 7: kind 13
    ∷ check (0 ∷ 1 ∷ 120 ∷ 1 ∷ 65 ∷ 1 ∷ 13 ∷ 0 ∷ 0 ∷ []) (1 ∷ 5 ∷ 0 ∷ 1 ∷ 5 ∷ 0 ∷ []) (declined 7)
    -- assignment check, question 8: term out of bounds
    ∷ check (0 ∷ 1 ∷ 120 ∷ 1 ∷ 65 ∷ 1 ∷ 1 ∷ 1 ∷ 0 ∷ []) (1 ∷ 5 ∷ 0 ∷ 1 ∷ 5 ∷ 0 ∷ []) (declined 8)
    -- assignment check, question 9: a gap
    ∷ check (2 ∷ 3 ∷ 0 ∷ 5 ∷ 0 ∷ 0 ∷ 1 ∷ 65 ∷ 1 ∷ 12 ∷ 0 ∷ 0 ∷ 1 ∷ []) (0 ∷ 2 ∷ 3 ∷ 0 ∷ 5 ∷ 0 ∷ []) (declined 9)
    -- assignment check, question 10: a byte left
    ∷ check (0 ∷ 1 ∷ 120 ∷ 1 ∷ 65 ∷ 1 ∷ 1 ∷ 0 ∷ 0 ∷ 0 ∷ []) (1 ∷ 5 ∷ 0 ∷ 1 ∷ 5 ∷ 0 ∷ []) (declined 10)
    -- assignment check, question 11: 65 constants
    ∷ check ((65 ∷ []) ++ words_from 0 65 ++ (0 ∷ 0 ∷ 0 ∷ [])) (0 ∷ []) (declined 11)
    -- question 14: empty assignment
    ∷ check (0 ∷ 1 ∷ 120 ∷ 1 ∷ 65 ∷ 1 ∷ 1 ∷ 0 ∷ 0 ∷ []) [] (declined 14)
    -- question 14: count byte too small
    ∷ check (0 ∷ 1 ∷ 120 ∷ 1 ∷ 65 ∷ 1 ∷ 1 ∷ 0 ∷ 0 ∷ []) (0 ∷ 1 ∷ 5 ∷ 0 ∷ []) (declined 14)
    -- question 14: count byte too large
    ∷ check (0 ∷ 1 ∷ 120 ∷ 1 ∷ 65 ∷ 1 ∷ 1 ∷ 0 ∷ 0 ∷ []) (2 ∷ 5 ∷ 0 ∷ 5 ∷ 0 ∷ 1 ∷ 5 ∷ 0 ∷ []) (declined 14)
    -- question 14: values cut short by one byte
    ∷ check (0 ∷ 1 ∷ 120 ∷ 1 ∷ 65 ∷ 1 ∷ 1 ∷ 0 ∷ 0 ∷ []) (1 ∷ 5 ∷ []) (declined 14)
    -- question 14: values missing
    ∷ check (0 ∷ 1 ∷ 120 ∷ 1 ∷ 65 ∷ 1 ∷ 1 ∷ 0 ∷ 0 ∷ []) (1 ∷ []) (declined 14)
    -- question 14: values cut short by one byte, no set
    ∷ check (0 ∷ 1 ∷ 120 ∷ 0 ∷ 0 ∷ []) (1 ∷ 5 ∷ []) (declined 14)
    -- question 14: set count missing
    ∷ check (0 ∷ 1 ∷ 120 ∷ 1 ∷ 65 ∷ 1 ∷ 1 ∷ 0 ∷ 0 ∷ []) (1 ∷ 5 ∷ 0 ∷ []) (declined 14)
    -- question 14: second set count missing
    ∷ check (0 ∷ 1 ∷ 120 ∷ 2 ∷ 65 ∷ 66 ∷ 1 ∷ 1 ∷ 0 ∷ 0 ∷ []) (1 ∷ 5 ∷ 0 ∷ 1 ∷ 5 ∷ 0 ∷ []) (declined 14)
    -- question 14: members missing
    ∷ check (0 ∷ 1 ∷ 120 ∷ 1 ∷ 65 ∷ 1 ∷ 1 ∷ 0 ∷ 0 ∷ []) (1 ∷ 5 ∷ 0 ∷ 1 ∷ []) (declined 14)
    -- question 14: members cut short by one byte
    ∷ check (0 ∷ 1 ∷ 120 ∷ 1 ∷ 65 ∷ 1 ∷ 1 ∷ 0 ∷ 0 ∷ []) (1 ∷ 5 ∷ 0 ∷ 2 ∷ 5 ∷ 0 ∷ 6 ∷ []) (declined 14)
    -- question 14: members descending
    ∷ check (0 ∷ 1 ∷ 120 ∷ 1 ∷ 65 ∷ 1 ∷ 1 ∷ 0 ∷ 0 ∷ []) (1 ∷ 5 ∷ 0 ∷ 2 ∷ 6 ∷ 0 ∷ 5 ∷ 0 ∷ []) (declined 14)
    -- question 14: equal members
    ∷ check (0 ∷ 1 ∷ 120 ∷ 1 ∷ 65 ∷ 1 ∷ 1 ∷ 0 ∷ 0 ∷ []) (1 ∷ 5 ∷ 0 ∷ 2 ∷ 5 ∷ 0 ∷ 5 ∷ 0 ∷ []) (declined 14)
    -- question 14: third member out of order
    ∷ check (0 ∷ 1 ∷ 120 ∷ 1 ∷ 65 ∷ 1 ∷ 1 ∷ 0 ∷ 0 ∷ []) (1 ∷ 5 ∷ 0 ∷ 3 ∷ 5 ∷ 0 ∷ 7 ∷ 0 ∷ 6 ∷ 0 ∷ []) (declined 14)
    -- question 14: members of the second set descending
    ∷ check (0 ∷ 1 ∷ 120 ∷ 2 ∷ 65 ∷ 66 ∷ 1 ∷ 1 ∷ 0 ∷ 0 ∷ []) (1 ∷ 5 ∷ 0 ∷ 1 ∷ 5 ∷ 0 ∷ 2 ∷ 6 ∷ 0 ∷ 5 ∷ 0 ∷ []) (declined 14)
    -- question 14: a byte left over
    ∷ check (0 ∷ 1 ∷ 120 ∷ 1 ∷ 65 ∷ 1 ∷ 1 ∷ 0 ∷ 0 ∷ []) (1 ∷ 5 ∷ 0 ∷ 1 ∷ 5 ∷ 0 ∷ 0 ∷ []) (declined 14)
    -- question 14: a byte left over, no variable and no set
    ∷ check (0 ∷ 0 ∷ 0 ∷ 0 ∷ []) (0 ∷ 0 ∷ []) (declined 14)
    -- question 14: empty assignment, no variable and no set
    ∷ check (0 ∷ 0 ∷ 0 ∷ 0 ∷ []) [] (declined 14)
    -- question 14 before the constraints: members descending, and the constraint fails
    ∷ check (0 ∷ 1 ∷ 120 ∷ 1 ∷ 65 ∷ 1 ∷ 1 ∷ 0 ∷ 0 ∷ []) (1 ∷ 4 ∷ 0 ∷ 2 ∷ 6 ∷ 0 ∷ 5 ∷ 0 ∷ []) (declined 14)
    -- question 14: a value for the witness is one too many
    ∷ check (0 ∷ 1 ∷ 120 ∷ 2 ∷ 65 ∷ 66 ∷ 1 ∷ 6 ∷ 0 ∷ 1 ∷ []) (2 ∷ 5 ∷ 0 ∷ 6 ∷ 0 ∷ 0 ∷ 1 ∷ 5 ∷ 0 ∷ []) (declined 14)
    -- question 2 before 14: empty problem, empty assignment
    ∷ check [] [] (declined 2)
    -- question 10 before 14: a byte left in the problem, assignment empty
    ∷ check (0 ∷ 1 ∷ 120 ∷ 1 ∷ 65 ∷ 1 ∷ 1 ∷ 0 ∷ 0 ∷ 0 ∷ []) [] (declined 10)
    -- question 11 before 14: 65 constants, assignment empty
    ∷ check ((65 ∷ []) ++ words_from 0 65 ++ (0 ∷ 0 ∷ 0 ∷ [])) [] (declined 11)
    -- question 9 before 14: a gap, assignment empty
    ∷ check (2 ∷ 3 ∷ 0 ∷ 5 ∷ 0 ∷ 0 ∷ 1 ∷ 65 ∷ 1 ∷ 12 ∷ 0 ∷ 0 ∷ 1 ∷ []) [] (declined 9)
    ∷ []

pub rows_hold : map given table ≡ map expected table
unfolding table given
rows_hold = refl

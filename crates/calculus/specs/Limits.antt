-- Document 01's limits, and the bytes of a record: each number stands here, and in crate terms for the code.
use Rattle.std.specs.Prelude.{ℕ}

-- question 1: the bytes of a problem
abbrev pub most_bytes : ℕ
most_bytes = 4096

-- question 5: the sets
abbrev pub most_sets : ℕ
most_sets = 8

-- question 6: the constraints
abbrev pub most_constraints : ℕ
most_constraints = 48

-- question 11: the terms, witnesses too
abbrev pub most_terms : ℕ
most_terms = 64

-- question 12: the steps of a budget
abbrev pub most_steps : ℕ
most_steps = 10000

-- a record has three bytes for each term: root, inside mask, outside mask
abbrev pub term_bytes : ℕ
term_bytes = 3

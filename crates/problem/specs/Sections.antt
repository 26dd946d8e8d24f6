-- The sections of a problem, one by one: what each function answers. Assumes nothing: these are definitions.
use Rattle.std.specs.Prelude.{◌≡◌, Bool, ◌&&◌, List, [], ◌∷◌, ℕ, ◌+◌, ◌*◌, ◌-◌, ◌%◌, length, leb, Result}
use Rattle.std.specs.Borrow.{Bor}
use Rattle.calculus.specs.Limits.{most_sets, most_constraints}
use Rattle.calculus.specs.Meaning.{Constraint}
use Rattle.calculus.specs.Problem.{uses}
use Rattle.calculus.specs.Encoding.{encode_constraint}
use Rattle.calculus.specs.Reading.{Parsed, parsed, ◌>>=◌, ask, byte, bytes, words, ascending, in_range, letters}
use Rattle.questions.specs.declared.refusal.Refusal.{Refusal}
use Rattle.questions.specs.Answers.{Answers}
use Rattle.slices.specs.Bytes.{places_from, filled}
use Rattle.problem.specs.declared.table.Line.{Line}
use Rattle.problem.specs.declared.sections.Found.{Found}

-- ---- a section

-- a count n and size bytes for each: n, the bytes, and what follows
unfoldable pub counted : ℕ → List ℕ → Parsed (ℕ × List ℕ × List ℕ)
counted size bs = do
  (n, r₁) ← byte bs
  (xs, r₂) ← bytes (size * n) r₁
  parsed (n, xs, r₂)

-- and then a question
unfoldable pub section : ℕ → ℕ → (ℕ → List ℕ → Bool) → List ℕ → Parsed (ℕ × List ℕ × List ℕ)
section size number test bs = do
  (n, xs, r) ← counted size bs
  _ ← ask number (test n xs)
  parsed (n, xs, r)

abbrev pub constants_test : ℕ → List ℕ → Bool
constants_test k ws = ascending (words ws) && in_range (words ws)

abbrev pub letters_test : (lo hi : ℕ) → ℕ → List ℕ → Bool
letters_test lo hi n ns = letters lo hi ns

abbrev pub variables_test : ℕ → List ℕ → Bool
variables_test = letters_test 97 122

abbrev pub sets_test : ℕ → List ℕ → Bool
sets_test s ss = letters 65 90 ss && leb s most_sets

abbrev pub constants_section : List ℕ → Parsed (ℕ × List ℕ × List ℕ)
constants_section = section 2 3 constants_test

-- refused with a number, unless the letters are as told
abbrev pub letters_section : ℕ → (lo hi : ℕ) → List ℕ → Parsed (ℕ × List ℕ × List ℕ)
letters_section number lo hi = section 1 number (letters_test lo hi)

abbrev pub variables_section : List ℕ → Parsed (ℕ × List ℕ × List ℕ)
variables_section = section 1 4 variables_test

abbrev pub sets_section : List ℕ → Parsed (ℕ × List ℕ × List ℕ)
sets_section = section 1 5 sets_test

-- a part and what follows it are those that were parsed, with size bytes for each of the count
abbrev pub SplitAs : ℕ → ℕ × List ℕ × List ℕ → Bor (List ℕ) × Bor (List ℕ) → Type 0
SplitAs size a r = (length r.0.now ≡ size * a.0) × (r.0.now ≡ a.1) × (r.1.now ≡ a.2)

abbrev pub Splits : ℕ → Parsed (ℕ × List ℕ × List ℕ) → Result (Bor (List ℕ) × Bor (List ℕ)) Refusal → Type 0
Splits size = Answers (SplitAs size)

-- ---- the constraints

-- the term number of each one's witness, w being the next: that one too where it has none
abbrev pub witnesses_from : ℕ → List Constraint → List ℕ
witnesses_from w ls = places_from uses w ls

-- a line for each: where it stands, and the number of its witness
abbrev pub no_line : Line
no_line = record { at = 0; witness = record { 0 = 0 } }

abbrev pub lines_from : (at w : ℕ) → List Constraint → List Line
lines_from at w [] = []
lines_from at w (l ∷ ls) = record { at = at; witness = record { 0 = w } } ∷ lines_from (at + length (encode_constraint l)) (w + uses l) ls

-- a witness is told by its last byte, since question 11 comes later
abbrev pub lines_found : (at w : ℕ) → List Constraint → List Line
lines_found at w [] = []
lines_found at w (l ∷ ls) = record { at = at; witness = record { 0 = w % 256 } } ∷ lines_found (at + length (encode_constraint l)) (w + uses l) ls

-- how many bytes they have of a number of bytes, how many terms there are, and the lines
unfoldable pub found_of : (at w len : ℕ) → List Constraint × ℕ × List ℕ → Found
found_of at w len a = record { length = len - length a.2; terms = a.1; lines = filled no_line most_constraints (lines_found at w a.0) }

abbrev pub FoundAs : (at w len : ℕ) → List Constraint × ℕ × List ℕ → Found → Type 0
FoundAs at w len a r = r ≡ found_of at w len a

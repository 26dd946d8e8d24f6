-- What the functions that ask the questions compute. Assumes nothing: these are definitions.
use Rattle.std.specs.Prelude.{◌≡◌, ◌&&◌, cond, List, [], ◌∷◌, ℕ, ◌+◌, ◌*◌, ◌-◌, length, get_or, take, drop, zip, ltb, leb, ℤ, Result, Ok, Err}
use Rattle.std.specs.List.{list_all}
use Rattle.calculus.specs.Meaning.{Constraint}
use Rattle.calculus.specs.Problem.{uses}
use Rattle.calculus.specs.Reading as reading
use Rattle.calculus.specs.Reading.{words, gapless}
use Rattle.slices.specs.Bytes.{word_at}
use Rattle.questions.specs.declared.Scanned.{Scanned}
use Rattle.questions.specs.declared.refusal.Refusal.{Refusal}
use Rattle.questions.specs.declared.refusal.Refusal.TheVariants as refusals
use Rattle.questions.specs.declared.kind.Kind.{Kind}
use Rattle.questions.specs.declared.kind.Kind.TheVariants.{Member, Nonmember, Same, Different, Equal, Unequal, Union, Disjoint, Subset, Intersection, Exactly, Interval}
use Rattle.questions.specs.Answers.{Answers}

-- constant p
abbrev pub constant_at : List ℕ → ℕ → ℤ
constant_at bs p = word_at bs (1 + 2 * p)

-- the first k constants of a problem
unfoldable pub constants_of : List ℕ → ℕ → List ℤ
constants_of bs k = words (take (2 * k) (drop 1 bs))

-- ---- a constraint: refused by a question, or how many bytes and witnesses it has

-- of a constraint that begins a number of bytes, which leaves the bytes after it
abbrev pub ScannedAs : ℕ → Constraint × List ℕ → Scanned → Type 0
ScannedAs len a s = (s.length ≡ len - length a.1) × (s.witnesses ≡ uses a.0)

abbrev pub Scans : ℕ → reading.Parsed (Constraint × List ℕ) → Result Scanned Refusal → Type 0
Scans len = Answers (ScannedAs len)

-- as many operands as bounds, each below its own
unfoldable pub operands_at : (bounds bs : List ℕ) → Result ℕ Refusal
operands_at bounds bs =
    cond (leb (length bounds) (length bs))
    (cond (list_all (λ p. ltb p.0 p.1) (zip (take (length bounds) bs) bounds)) (Ok (length bounds)) (Err refusals.Operand))
    (Err refusals.CutShort)

-- a set, a count n and n terms
unfoldable pub list_at : (N S : ℕ) (bs : List ℕ) → Result ℕ Refusal
list_at N S bs =
    cond (leb 2 (length bs))
    (let n = get_or bs 1 0 in
    cond (leb (2 + n) (length bs))
    (cond (ltb (get_or bs 0 0) S && list_all (λ e. ltb e N) (take n (drop 2 bs))) (Ok (2 + n)) (Err refusals.Operand))
    (Err refusals.CutShort))
    (Err refusals.CutShort)

-- a set and two terms, and then what question 9 asks of them
abbrev pub then_gapless : List ℤ → List ℕ → Result ℕ Refusal → Result ℕ Refusal
then_gapless ws bs (Ok n) =
    let i = get_or bs 1 0 in
    let j = get_or bs 2 0 in
    cond (ltb i (length ws) && ltb j (length ws) && gapless ws i j) (Ok n) (Err refusals.Interval)
then_gapless ws bs (Err q) = Err q

unfoldable pub interval_at : List ℤ → ℕ → ℕ → List ℕ → Result ℕ Refusal
interval_at ws N S bs = then_gapless ws bs (operands_at (S ∷ N ∷ N ∷ []) bs)

-- the operands of each kind
abbrev pub kind_at : Kind → (ws : List ℤ) (N S : ℕ) (bs : List ℕ) → Result ℕ Refusal
kind_at Member ws N S = operands_at (N ∷ S ∷ [])
kind_at Nonmember ws N S = operands_at (N ∷ S ∷ [])
kind_at Same ws N S = operands_at (N ∷ N ∷ [])
kind_at Different ws N S = operands_at (N ∷ N ∷ [])
kind_at Equal ws N S = operands_at (S ∷ S ∷ [])
kind_at Unequal ws N S = operands_at (S ∷ S ∷ [])
kind_at Union ws N S = operands_at (S ∷ S ∷ S ∷ [])
kind_at Disjoint ws N S = operands_at (S ∷ S ∷ [])
kind_at Subset ws N S = operands_at (S ∷ S ∷ [])
kind_at Intersection ws N S = operands_at (S ∷ S ∷ S ∷ [])
kind_at Exactly ws N S = list_at N S
kind_at Interval ws N S = interval_at ws N S

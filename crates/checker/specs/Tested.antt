-- The values that the assignment check sees: a constant's in the problem's bytes, a variable's and a set's members in the assignment's.
use Rattle.std.specs.Prelude as result
use Rattle.std.specs.Prelude.{Bool, ◌&&◌, cond, List, [], map, ℕ, ◌+◌, ◌*◌, ◌-◌, ltb, ℤ, Some, None}
use Rattle.std.proofs.Math.Option.{Option, none, some}
use Rattle.calculus.specs.Meaning.{Valuation}
use Rattle.calculus.specs.Lists.{all}
use Rattle.calculus.specs.Relations.{holds_at}
use Rattle.calculus.specs.Reading.{words}
use Rattle.calculus.specs.Check.{has}
use Rattle.slices.specs.Bytes.{word_at}
use Rattle.assignment.specs.Laid.{part_of}
use Rattle.constraints.specs.declared.Relation.{Relation}
use Rattle.constraints.specs.Decoded.{relation_of}
use Rattle.checker.specs.declared.seen.Seen.{Seen}

-- a relation of three sets, at one whole number
abbrev pub related_at : Relation → List ℕ → List ℕ → List ℕ → ℤ → Bool
related_at k l m r x = holds_at (relation_of k) (has (words l) x) (has (words m) x) (has (words r) x)

-- the number at a term's two bytes
abbrev pub value_at : Seen → ℕ → ℤ
value_at s t = cond (ltb t s.problem.table.constants) (word_at s.problem.bytes.now (1 + 2 * t)) (word_at s.handed.values.now (2 * (t - s.problem.table.constants)))

abbrev pub seen : Seen → Valuation
seen s = record { num = λ t. value_at s t.index; members = λ A. words (part_of s.handed A.index) }

-- every member is the value of some entry, and every entry's value is a member
abbrev pub entries_in : Seen → List ℕ → List ℤ → Bool
entries_in s es xs = all (has (map (value_at s) es)) xs && all (λ e. has xs (value_at s e)) es

-- the lowest constraint that fails, if one does
abbrev pub failing : result.Option ℕ → Option ℕ
failing (Some i) = some i
failing None = none

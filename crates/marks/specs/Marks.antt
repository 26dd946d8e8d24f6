-- The literals that a constraint's rules need, and its other marks, as bits.
use Rattle.std.specs.Prelude.{◌≡◌, true, ℕ, ◌^◌, ◌<◌}
use Rattle.calculus.specs.Lists.{bit}
use Rattle.calculus.specs.Meaning.{Constraint}
use Rattle.places.specs.Places.{split_span, InSpan, RuleOf}
use Rattle.constraints.specs.declared.Relation.{Relation}
use Rattle.constraints.specs.declared.Operands.{Operands}
use Rattle.constraints.specs.declared.Constraint.TheVariants.{Related}
use Rattle.constraints.specs.Decoded.{decoded}
use Rattle.quiet.specs.Quiet.{needs, pairs, pair_mark, rest_mark, split_mark, mark_count}

-- A word has each literal that rule j of a constraint needs, and pair_mark if it needs two facts of one class.
pub record RuleNeeds (l : Constraint) (j word : ℕ) : Type 0 where
  pub needing : (k : ℕ) → needs l j k ≡ true → bit word k ≡ true
  pub paired : pairs l j ≡ true → bit word pair_mark ≡ true

-- A word has what propagation rule j of these sets needs, whatever relation has the rule; it has literals and pair_mark alone.
pub record Premised (s : Operands) (j word : ℕ) : Type 0 where
  pub small : word < 2 ^ rest_mark
  pub needed : (k : Relation) → RuleOf (decoded (Related k s)) j → RuleNeeds (decoded (Related k s)) j word

-- A word has what all rules of a constraint need, and split_mark if it has a split.
pub record NeedsOf (l : Constraint) (word : ℕ) : Type 0 where
  pub rules : (j : ℕ) → RuleOf l j → RuleNeeds l j word
  pub splits : (j : ℕ) → InSpan (split_span l) j → bit word split_mark ≡ true
  pub small : word < 2 ^ mark_count

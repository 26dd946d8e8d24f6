-- The lowest constraint that fails.
use mathlib.Core.Path.{◌≡◌, refl, sym, ap, ◌∙◌}
use mathlib.Core.Bool.{Bool, true, false}
use mathlib.Core.List.{List, ◌∷◌}
use Prim.Native.Nat.{ℕ, zero, suc, ◌<◌, ◌≤◌}
use native.Mathlib.Omega.{arith}
use lib.ListN.{length, get_or, drop, drop_of_length-le}
use lib.Seq.{drop-cons}
use Rattle.std.specs.Option.{MatchOption}
use Rattle.std.specs.Prelude as result
use Rattle.std.specs.Prelude.{None, Some}
use Rattle.calculus.specs.Meaning.{Constraint}
use Rattle.calculus.specs.Reading.{read}
use Rattle.calculus.specs.Check.{holds?, lowest}
use Rattle.problem.specs.Table.{no_constraint, constraints_of, constraint_of}
use Rattle.problem.proofs.Access.{constraint_count}
use Rattle.checker.specs.declared.seen.Seen.{Seen}
use Rattle.checker.specs.Tested.{seen, failing}

module _ (s : Seen) where
  abbrev all : List Constraint
  all = constraints_of (read s.problem.bytes.now)

  count : s.problem.table.constraints ≡ length all
  count = constraint_count s.problem.bytes.now s.problem.table s.problem.opened

  -- what the test of constraint i says
  abbrev pub Tests : Bool → ℕ → Type 0
  Tests b i = b ≡ holds? (seen s) (constraint_of s.problem.bytes.now i)

  next : (i : ℕ) → i < s.problem.table.constraints → lowest (seen s) i (drop i all) ≡ lowest (seen s) i (get_or all i no_constraint ∷ drop (suc i) all)
  next i l = ap (lowest (seen s) i) (drop-cons all i no_constraint (omega (arith, count)))

  -- all before constraint i are true
  passed : (i : ℕ) → i ≤ s.problem.table.constraints → ((k : ℕ) → 0 ≤ k → k < i → Tests true k) → lowest (seen s) 0 all ≡ lowest (seen s) i (drop i all)
  unfolding constraint_of
  passed zero l t = refl
  passed (suc i) l t = passed i (omega arith) (λ k a b. t k a (omega arith)) ∙ next i (omega arith) ∙ rw (sym (t i (omega arith) (omega arith)), lowest) refl

  pub first_false : (r : result.Option ℕ) → MatchOption r ((k : ℕ) → 0 ≤ k → k < s.problem.table.constraints → Tests true k) (λ i. (0 ≤ i) × (i < s.problem.table.constraints) × Tests false i × ((k : ℕ) → 0 ≤ k → k < i → Tests true k)) → lowest (seen s) 0 all ≡ failing r
  unfolding constraint_of
  first_false None h = let n = s.problem.table.constraints in passed n (omega arith) h ∙ ap (lowest (seen s) n) (drop_of_length-le all (omega (arith, count)))
  first_false (Some i) h = passed i (omega (arith, h.1)) h.3 ∙ next i h.1 ∙ rw (sym h.2, lowest) refl

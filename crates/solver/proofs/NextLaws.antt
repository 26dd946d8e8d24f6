-- What is done next in a branch, by the places that the two searches find.
use mathlib.Core.Path.{◌≡◌, ap, ◌∙◌}
use mathlib.Core.Bool.{Bool, true, false}
use mathlib.Core.Option.{Option, none, some}
use mathlib.Core.List.{List, [], ◌∷◌, map}
use Prim.Native.Nat.{ℕ}
use lib.ListN.{length}
use Rattle.calculus.specs.Lists.{Each}
use Rattle.calculus.specs.Terms.{Term}
use Rattle.calculus.specs.Relations.{applies}
use Rattle.calculus.specs.Meaning.{Constraint}
use Rattle.calculus.specs.Branch.{Branch, known}
use Rattle.calculus.specs.Search.{propagations, splits, roots_of, Candidate, candidates, solved, step, children, taken, next}
use Rattle.calculus.specs.Invariants.{Falls, ConstraintIn}
use Rattle.calculus.proofs.SearchLaws.{first_left, first_none_app}
use Rattle.branch.specs.Held.{restrict}
use Rattle.branch.proofs.Restricting.{Among}
use Rattle.search.specs.First.{first_place_of}
use Rattle.solver.proofs.RestrictNext.{restrict_next, restrict_next_of}

-- a split is looked for only where no propagation rule applies
abbrev pub Before : ℕ → List Constraint → Branch → Bool → Type 0
Before n ls b false = Unit {0}
Before n ls b true = first_place_of false n ls b ≡ none

module _ (n m : ℕ) (k : List Term) (ls : List Constraint) (li : Each (ConstraintIn n m) ls) (am : Among n k) (b : Branch) (fall : Falls b.parents) where
  abbrev applying : Candidate → Bool
  applying p = applies (known b) p.move

  -- the record of a step
  abbrev pub record_at : Candidate → List ℕ
  record_at c = c.move.rule ∷ c.constraint ∷ c.concerned.index ∷ length (children k b c.move) ∷ []

  pub none_next : first_place_of false n ls b ≡ none → first_place_of true n ls b ≡ none → next n k ls (restrict n b) ≡ solved
  unfolding next first_place_of
  none_next e f = restrict_next_of n m k ls li am b fall
      ∙ ap (λ (o : Option Candidate). restrict_next n (taken k b o)) (first_none_app applying (candidates (propagations (roots_of n b) b) 0 ls) (candidates (splits (roots_of n b) b) 0 ls) e ∙ f)

  -- the first place that was found is the next step's: that of a split, where no propagation rule applies
  pub found_next : (split : Bool) (c : Candidate) → Before n ls b split → first_place_of split n ls b ≡ some c → next n k ls (restrict n b) ≡ step (record_at c) (map (restrict n) (children k b c.move))
  unfolding next first_place_of
  found_next false c s e = restrict_next_of n m k ls li am b fall
      ∙ ap (λ (o : Option Candidate). restrict_next n (taken k b o)) (first_left applying (candidates (propagations (roots_of n b) b) 0 ls) (candidates (splits (roots_of n b) b) 0 ls) c e)
  found_next true c s e = restrict_next_of n m k ls li am b fall
      ∙ ap (λ (o : Option Candidate). restrict_next n (taken k b o)) (first_none_app applying (candidates (propagations (roots_of n b) b) 0 ls) (candidates (splits (roots_of n b) b) 0 ls) s ∙ e)

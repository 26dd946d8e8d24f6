-- What a search answers: the first place of the calculus where a rule applies.
use Rattle.std.specs.Prelude as result
use Rattle.std.specs.Prelude.{◌≡◌, Bool, true, List, ℕ, ◌<◌, length, get_or, Some, None}
use Rattle.std.proofs.Math.Option.{Option, none, some}
use Rattle.calculus.specs.Limits.{most_terms}
use Rattle.calculus.specs.Lists.{first, bit}
use Rattle.calculus.specs.Terms.{term}
use Rattle.calculus.specs.Relations.{applies}
use Rattle.calculus.specs.Meaning.{Constraint}
use Rattle.calculus.specs.Branch.{Branch, root_at, known}
use Rattle.calculus.specs.Search.{Candidate, candidates}
use Rattle.problem.specs.Table.{no_constraint}
use Rattle.constraints.specs.Decoded.{decoded, Handled}
use Rattle.places.specs.Places.{span_of, InSpan, move_at, entries_of, offers}
use Rattle.quiet.specs.Quiet.{Quiet}
use Rattle.search.specs.declared.Found.{Found}

-- A place by numbers. The position is an entry's number for rule 19, and the root for any other rule.
pub record Spot : Type 0 where
  pub constraint : ℕ
  pub rule : ℕ
  pub position : ℕ

-- What the calculus tries at a place.
abbrev pub candidate_at : List Constraint → Branch → Spot → Candidate
candidate_at ls b p = record { constraint = p.constraint; concerned = (move_at b (get_or ls p.constraint no_constraint) p.rule p.position).0; move = (move_at b (get_or ls p.constraint no_constraint) p.rule p.position).1 }

-- The place is there: its constraint is one of the problem's, and its rule is a propagation rule, or the split, of that constraint. Its position is the number of an entry, or of the term concerned.
pub record Within (split : Bool) (n : ℕ) (ls : List Constraint) (b : Branch) (p : Spot) : Type 0 where
  pub in_problem : p.constraint < length ls
  pub of_rule : InSpan (span_of split (get_or ls p.constraint no_constraint)) p.rule
  pub of_entry : p.rule ≡ 19 → p.position < length (entries_of (get_or ls p.constraint no_constraint))
  pub of_root : ¬ (p.rule ≡ 19) → (p.position < most_terms) × ((move_at b (get_or ls p.constraint no_constraint) p.rule p.position).0 ≡ term p.position)

-- The first candidate that applies: of the propagation rules, or of the splits.
unfoldable pub first_place_of : Bool → ℕ → List Constraint → Branch → Option Candidate
first_place_of split n ls b = first (λ (c : Candidate). applies (known b) c.move) (candidates (offers split n b) 0 ls)

-- The place of an answer, with a position.
abbrev pub spot : Found → ℕ → Spot
spot r position = record { constraint = r.number; rule = r.instance.rule; position = position }

-- The answer says what is at its place: the term concerned, which is a root below n, and the constraint as decoded. The code handles it.
pub record Located (split : Bool) (n : ℕ) (ls : List Constraint) (b : Branch) (r : Found) (position : ℕ) : Type 0 where
  pub within : Within split n ls b (spot r position)
  pub concerns : (move_at b (get_or ls r.number no_constraint) r.instance.rule position).0 ≡ term r.instance.root.0
  pub low : r.instance.root.0 < n
  pub rooted : root_at b r.instance.root.0 ≡ r.instance.root.0
  pub opened : get_or ls r.number no_constraint ≡ decoded r.instance.constraint
  pub handled : Handled r.instance.constraint

-- An answer is the first place, with some position. Of the constraints that are not left none has a place.
pub record IsFirst (split : Bool) (n : ℕ) (ls : List Constraint) (b : Branch) (r : Found) : Type 0 where
  pub position : ℕ
  pub first_is : first_place_of split n ls b ≡ some (candidate_at ls b (spot r position))
  pub located : Located split n ls b r position
  pub quiet : Quiet split n ls b r.left
  pub low : (i : ℕ) → bit r.left i ≡ true → i < length ls

-- That is what a search answers; or nothing, if there is no first place: then no constraint has one.
abbrev pub Finds : Bool → ℕ → List Constraint → Branch → result.Option Found → Type 0
Finds split n ls b (Some r) = IsFirst split n ls b r
Finds split n ls b None = (first_place_of split n ls b ≡ none) × Quiet split n ls b 0

-- What working a branch comes to.
use Rattle.std.specs.Prelude.{◌≡◌, Bool, false, true, ◌&&◌, List, map, ℕ, suc, ◌-◌, ◌≤◌, ◌<◌, length, get_or}
use Rattle.std.proofs.Math.Option.{none, some}
use Rattle.calculus.specs.Lists.{up_from, any, gather, picked, bit}
use Rattle.calculus.specs.Terms.{Term, terms_from}
use Rattle.calculus.specs.Meaning.{Constraint}
use Rattle.calculus.specs.Branch as calculus
use Rattle.calculus.specs.Problem.{Problem}
use Rattle.calculus.specs.Reading.{parsed, read}
use Rattle.calculus.specs.Run.{Event, log, run}
use Rattle.calculus.specs.Invariants.{measure}
use Rattle.problem.specs.declared.Table.{Table}
use Rattle.problem.specs.Table.{constraints_of, no_constraint}
use Rattle.branch.specs.declared.Branch.{Branch}
use Rattle.branch.specs.Held.{held, restrict, Sound}
use Rattle.branch.specs.Rows.{literals, literal_count}
use Rattle.places.specs.Alternatives.{slots_of, child_of}
use Rattle.search.specs.declared.Found.{Found}
use Rattle.search.specs.First.{first_place_of, candidate_at, spot, Located}
use Rattle.step.specs.declared.Act.{Act}
use Rattle.step.specs.declared.Act.TheVariants.{Note, Merge, Close}
use Rattle.step.specs.Left.{LeftOf}
use Rattle.quiet.specs.Quiet.{Quiet, pair_mark}
use Rattle.records.specs.State.{State, play, state_left, Fine}
use Rattle.solver.specs.declared.FoundSplit.{FoundSplit}

-- constraint i is woken by an act: by a note if it needs a literal of the masks, by a merge if two facts of one class can wake it
abbrev pub woken_by : List ℕ → Act → ℕ → Bool
woken_by marks (Note h ins outs) i = any (λ (k : ℕ). bit (literals ins outs) k && bit (get_or marks k 0) i) (up_from 0 literal_count)
woken_by marks (Merge lo hi) i = bit (get_or marks pair_mark 0) i
woken_by marks Close i = false

abbrev pub Wakes : List ℕ → Act → ℕ → Type 0
Wakes marks a word = (i : ℕ) → bit word i ≡ woken_by marks a i

-- the problem's terms, of which the constants are the lowest, and its constraints
module _ (bs : List ℕ) (tab : Table) where
  abbrev pub constants : List Term
  constants = terms_from 0 tab.constants

  abbrev pub constraints_in : List Constraint
  constraints_in = constraints_of (read bs)

  -- the code's branch as the calculus has it, over the problem's terms
  abbrev pub shown : Branch → calculus.Branch
  shown b = restrict tab.terms (held b)

  -- classes plus undecided facts: what falls with every step
  unfoldable pub remaining : Branch → ℕ
  remaining b = measure tab.terms tab.sets (shown b)

  -- the events of working a branch, with fuel enough
  abbrev pub events : ℕ → calculus.Branch → List Event
  events fuel b = log tab.terms constants constraints_in fuel b

  -- the constraint of what a search found
  abbrev pub placed : Found → Constraint
  placed r = get_or constraints_in r.number no_constraint

  -- the children of rule j at position p of constraint l, from number k on
  abbrev pub children_from : Branch → Constraint → ℕ → ℕ → ℕ → List calculus.Branch
  children_from b l j p k = map (restrict tab.terms) (picked (child_of constants (held b) l j p) (up_from k (slots_of l j - k)))

  module _ (budget : ℕ) where
    -- from state s working branch b comes to state r
    unfoldable pub ComesTo : Branch → State → State → Type 0
    ComesTo b s r = (fuel : ℕ) → remaining b ≤ fuel → r ≡ play tab.terms budget s (events fuel (shown b))

    -- working b from s comes to what working c from t comes to
    unfoldable pub Leads : Branch → State → Branch → State → Type 0
    Leads b s c t = (r : State) → ComesTo c t r → ComesTo b s r

    -- from state s working these children, from number k on, comes to state r
    unfoldable pub ChildrenComeTo : Branch → Constraint → ℕ → ℕ → ℕ → State → State → Type 0
    ChildrenComeTo b l j p k s r = (fuel : ℕ) → remaining b ≤ suc fuel → r ≡ play tab.terms budget s (gather (events fuel) (children_from b l j p k))

    -- the same, of all children of the split that was found
    abbrev pub SplitComesTo : Branch → Found → State → State → Type 0
    SplitComesTo b r s t = ChildrenComeTo b (placed r) r.instance.rule r.instance.root.0 0 s t

  -- no propagation rule applies
  abbrev pub Settled : Branch → Type 0
  Settled b = first_place_of false tab.terms constraints_in (held b) ≡ none

  -- the branch can be worked: it is sound, and propagation rules and splits of the constraints that are not in the two masks do not apply
  pub record Ready (b : Branch) (wake ripe : ℕ) : Type 0 where
    pub sound : Sound constants b
    pub propagation : Quiet false tab.terms constraints_in (held b) wake
    pub splits : Quiet true tab.terms constraints_in (held b) ripe
    pub wake_low : (i : ℕ) → bit wake i ≡ true → i < tab.constraints
    pub ripe_low : (i : ℕ) → bit ripe i ≡ true → i < tab.constraints

  -- the branch is settled and its first split that applies was found, at a root; the word has the children that are left
  pub record Splits (b : Branch) (s : FoundSplit) : Type 0 where
    pub ready : Ready b 0 s.found.left
    pub settled : Settled b
    pub first_is : first_place_of true tab.terms constraints_in (held b) ≡ some (candidate_at constraints_in (held b) (spot s.found s.found.instance.root.0))
    pub located : Located true tab.terms constraints_in (held b) s.found s.found.instance.root.0
    pub left : LeftOf constants (held b) s.found.instance 0 s.left

-- the run is within its bounds; without terms there is one form at most
pub record Begun (n budget : ℕ) (s : State) : Type 0 where
  pub fine : Fine n budget s
  pub no_terms : n ≡ 0 → s.counts.forms ≡ 0

-- a run of these bytes, if they are a problem, leaves what the calculus's run does
abbrev pub Runs : List ℕ → ℕ → List ℕ → List ℕ → State → Type 0
Runs bs budget forms trace s = (prob : Problem) → read bs ≡ parsed prob → s ≡ state_left (run prob budget (length forms)) forms trace

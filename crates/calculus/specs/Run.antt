-- A run: the whole search, and what a budget and a form buffer leave of it.
use Rattle.std.specs.Prelude.{cond, List, [], ◌∷◌, ◌++◌, ℕ, zero, suc, ◌-◌, ◌*◌, length, leb}
use Rattle.calculus.specs.Lists.{gather}
use Rattle.calculus.specs.Terms.{Term}
use Rattle.calculus.specs.Meaning.{Constraint}
use Rattle.calculus.specs.Branch.{Branch, start}
use Rattle.calculus.specs.Search.{Next, solved, step, next}
use Rattle.calculus.specs.Problem.{Problem, term_count, set_count, constant_terms}
use Rattle.calculus.specs.Forms.{record_of}

-- what happens, one after the other, depth first: a branch is a solved form, or a step is taken
pub data Event : Type 0 where
  formed : Branch → Event
  stepped : List ℕ → Event

module _ (n : ℕ) (constants : List Term) (ls : List Constraint) where
  -- each child is worked as a branch before the next. The fuel bounds the length of a path; it never runs out, as Follows and OneWay (Demands.antt) say together.
  abbrev pub log : ℕ → Branch → List Event
  log zero b = formed b ∷ []
  log (suc fuel) b = elim (next n constants ls b) [
    | solved ↦ formed b ∷ []
    | step r cs ↦ stepped r ∷ gather (log fuel) cs
  ]

-- with no branch left, or stopped
pub data End : Type 0 where
  DONE SPENT NOROOM : End

pub record Tally : Type 0 where
  pub end : End
  pub steps : ℕ
  pub forms : ℕ
  pub records : List ℕ
  pub trace : List ℕ

abbrev pub stop : End → Tally
stop e = record { end = e; steps = 0; forms = 0; records = []; trace = [] }

abbrev pub list_form : List ℕ → Tally → Tally
list_form r s = record { end = s.end; steps = s.steps; forms = suc s.forms; records = r ++ s.records; trace = s.trace }

abbrev pub take_step : List ℕ → Tally → Tally
take_step r s = record { end = s.end; steps = suc s.steps; forms = s.forms; records = s.records; trace = r ++ s.trace }

-- with steps left in the budget and bytes left in the form buffer. At each moment: a form first (NO ROOM if its record doesn't fit); otherwise, if no step is left, SPENT; otherwise a step.
abbrev pub tally : ℕ → ℕ → ℕ → List Event → Tally
tally n left room [] = stop DONE
tally n left room (formed b ∷ es) = cond (leb (length (record_of n b)) room) (list_form (record_of n b) (tally n left (room - length (record_of n b)) es)) (stop NOROOM)
tally n zero room (stepped r ∷ es) = stop SPENT
tally n (suc left) room (stepped r ∷ es) = take_step r (tally n left room es)

-- what is done next in a branch of a problem
abbrev pub next_of : Problem → Branch → Next
next_of prob b = next (term_count prob) (constant_terms prob) prob.constraints b

-- no path is longer than terms × (sets + 1), so that is fuel enough
unfoldable pub run : Problem → ℕ → ℕ → Tally
run prob budget room = tally (term_count prob) budget room (log (term_count prob) (constant_terms prob) prob.constraints (term_count prob * suc (set_count prob)) (start (term_count prob)))

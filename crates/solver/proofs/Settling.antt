-- Propagation. One step spends the budget, closes the branch or reaches its child. Steps that follow each other reach what the last one does.
use mathlib.Core.Path.{◌≡◌, refl, sym, ◌∙◌, subst}
use mathlib.Core.Bool.{false}
use mathlib.Core.List.{List, [], ◌∷◌}
use Prim.Native.Nat.{ℕ, ◌≤◌}
use native.Mathlib.Omega.{arith}
use lib.ListN.{length}
use Rattle.calculus.specs.Run.{DONE}
use Rattle.calculus.specs.Run as run
use Rattle.problem.specs.declared.Table.{Table}
use Rattle.branch.specs.declared.Branch.{Branch}
use Rattle.branch.specs.declared.Asserted.{Asserted}
use Rattle.search.specs.declared.Found.{Found}
use Rattle.records.specs.declared.Counts.{Counts}
use Rattle.records.specs.State.{State, state, with_step}
use Rattle.records.proofs.Playing.{fine_kept, step_forms}
use Rattle.solver.specs.ComesTo.{remaining, ComesTo, Leads, Begun}
use Rattle.solver.proofs.Working.{step_leads}
use Rattle.solver.proofs.Taking.{Taking, Made, child_less, going}

-- ---- steps that were taken

-- steps lead from a branch and a state to others; less remains, and the run is within its bounds
pub record Reached (bs : List ℕ) (tab : Table) (budget : ℕ) (b : Branch) (s : State) (at : Branch) (t : State) : Type 0 where
  pub leads : Leads bs tab budget b s at t
  pub less : remaining bs tab at ≤ remaining bs tab b
  pub begun : Begun tab.terms budget t

module _ {bs : List ℕ} {tab : Table} {budget : ℕ} {b : Branch} {s : State} where
  pub reached_start : Begun tab.terms budget s → Reached bs tab budget b s b s
  unfolding Leads
  reached_start g = record { leads = λ r q. q; less = omega arith; begun = g }

  module _ {at : Branch} {t : State} (w : Reached bs tab budget b s at t) where
    pub reached_again : {next : Branch} {u : State} → Reached bs tab budget at t next u → Reached bs tab budget b s next u
    unfolding Leads
    reached_again v = record { leads = λ r q. w.leads r (v.leads r q); less = omega (arith, w.less, v.less); begun = v.begun }

    -- what the branch now comes to is what the first does
    pub reaches : (r : State) → ComesTo bs tab budget at t r → ComesTo bs tab budget b s r
    unfolding Leads
    reaches r q = w.leads r q

-- a step that is written leaves the run within its bounds
pub step_begun : {n budget : ℕ} {c : Counts} {F T : List ℕ} {y : State} (r : List ℕ) → length r ≡ 4 → Begun n budget (state c DONE F T) → y ≡ with_step budget r (state c DONE F T) → Begun n budget y
step_begun {n} {budget} {c} {F} {T} r e g q = let s : State = state c DONE F T in subst (Begun n budget) (sym q) (record { fine = (fine_kept n budget s g.fine (run.stepped r) e).fine; no_terms = λ z. step_forms n budget s r ∙ g.no_terms z })

-- the record of a step, with k children
abbrev pub line : Found → ℕ → List ℕ
line r k = r.instance.rule ∷ r.number ∷ r.instance.root.0 ∷ k ∷ []

-- a step with one child reaches it
pub step_goes : {bs : List ℕ} {tab : Table} {budget : ℕ} {b : Branch} {r : Found} {q : ℕ} {c : Counts} {F T : List ℕ} {t : Asserted} {y : State} (s : Taking bs tab false b r q) → Made bs tab b r q 0 t → t.conflict ≡ false → Begun tab.terms budget (state c DONE F T) → y ≡ with_step budget (line r 1) (state c DONE F T) → Reached bs tab budget b (state c DONE F T) t.branch y
step_goes {bs} {tab} {budget} {b} {r} {c = c} {F} {T} {t} s m x g e = record {
  leads = subst (Leads bs tab budget b (state c DONE F T) t.branch) (sym e) (step_leads bs tab s.opened budget b s.sound.good c F T (line r 1) t.branch (going s m x) (child_less s m x));
  less = omega (arith, child_less s m x);
  begun = step_begun (line r 1) refl g e;
}

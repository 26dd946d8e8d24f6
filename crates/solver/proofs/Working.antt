-- What working a branch comes to, by what is done next in it.
use mathlib.Core.Path.{◌≡◌, refl, sym, ap, ◌∙◌}
use mathlib.Core.Option.{Option, none, some}
use mathlib.Core.List.{List, [], ◌∷◌, map, append-nil}
use Prim.Native.Nat.{ℕ, zero, suc, ◌-◌, ◌<◌, ◌≤◌}
use native.Mathlib.Omega.{arith}
use Rattle.calculus.specs.Limits.{most_terms}
use Rattle.calculus.specs.Lists.{up_from, gather, picked}
use Rattle.calculus.specs.Meaning.{Constraint}
use Rattle.calculus.specs.Branch as calculus
use Rattle.calculus.specs.Search.{Next, solved, step, next}
use Rattle.calculus.specs.Run.{formed, stepped, log, DONE}
use Rattle.calculus.specs.Forms.{record_of}
use Rattle.calculus.specs.Invariants.{WellFormed}
use Rattle.calculus.proofs.LogLaws.{at_zero}
use Rattle.problem.specs.declared.Table.{Table}
use Rattle.problem.specs.Table.{Opened}
use Rattle.branch.specs.declared.Branch.{Branch}
use Rattle.branch.specs.Held.{held, restrict, Good}
use Rattle.branch.proofs.Restricting.{restrict_record, restrict_fit}
use Rattle.places.specs.Alternatives.{slots_of, child_of}
use Rattle.records.specs.declared.Counts.{Counts}
use Rattle.records.specs.declared.Stop.{Stop}
use Rattle.records.specs.State.{State, state, stopped, with_form, with_step, play}
use Rattle.records.proofs.Playing.{play_append, play_stopped}
use Rattle.solver.specs.ComesTo.{constants, constraints_in, shown, remaining, events, ComesTo, Leads, children_from, ChildrenComeTo}
use Rattle.solver.proofs.Opening.{in_range, among, terms_few}

module _ (bs : List ℕ) (tab : Table) (o : Opened bs tab) (budget : ℕ) (b : Branch) (good : Good (constants bs tab) b) where
  abbrev this : calculus.Branch
  this = shown bs tab b

  abbrev next_is : Next → Type 0
  next_is x = next tab.terms (constants bs tab) (constraints_in bs tab) this ≡ x

  pub fit : WellFormed tab.terms (constants bs tab) this
  fit = restrict_fit tab.terms most_terms (constants bs tab) (held b) good (terms_few bs tab o) (among bs tab o)

  -- where a step is taken something remains
  pub some_left : (r : List ℕ) (cs : List calculus.Branch) → next_is (step r cs) → remaining bs tab b ≤ 0 → ⊥
  unfolding remaining
  some_left r cs e l =
      let q : solved ≡ step r cs = sym (at_zero tab.terms (constants bs tab) tab.sets (constraints_in bs tab) (in_range bs tab o) this fit l) ∙ e in
      let y : ◌≡◌ {A = ℕ} 0 1 = cc in
      omega arith

  -- the events of a branch, by what is next
  solved_events : (fuel : ℕ) → next_is solved → events bs tab fuel this ≡ formed this ∷ []
  solved_events zero e = refl
  solved_events (suc fuel) e = rw (e, log)

  step_events : (fuel : ℕ) (r : List ℕ) (cs : List calculus.Branch) → next_is (step r cs) → events bs tab (suc fuel) this ≡ stepped r ∷ gather (events bs tab fuel) cs
  step_events fuel r cs e = rw (e, log)

  module _ (c : Counts) (F T : List ℕ) where
    abbrev s : State
    s = state c DONE F T

    pub solved_outcome : next_is solved → ComesTo bs tab budget b s (with_form tab.terms (record_of tab.terms (held b)) s)
    unfolding ComesTo
    solved_outcome e fuel l = rw (solved_events fuel e, restrict_record tab.terms (held b) good.falls) refl

    -- a step is noted, and its children are worked
    pub step_outcome : (r : List ℕ) (cs : List calculus.Branch) → next_is (step r cs) → (t : State)
        → ((fuel : ℕ) → remaining bs tab b ≤ suc fuel → t ≡ play tab.terms budget (with_step budget r s) (gather (events bs tab fuel) cs)) → ComesTo bs tab budget b s t
    unfolding ComesTo
    step_outcome r cs e t f zero l = absurd (some_left r cs e l)
    step_outcome r cs e t f (suc fuel) l =
        f fuel l ∙ sym (ap (play tab.terms budget s) (step_events fuel r cs e))

    pub closed_outcome : (r : List ℕ) → next_is (step r []) → ComesTo bs tab budget b s (with_step budget r s)
    closed_outcome r e = step_outcome r [] e (with_step budget r s) (λ fuel l. refl)

    -- a step that is not taken stops the run
    pub step_stops : (r : List ℕ) (cs : List calculus.Branch) → next_is (step r cs) → (d : Counts) (w : Stop) (G U : List ℕ) → state d (stopped w) G U ≡ with_step budget r s → ComesTo bs tab budget b s (state d (stopped w) G U)
    step_stops r cs e d w G U q = step_outcome r cs e (state d (stopped w) G U) (λ fuel l. rw (← q) (sym (play_stopped tab.terms budget d w G U (gather (events bs tab fuel) cs))))

    -- a step with one child leads to it
    pub step_leads : (r : List ℕ) (a : Branch) → next_is (step r (shown bs tab a ∷ [])) → remaining bs tab a < remaining bs tab b → Leads bs tab budget b s a (with_step budget r s)
    unfolding Leads ComesTo
    step_leads r a e l t f = step_outcome r (shown bs tab a ∷ []) e t (λ fuel h. f fuel (omega arith) ∙ ap (play tab.terms budget (with_step budget r s)) (sym (append-nil (events bs tab fuel (shown bs tab a)))))

    -- a split leads to its children
    pub split_outcome : (l : Constraint) (j p : ℕ) (r : List ℕ) → next_is (step r (children_from bs tab b l j p 0)) → (t : State) → ChildrenComeTo bs tab budget b l j p 0 (with_step budget r s) t → ComesTo bs tab budget b s t
    unfolding ChildrenComeTo
    split_outcome l j p r e t f = step_outcome r (children_from bs tab b l j p 0) e t f

-- ---- the children of a split, one by one

module _ (bs : List ℕ) (tab : Table) (budget : ℕ) (b : Branch) (l : Constraint) (j p k : ℕ) (s : State) where
  abbrev here : Option calculus.Branch
  here = child_of (constants bs tab) (held b) l j p k

  children_from_at : k < slots_of l j → children_from bs tab b l j p k ≡ map (restrict tab.terms) (picked (child_of (constants bs tab) (held b) l j p) (k ∷ up_from (suc k) (slots_of l j - suc k)))
  children_from_at h = let q : slots_of l j - k ≡ suc (slots_of l j - suc k) = omega arith in rw q refl

  pub children_done : slots_of l j ≤ k → ChildrenComeTo bs tab budget b l j p k s s
  unfolding ChildrenComeTo
  children_done h fuel r = let q : slots_of l j - k ≡ 0 = omega arith in rw q refl

  pub children_skip : k < slots_of l j → here ≡ none → (t : State) → ChildrenComeTo bs tab budget b l j p (suc k) s t → ChildrenComeTo bs tab budget b l j p k s t
  unfolding ChildrenComeTo
  children_skip h e t f fuel r = rw (children_from_at h, e, picked) (f fuel r)

  module _ (c : Branch) (h : k < slots_of l j) (e : here ≡ some (held c)) (fall : remaining bs tab c < remaining bs tab b) (t : State) (out : ComesTo bs tab budget c s t) where
    children_from_some : children_from bs tab b l j p k ≡ shown bs tab c ∷ children_from bs tab b l j p (suc k)
    children_from_some = children_from_at h ∙ rw (e, picked) refl

    first_played : (fuel : ℕ) → remaining bs tab b ≤ suc fuel
        → play tab.terms budget s (gather (events bs tab fuel) (children_from bs tab b l j p k)) ≡ play tab.terms budget t (gather (events bs tab fuel) (children_from bs tab b l j p (suc k)))
    unfolding ComesTo
    first_played fuel r = rw children_from_some (play_append tab.terms budget s (events bs tab fuel (shown bs tab c)) (gather (events bs tab fuel) (children_from bs tab b l j p (suc k)))
        ∙ ap (λ (x : State). play tab.terms budget x (gather (events bs tab fuel) (children_from bs tab b l j p (suc k)))) (sym (out fuel (omega arith))))

    pub children_next : (u : State) → ChildrenComeTo bs tab budget b l j p (suc k) t u → ChildrenComeTo bs tab budget b l j p k s u
    unfolding ChildrenComeTo
    children_next u f fuel r = f fuel r ∙ sym (first_played fuel r)

  pub children_stop : (c : Branch) (h : k < slots_of l j) (e : here ≡ some (held c)) (fall : remaining bs tab c < remaining bs tab b) (d : Counts) (w : Stop) (G U : List ℕ) → ComesTo bs tab budget c s (state d (stopped w) G U) → ChildrenComeTo bs tab budget b l j p k s (state d (stopped w) G U)
  unfolding ChildrenComeTo
  children_stop c h e fall d w G U out fuel r = sym (first_played c h e fall (state d (stopped w) G U) out fuel r ∙ play_stopped tab.terms budget d w G U (gather (events bs tab fuel) (children_from bs tab b l j p (suc k))))

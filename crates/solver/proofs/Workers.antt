-- The two workers: what a branch comes to by its propagation and its split, and what the children of a split come to, one after the other.
use mathlib.Core.Path.{◌≡◌, refl, sym, ap, ◌∙◌, subst}
use mathlib.Core.Bool.{Bool, true, false}
use mathlib.Core.Option.{none}
use mathlib.Core.List.{List, map}
use Prim.Native.Nat.{ℕ, ◌+◌, ◌-◌, ◌^◌, ◌<◌, ◌≤◌}
use native.Mathlib.Omega.{arith}
use native.Mathlib.Numerals.{add-one}
use lib.ListN.{length}
use lib.Count.{ones}
use Rattle.calculus.specs.Lists.{up_from, picked}
use Rattle.calculus.specs.Terms.{Term}
use Rattle.calculus.specs.Relations.{equal, union, disjoint, subset, intersection}
use Rattle.calculus.specs.Meaning.{Constraint, member, nonmember, same, different, relation, negation, exactly, interval}
use Rattle.calculus.specs.Branch as calculus
use Rattle.calculus.specs.Search.{step, next}
use Rattle.calculus.specs.Forms.{record_of}
use Rattle.problem.specs.declared.Table.{Table}
use Rattle.problem.specs.Table.{Opened}
use Rattle.branch.specs.declared.Branch.{Branch}
use Rattle.branch.specs.declared.Asserted.{Asserted}
use Rattle.branch.specs.Held.{held, restrict, result_of, Sound}
use Rattle.branch.proofs.Laws.{refusing}
use Rattle.branch.proofs.Roots.{root_is}
use Rattle.constraints.specs.Decoded.{decoded, entries_in}
use Rattle.places.specs.Places.{InSpan, split_span}
use Rattle.places.specs.Alternatives.{slots_of, child_of}
use Rattle.places.proofs.Slots.{children_slots}
use Rattle.fits.specs.Words.{Shown}
use Rattle.quiet.specs.Quiet.{Quiet}
use Rattle.search.specs.declared.Found.{Found}
use Rattle.search.specs.First.{first_place_of, IsFirst}
use Rattle.step.specs.declared.Turn.{Turn}
use Rattle.step.specs.declared.Act.{Act}
use Rattle.step.specs.Acts.{performed, Rooted}
use Rattle.step.specs.Left.{act_in, LeftOf, Free, Keepable, TurnsFor}
use Rattle.step.proofs.Turning.{left_count, taken_open, left_closed}
use Rattle.step.proofs.Choosing.{applies_free}
use Rattle.records.specs.declared.Counts.{Counts}
use Rattle.records.specs.declared.Stop.{Stop}
use Rattle.records.specs.State.{State, state, stopped, with_form, with_step, Fine}
use Rattle.calculus.specs.Run.{DONE}
use Rattle.std.specs.Prelude.{is_some, Some, None}
use Rattle.records.proofs.Playing.{play_kept}
use Rattle.records.proofs.Tallied.{log_shaped}
use Rattle.solver.specs.declared.FoundSplit.{FoundSplit}
use Rattle.solver.specs.ComesTo.{constants, constraints_in, placed, shown, remaining, events, ComesTo, children_from, ChildrenComeTo, SplitComesTo, Settled, Ready, Splits, Begun}
use Rattle.solver.proofs.Settling.{Reached, reaches, line}
use Rattle.solver.proofs.Opening.{in_range, among, shows}
use Rattle.solver.proofs.NextLaws.{none_next}
use Rattle.solver.proofs.Working.{solved_outcome, closed_outcome, step_stops, split_outcome, children_done, children_skip, children_next, children_stop}
use Rattle.solver.proofs.Taking.{Taking, Made, taking, closing, here_is, ruled, is_placed, applying, stepped, given, child_less, acted}

-- counts and buffers stay within their bounds
outcome_fine : (bs : List ℕ) (tab : Table) (budget : ℕ) (b : Branch) (s t : State) → Fine tab.terms budget s → ComesTo bs tab budget b s t → Fine tab.terms budget t
unfolding ComesTo
outcome_fine bs tab budget b s t f q =
    subst (Fine tab.terms budget) (sym (q (remaining bs tab b) (omega arith)))
    (play_kept tab.terms budget s f (events bs tab (remaining bs tab b) (shown bs tab b)) (log_shaped tab.terms (constants bs tab) (constraints_in bs tab) (remaining bs tab b) (shown bs tab b))).fine

-- ---- a split is at a root

split_not_19 : (l : Constraint) (j : ℕ) → InSpan (split_span l) j → ¬ (j ≡ 19)
split_not_19 (member t A) j s e = omega (arith, s.1)
split_not_19 (nonmember t A) j s e = omega (arith, s.1)
split_not_19 (same t u) j s e = omega (arith, s.1)
split_not_19 (different t u) j s e = omega (arith, s.1)
split_not_19 (relation equal A B C) j s e = omega (arith, s.1)
split_not_19 (relation union A B C) j s e = omega (arith, s.1)
split_not_19 (relation disjoint A B C) j s e = omega (arith, s.1)
split_not_19 (relation subset A B C) j s e = omega (arith, s.1)
split_not_19 (relation intersection A B C) j s e = omega (arith, s.1)
split_not_19 (negation k A B C w) j s e = omega (arith, s.1)
split_not_19 (exactly A es) j s e = omega (arith, s.0)
split_not_19 (interval A i k es) j s e = omega (arith, s.0)

module _ {bs : List ℕ} {tab : Table} {b : Branch} {r : Found} {q : ℕ} (s : Taking bs tab true b r q) where
  at_root : q ≡ r.instance.root.0
  at_root = ap (λ (t : Term). t.index) (sym (s.located.within.of_root (split_not_19 (placed bs tab r) r.instance.rule s.located.within.of_rule)).1 ∙ s.located.concerns)

  rooted : Taking bs tab true b r r.instance.root.0
  rooted = subst (Taking bs tab true b r) at_root s

-- what a search for splits answers, where no propagation rule applies
pub dividing : {bs : List ℕ} {tab : Table} {b : Branch} {wake ripe : ℕ} {r : Found} → Opened bs tab → Ready bs tab b wake ripe → Settled bs tab b
    → ((c : calculus.Branch) → Shown c b.parents b.rows → Quiet true tab.terms (constraints_in bs tab) c ripe → IsFirst true tab.terms (constraints_in bs tab) c r) → Taking bs tab true b r r.instance.root.0
dividing o y e f = rooted (taking o y.sound e (f _ (shows y.sound) y.splits))

module _ {bs : List ℕ} {tab : Table} {b : Branch} {r : Found} (s : Taking bs tab true b r r.instance.root.0) where
  abbrev this : Constraint
  this = decoded r.instance.constraint

  -- where rule 20 applies the root is that of no entry
  pub free : r.instance.rule ≡ 20 → Free b.parents (entries_in r.instance.constraint) r.instance.root.0
  free e = applies_free (held b) r.instance.root.0 (sym (root_is (held b) r.instance.root.0) ∙ s.located.rooted) r.instance.constraint r.instance.rule (ruled s) e (applying s)

  pub keepable : Keepable b r.instance
  keepable = record { falls = s.sound.good.falls; placed = is_placed s; free = free }

  module _ (word : ℕ) (small : word < 2 ^ 64) (left : LeftOf (constants bs tab) (held b) r.instance 0 word) where
    -- the bits are as many as the children
    left_number : ones word ≡ length (picked (child_of (constants bs tab) (held b) this r.instance.rule r.instance.root.0) (up_from 0 (slots_of this r.instance.rule)))
    left_number = left_count (constants bs tab) (held b) r.instance s.sound.good.falls s.located.handled (ruled s) word small left
        ∙ ap length (children_slots (constants bs tab) (held b) this r.instance.rule r.instance.root.0 (ruled s))

    -- so this is what is done next
    pub split_next : (n : ℕ) → n ≡ ones word → next tab.terms (constants bs tab) (constraints_in bs tab) (shown bs tab b) ≡ step (line r n) (children_from bs tab b (placed bs tab r) r.instance.rule r.instance.root.0 0)
    split_next n e =
        let z : slots_of this r.instance.rule ≡ slots_of this r.instance.rule - 0 = omega arith in
        stepped s ∙ rw (e, left_number, here_is s) (ap (λ (m : ℕ). step (line r (length (picked (child_of (constants bs tab) (held b) this r.instance.rule r.instance.root.0) (up_from 0 (slots_of this r.instance.rule))))) (map (restrict tab.terms) (picked (child_of (constants bs tab) (held b) this r.instance.rule r.instance.root.0) (up_from 0 m)))) z)

    pub splitting : Ready bs tab b 0 r.left → Splits bs tab b (record { found = r; left = word })
    splitting y = record {
      ready = y;
      settled = s.settled;
      first_is = s.first_is;
      located = s.located;
      left = left;
    }

-- and back
pub split_taking : {bs : List ℕ} {tab : Table} {b : Branch} {s : FoundSplit} → Opened bs tab → Splits bs tab b s → Taking bs tab true b s.found s.found.instance.root.0
split_taking o w = record { opened = o; sound = w.ready.sound; settled = w.settled; first_is = w.first_is; located = w.located }

-- ---- a branch that propagation has settled

module _ {bs : List ℕ} {tab : Table} {budget : ℕ} {b : Branch} {s : State} {at : Branch} {d : Counts} {G U : List ℕ} (w : Reached bs tab budget b s at (state d DONE G U)) where
  pub works_form : Opened bs tab → Sound (constants bs tab) at → Settled bs tab at → first_place_of true tab.terms (constraints_in bs tab) (held at) ≡ none → (y : State) → y ≡ with_form tab.terms (record_of tab.terms (held at)) (state d DONE G U) → ComesTo bs tab budget b s y
  works_form o sound p q y x =
      let n = none_next tab.terms tab.sets (constants bs tab) (constraints_in bs tab) (in_range bs tab o) (among bs tab o) (held at) sound.good.falls p q in
      reaches w y (subst (ComesTo bs tab budget at (state d DONE G U)) (sym x) (solved_outcome bs tab o budget at sound.good d G U n))

  module _ {split : Bool} {f : Found} {q : ℕ} (k : Taking bs tab split at f q) where
    -- a step that is not taken stops the run
    pub works_stopped : {r : List ℕ} {cs : List calculus.Branch} → next tab.terms (constants bs tab) (constraints_in bs tab) (shown bs tab at) ≡ step r cs → (e : Counts) (v : Stop) (H V : List ℕ) → state e (stopped v) H V ≡ with_step budget r (state d DONE G U) → ComesTo bs tab budget b s (state e (stopped v) H V)
    works_stopped n e v H V x = reaches w _ (step_stops bs tab k.opened budget at k.sound.good d G U _ _ n e v H V x)

  -- a step with no child closes the branch
  pub works_closed : {f : Found} {q : ℕ} (k : Taking bs tab false at f q) {t : Asserted} → Made bs tab at f q 0 t → t.conflict ≡ true → (y : State) → y ≡ with_step budget (line f 0) (state d DONE G U) → ComesTo bs tab budget b s y
  works_closed {f} k m x y e = reaches w y (subst (ComesTo bs tab budget at (state d DONE G U)) (sym e) (closed_outcome bs tab k.opened budget at k.sound.good d G U (line f 0) (closing k m x)))

  module _ {f : Found} (k : Taking bs tab true at f f.instance.root.0) where
    pub works_split : (n : ℕ) → next tab.terms (constants bs tab) (constraints_in bs tab) (shown bs tab at) ≡ step (line f n) (children_from bs tab at (placed bs tab f) f.instance.rule f.instance.root.0 0) → (y : State) → y ≡ with_step budget (line f n) (state d DONE G U) → (t : State) → SplitComesTo bs tab budget at f y t → ComesTo bs tab budget b s t
    works_split n e y q t x = reaches w t (split_outcome bs tab k.opened budget at k.sound.good d G U (placed bs tab f) f.instance.rule f.instance.root.0 (line f n) e t (subst (λ (z : State). SplitComesTo bs tab budget at f z t) q x))

-- ---- the children of a split

-- what the loop keeps at child k: from state s to where it is now, with the children that are left
pub record Worked (bs : List ℕ) (tab : Table) (budget : ℕ) (b : Branch) (r : Found) (s : State) (k word : ℕ) (t : State) : Type 0 where
  pub leads : (u : State) → ChildrenComeTo bs tab budget b (decoded r.instance.constraint) r.instance.rule r.instance.root.0 k t u → SplitComesTo bs tab budget b r s u
  pub begun : Begun tab.terms budget t
  pub left : LeftOf (constants bs tab) (held b) r.instance k word

module _ {bs : List ℕ} {tab : Table} {b : Branch} {r : Found} {budget : ℕ} {s : State} (x : Taking bs tab true b r r.instance.root.0) where
  pub worked_begin : {word : ℕ} → LeftOf (constants bs tab) (held b) r.instance 0 word → Begun tab.terms budget s → Worked bs tab budget b r s 0 word s
  worked_begin L g = record { leads = λ u q. subst (λ (l : Constraint). ChildrenComeTo bs tab budget b l r.instance.rule r.instance.root.0 0 s u) (sym (here_is x)) q; begun = g; left = L }

  module _ {k word : ℕ} {t : State} (v : Worked bs tab budget b r s k word t) where
    pub worked_done : slots_of (decoded r.instance.constraint) r.instance.rule ≤ k → SplitComesTo bs tab budget b r s t
    worked_done h = v.leads t (children_done bs tab budget b (decoded r.instance.constraint) r.instance.rule r.instance.root.0 k t h)

    module _ (lt : k < slots_of (decoded r.instance.constraint) r.instance.rule) {n : Turn} (u : TurnsFor b r.instance k word n) where
      asserts : child_of (constants bs tab) (held b) (decoded r.instance.constraint) r.instance.rule r.instance.root.0 k ≡ result_of (performed b (act_in n.act))
      asserts = u.asserts (constants bs tab) b refl x.sound.good x.sound.rowed.fixed v.left

      after_turn : LeftOf (constants bs tab) (held b) r.instance (k + 1) n.left
      after_turn = u.leaves (constants bs tab) (held b) refl v.left

      pub worked_skip : n.act ≡ None → Worked bs tab budget b r s (k + 1) n.left t
      worked_skip e = record {
        leads = λ y z. v.leads y (children_skip bs tab budget b (decoded r.instance.constraint) r.instance.rule r.instance.root.0 k t lt
            (refusing (child_of (constants bs tab) (held b) (decoded r.instance.constraint) r.instance.rule r.instance.root.0 k) (performed b (act_in n.act)) asserts (left_closed b r.instance u (constants bs tab) x.sound v.left (ap is_some e))) y (rw (add-one k) at z));
        begun = v.begun;
        left = after_turn;
      }

      module _ {a : Act} (e : n.act ≡ Some a) {d : Asserted} (p : d ≡ performed b a) where
        pub act_rooted : Rooted b.parents a
        act_rooted = rw e at u.rooted

        pub made : Made bs tab b r r.instance.root.0 k d
        made = acted x a lt act_rooted (rw e at asserts) p

        pub opens : d.conflict ≡ false
        opens = ap (λ (z : Asserted). z.conflict) p ∙ (rw e at (taken_open b r.instance u (constants bs tab) x.sound v.left (ap is_some e)))

        pub worked_next : (y : State) → ComesTo bs tab budget d.branch t y → Worked bs tab budget b r s (k + 1) n.left y
        worked_next y out = record {
          leads = λ z w. v.leads z (children_next bs tab budget b (decoded r.instance.constraint) r.instance.rule r.instance.root.0 k t d.branch lt (given x made opens) (child_less x made opens) y out z (rw (add-one k) at w));
          begun = record { fine = outcome_fine bs tab budget d.branch t y v.begun.fine out; no_terms = λ z. absurd (omega (arith, x.located.low)) };
          left = after_turn;
        }

        pub worked_stop : (c : Counts) (w : Stop) (G U : List ℕ) → ComesTo bs tab budget d.branch t (state c (stopped w) G U) → SplitComesTo bs tab budget b r s (state c (stopped w) G U)
        worked_stop c w G U out = v.leads _ (children_stop bs tab budget b (decoded r.instance.constraint) r.instance.rule r.instance.root.0 k t d.branch lt (given x made opens) (child_less x made opens) c w G U out)

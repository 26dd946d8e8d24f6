-- A step at the place that a search found. It is the branch's next, its children are those of the numbers below `slots_of`, each child is sound, and less remains in it.
use mathlib.Core.Path.{◌≡◌, refl, sym, ap, ◌∙◌, subst}
use mathlib.Core.Bool.{Bool, true, false, not, cond}
use mathlib.Core.Option.{none, some}
use mathlib.Core.List.{List, [], ◌∷◌, map}
use Prim.Native.Nat.{ℕ, ◌<◌, ◌≤◌}
use native.Mathlib.Omega.{arith}
use lib.ListN.{length, get_or, length-map}
use Rattle.std.specs.Int.{from_bool}
use Rattle.calculus.specs.Limits.{most_sets, most_terms}
use Rattle.calculus.specs.Lists.{up_from, picked, Each, Some, here, there}
use Rattle.calculus.specs.Terms.{term}
use Rattle.calculus.specs.Relations.{applies}
use Rattle.calculus.specs.Relations.{equal, union, disjoint, subset, intersection}
use Rattle.calculus.specs.Meaning.{Constraint, member, nonmember, same, different, relation, negation, exactly, interval}
use Rattle.calculus.specs.Branch as calculus
use Rattle.calculus.specs.Search.{Candidate, candidates, step, next}
use Rattle.calculus.specs.Invariants.{WellFormed, ConstraintIn, measure}
use Rattle.calculus.proofs.Bools.{first_some}
use Rattle.calculus.proofs.Stepping.{step_fit}
use Rattle.calculus.proofs.WorkOrder.{some_each}
use Rattle.problem.specs.declared.Table.{Table}
use Rattle.problem.specs.Table.{Opened, constraint_of, no_constraint}
use Rattle.problem.proofs.Access.{opened_sizes}
use Rattle.branch.specs.declared.Branch.{Branch}
use Rattle.branch.specs.declared.Asserted.{Asserted}
use Rattle.branch.specs.Held.{held, restrict, result_of, Rowed, Sound}
use Rattle.branch.proofs.Laws.{answered, refusing}
use Rattle.constraints.specs.Decoded.{decoded, entries_in}
use Rattle.places.specs.Places.{RuleOf, InSpan, span_of, propagation_span, entries_of, move_at, offers}
use Rattle.places.specs.Alternatives.{slots_of, child_of}
use Rattle.places.proofs.Picking.{picked_among}
use Rattle.places.proofs.Slots.{children_slots, move_rule, child_fit, propagation_slots}
use Rattle.places.proofs.Offered.{rule_of}
use Rattle.fits.specs.Words.{Shown}
use Rattle.quiet.specs.Quiet.{Quiet}
use Rattle.search.specs.declared.Found.{Found}
use Rattle.search.specs.First.{candidate_at, first_place_of, spot, Located, IsFirst}
use Rattle.step.specs.declared.Act.{Act}
use Rattle.step.specs.Acts.{performed, Rooted, Under, OnLowTerms, Placed, Somewhere, Acts}
use Rattle.step.proofs.Placing.{placed}
use Rattle.step.proofs.Performing.{performed_rowed}
use Rattle.solver.specs.ComesTo.{constants, constraints_in, shown, remaining, Ready}
use Rattle.constraints.proofs.Decoding.{constraint_in, entries_as}
use Rattle.solver.proofs.Opening.{in_range, among, terms_few, place_there, shows}
use Rattle.solver.proofs.NextLaws.{Before, found_next}
use Rattle.solver.proofs.Working.{fit}

-- what was found is the branch's first place, at position q
pub record Taking (bs : List ℕ) (tab : Table) (split : Bool) (b : Branch) (r : Found) (q : ℕ) : Type 0 where
  pub opened : Opened bs tab
  pub sound : Sound (constants bs tab) b
  pub settled : Before tab.terms (constraints_in bs tab) (held b) split
  pub first_is : first_place_of split tab.terms (constraints_in bs tab) (held b) ≡ some (candidate_at (constraints_in bs tab) (held b) (spot r q))
  pub located : Located split tab.terms (constraints_in bs tab) (held b) r q

-- its child number k was asserted, with this answer
pub record Made (bs : List ℕ) (tab : Table) (b : Branch) (r : Found) (q k : ℕ) (t : Asserted) : Type 0 where
  pub there : k < slots_of (decoded r.instance.constraint) r.instance.rule
  pub asserts : child_of (constants bs tab) (held b) (decoded r.instance.constraint) r.instance.rule q k ≡ result_of t
  pub rowed : Rowed (constants bs tab) t.branch

some_map : (f : calculus.Branch → calculus.Branch) (d : calculus.Branch) (cs : List calculus.Branch) → Some (λ x. x ≡ d) cs → Some (λ x. x ≡ f d) (map f cs)
some_map f d cs (here q) = here (ap f q)
some_map f d cs (there {xs = ds} s) = there (some_map f d ds s)

each_unit : (cs : List Candidate) → Each (λ _. Unit {0}) cs
each_unit [] = tt
each_unit (c ∷ cs) = (tt, each_unit cs)

module _ {bs : List ℕ} {tab : Table} {split : Bool} {b : Branch} {r : Found} {q : ℕ} (s : Taking bs tab split b r q) where
  abbrev this : Constraint
  this = decoded r.instance.constraint

  abbrev kids : List calculus.Branch
  kids = picked (child_of (constants bs tab) (held b) this r.instance.rule q) (up_from 0 (slots_of this r.instance.rule))

  abbrev chosen : Candidate
  chosen = candidate_at (constraints_in bs tab) (held b) (spot r q)

  -- the place's constraint is the decoded one
  pub here_is : get_or (constraints_in bs tab) r.number no_constraint ≡ this
  here_is = s.located.opened

  constraint_is : constraint_of bs r.number ≡ this
  unfolding constraint_of
  constraint_is = s.located.opened

  pub ruled : RuleOf this r.instance.rule
  ruled = rule_of split this r.instance.rule (subst (λ (x : Constraint). InSpan (span_of split x) r.instance.rule) here_is s.located.within.of_rule)

  entry_there : r.instance.rule ≡ 19 → q < length (entries_of this)
  entry_there e = subst (λ (x : Constraint). q < length (entries_of x)) here_is (s.located.within.of_entry e)

  entry_listed : r.instance.rule ≡ 19 → q < length (entries_in r.instance.constraint)
  entry_listed e = omega (arith, entry_there e, ap length (entries_as r.instance.constraint), length-map (entries_in r.instance.constraint) term)

  low : r.instance.root.0 < most_terms
  low = omega (arith, s.located.low, terms_few bs tab s.opened)

  -- its terms, and the root concerned, are the problem's
  pub in_terms : ConstraintIn tab.terms most_sets this
  in_terms = subst (ConstraintIn tab.terms most_sets) constraint_is (constraint_in bs tab r.number s.opened (place_there bs tab s.opened s.located.within.in_problem) tab.terms 8 (omega arith) (opened_sizes bs tab s.opened).1)

  pub low_act : (a : Act) → OnLowTerms r.instance a → Under tab.terms a
  low_act a l = l tab.terms in_terms s.located.low

  -- it is a place of a step
  pub is_placed : Placed b.parents r.instance.constraint r.instance.rule q r.instance.root.0
  is_placed = placed (held b) r.instance.rule q r.instance.constraint r.instance.root.0 s.located.handled ruled entry_listed low (subst (λ (x : Constraint). (move_at (held b) x r.instance.rule q).0 ≡ term r.instance.root.0) here_is s.located.concerns)

  -- the rule applies there
  pub applying : applies (calculus.known (held b)) (move_at (held b) this r.instance.rule q).1 ≡ true
  unfolding first_place_of
  applying = subst (λ (x : Constraint). applies (calculus.known (held b)) (move_at (held b) x r.instance.rule q).1 ≡ true) here_is
      (first_some (λ (_ : Candidate). Unit {0}) (λ (c : Candidate). applies (calculus.known (held b)) c.move) (candidates (offers split tab.terms (held b)) 0 (constraints_in bs tab)) chosen (each_unit (candidates (offers split tab.terms (held b)) 0 (constraints_in bs tab))) s.first_is).1

  -- it is what is done next
  pub stepped : next tab.terms (constants bs tab) (constraints_in bs tab) (shown bs tab b) ≡ step (r.instance.rule ∷ r.number ∷ r.instance.root.0 ∷ length kids ∷ []) (map (restrict tab.terms) kids)
  stepped =
      let e = found_next tab.terms tab.sets (constants bs tab) (constraints_in bs tab) (in_range bs tab s.opened) (among bs tab s.opened) (held b) s.sound.good.falls split chosen s.settled s.first_is in
      let f = rw (s.located.concerns, here_is) at e in
      rw (sym (children_slots (constants bs tab) (held b) this r.instance.rule q ruled)) (f ∙ rw (move_rule (held b) q this r.instance.rule ruled) refl)

  -- ---- child k

  module _ {k : ℕ} {t : Asserted} (m : Made bs tab b r q k t) where
    pub refused : t.conflict ≡ true → child_of (constants bs tab) (held b) this r.instance.rule q k ≡ none
    refused e = refusing (child_of (constants bs tab) (held b) this r.instance.rule q k) t m.asserts e

    module _ (e : t.conflict ≡ false) where
      pub given : child_of (constants bs tab) (held b) this r.instance.rule q k ≡ some (held t.branch)
      given = answered (child_of (constants bs tab) (held b) this r.instance.rule q k) t m.asserts e

      pub child_sound : Sound (constants bs tab) t.branch
      child_sound = record {
        good = child_fit most_terms most_sets (constants bs tab) (held b) this r.instance.rule q k (held t.branch) s.sound.good s.located.handled.in_range ruled entry_there
            (λ n. (subst (λ (x : Constraint). (q < most_terms) × ((move_at (held b) x r.instance.rule q).0 ≡ term q)) here_is (s.located.within.of_root n)).0) m.there given;
        rowed = m.rowed;
      }

      pub child_less : remaining bs tab t.branch < remaining bs tab b
      unfolding remaining
      child_less =
          (some_each (λ d. WellFormed tab.terms (constants bs tab) d × (measure tab.terms tab.sets d < measure tab.terms tab.sets (shown bs tab b))) (shown bs tab t.branch)
          (map (restrict tab.terms) kids)
          (step_fit tab.terms (constants bs tab) tab.sets (constraints_in bs tab) (in_range bs tab s.opened) (shown bs tab b) (fit bs tab s.opened 0 b s.sound.good) (r.instance.rule ∷ r.number ∷ r.instance.root.0 ∷ length kids ∷ []) (map (restrict tab.terms) kids) stepped)
          (some_map (restrict tab.terms) (held t.branch) kids (picked_among (child_of (constants bs tab) (held b) this r.instance.rule q) k (held t.branch) given 0 (slots_of this r.instance.rule) (omega arith) (omega (arith, m.there))))).1

  -- an act on roots that asserts child k, performed, makes it
  pub acted : {k : ℕ} {t : Asserted} (a : Act) → k < slots_of this r.instance.rule → Rooted b.parents a → child_of (constants bs tab) (held b) this r.instance.rule q k ≡ result_of (performed b a) → t ≡ performed b a → Made bs tab b r q k t
  acted a lt o c e = record {
    there = lt;
    asserts = c ∙ ap result_of (sym e);
    rowed = subst (λ (x : Asserted). Rowed (constants bs tab) x.branch) (sym e) (performed_rowed (constants bs tab) b s.sound.good s.sound.rowed a o);
  }

-- the branch and the conflict of an act performed, as one
pub as_one : (b : Branch) {d : Branch} (a : Act) {x : Bool} → (d ≡ (performed b a).branch) × (x ≡ (performed b a).conflict) → ◌≡◌ {A = Asserted} (record { branch = d; conflict = x }) (performed b a)
as_one b a e = rw (e.0, e.1) refl

-- ---- what a search answers

pub taking : {bs : List ℕ} {tab : Table} {split : Bool} {b : Branch} {r : Found} → Opened bs tab → Sound (constants bs tab) b → Before tab.terms (constraints_in bs tab) (held b) split → (f : IsFirst split tab.terms (constraints_in bs tab) (held b) r) → Taking bs tab split b r f.position
taking o sound e f = record {
  opened = o;
  sound = sound;
  settled = e;
  first_is = f.first_is;
  located = f.located;
}

-- among what a branch that can be worked leaves open, for propagation rules
pub propagating : {bs : List ℕ} {tab : Table} {b : Branch} {wake ripe : ℕ} {r : Found} → Opened bs tab → (y : Ready bs tab b wake ripe) → (f : (c : calculus.Branch) → Shown c b.parents b.rows → Quiet false tab.terms (constraints_in bs tab) c wake → IsFirst false tab.terms (constraints_in bs tab) c r) → Taking bs tab false b r (f (held b) (shows y.sound) y.propagation).position
propagating o y f = taking o y.sound tt (f _ (shows y.sound) y.propagation)

-- ---- a propagation step has one child, or none

span_end : (l : Constraint) → (propagation_span l).1 ≤ 20
span_end (member t A) = omega arith
span_end (nonmember t A) = omega arith
span_end (same t u) = omega arith
span_end (different t u) = omega arith
span_end (relation equal A B C) = omega arith
span_end (relation union A B C) = omega arith
span_end (relation disjoint A B C) = omega arith
span_end (relation subset A B C) = omega arith
span_end (relation intersection A B C) = omega arith
span_end (negation k A B C w) = omega arith
span_end (exactly A es) = omega arith
span_end (interval A i j es) = omega arith

module _ {bs : List ℕ} {tab : Table} {b : Branch} {r : Found} {q : ℕ} (s : Taking bs tab false b r q) where
  pub single : slots_of (decoded r.instance.constraint) r.instance.rule ≡ 1
  single = propagation_slots (decoded r.instance.constraint) r.instance.rule (subst (λ (x : Constraint). InSpan (propagation_span x) r.instance.rule) (here_is s) s.located.within.of_rule)

  pub not_20 : ¬ (r.instance.rule ≡ 20)
  not_20 e = omega (arith, s.located.within.of_rule.1, span_end (get_or (constraints_in bs tab) r.number no_constraint))

  -- child 0 is there
  pub first_there : 0 < slots_of (decoded r.instance.constraint) r.instance.rule
  first_there = omega (arith, single)

  pub somewhere : Somewhere b.parents r.instance.constraint r.instance.rule r.instance.root.0 0
  somewhere = (q, is_placed s, first_there)

  module _ {t : Asserted} (m : Made bs tab b r q 0 t) where
    pub closing : t.conflict ≡ true → next tab.terms (constants bs tab) (constraints_in bs tab) (shown bs tab b) ≡ step (r.instance.rule ∷ r.number ∷ r.instance.root.0 ∷ 0 ∷ []) []
    closing e = stepped s ∙ rw (single, refused s m e, picked) refl

    pub going : t.conflict ≡ false → next tab.terms (constants bs tab) (constraints_in bs tab) (shown bs tab b) ≡ step (r.instance.rule ∷ r.number ∷ r.instance.root.0 ∷ 1 ∷ []) (shown bs tab t.branch ∷ [])
    going e = stepped s ∙ rw (single, given s m e, picked) refl

    -- whether it closes or not
    pub told : (x : Bool) → t.conflict ≡ x → next tab.terms (constants bs tab) (constraints_in bs tab) (shown bs tab b) ≡ step (r.instance.rule ∷ r.number ∷ r.instance.root.0 ∷ from_bool (not x) ∷ []) (cond x [] (shown bs tab t.branch ∷ []))
    told true e = closing e
    told false e = going e

  -- what it asserts is known by its act
  pub inferred : {a : Act} {t : Asserted} → ((p : ℕ) → Placed b.parents r.instance.constraint r.instance.rule p r.instance.root.0 → 0 < slots_of (decoded r.instance.constraint) r.instance.rule → Acts b.parents (decoded r.instance.constraint) r.instance.rule p 0 a) → t ≡ performed b a → Made bs tab b r q 0 t
  inferred {a} f e = let d = f q (is_placed s) first_there in acted s a first_there d.rooted (d.asserts (constants bs tab) b refl s.sound.good s.sound.rowed.fixed) e

-- A valid problem's constraints: in range; their meanings with and without witnesses.
use mathlib.Core.Path.{◌≡◌, refl, sym, ◌∙◌, ap, ap₂, subst}
use mathlib.Core.Logic.{◌⊎◌, inl, inr, ◌↔◌}
use mathlib.Core.Bool.{Bool, true, false, ◌&&◌, cond, false≢true}
use mathlib.Core.List.{List, [], ◌∷◌, map}
use Prim.Native.Nat.{ℕ, zero, suc, ◌+◌, ◌-◌, ◌<◌, ◌≤◌}
use native.Mathlib.Omega.{arith}
use native.Mathlib.Nat.{le_refl}
use lib.ListN.{length, get_or}
use lib.Dec.{eqb}
use lib.IntN.{ℤ, pos}
use lib.Signed.{◌≤ℤ◌}
use borrow.Author.Tests.{eqb-true, eq-eqb, ne_eqb, lt-ltb, le-ltb}
use Rattle.calculus.specs.Terms.{Term, SetVar, term, terms_from}
use Rattle.calculus.specs.Lists.{all, any, Each}
use Rattle.calculus.specs.Relations.{Relation, holds_at, denies}
use Rattle.calculus.specs.Meaning.{Constraint, member, nonmember, same, different, relation, negation, exactly, interval, ◌∈◌, Valuation, Relates, Holds}
use Rattle.calculus.specs.Problem.{set_count, Problem, nameable, term_count, Assignment, values, Satisfies, constant_terms, entries, Refers, uses, Tied, Numbered, Valid}
use Rattle.calculus.specs.Invariants.{ConstraintIn}
use Rattle.calculus.proofs.Bools.{and_l, and_r, and_i, or_cases, clash, test, each_imp, each_zip}
use Rattle.calculus.proofs.Tables.{relation_none}
use Rattle.calculus.proofs.Truth.{has, has_in, relates_test, test_relates, Is, Distinct}
use Rattle.calculus.proofs.RuleLaws.{Lists, Meant}
use Rattle.calculus.proofs.Sequences.{terms_each, terms_at, place_of, from_image, image_of}
use Rattle.calculus.proofs.Integers.{rising_le, le_rising, rising_inj}

pub images_in : (f : Term → ℤ) (l : List ℤ) (es : List Term) → all (λ e. has l (f e)) es ≡ true → (x : ℤ) → x ∈ map f es → x ∈ l
images_in f l [] q x m = absurd m
images_in f l (e ∷ es) q x (inl z) = subst (λ (y : ℤ). y ∈ l) (sym z) (has_in l (f e) (and_l (has l (f e)) (all (λ e. has l (f e)) es) q))
images_in f l (e ∷ es) q x (inr m) = images_in f l es (and_r (has l (f e)) (all (λ e. has l (f e)) es) q) x m

-- ---- a relation that fails, fails somewhere

all_or_not : (p : ℤ → Bool) (l : List ℤ) → (all p l ≡ true) ⊎ ((x : ℤ) × (p x ≡ false))
all_or_not p [] = inl refl
all_or_not p (x ∷ xs) = go (test (p x)) (all_or_not p xs)
  where
    go : (p x ≡ true) ⊎ (p x ≡ false) → (all p xs ≡ true) ⊎ ((x : ℤ) × (p x ≡ false)) → ((p x && all p xs) ≡ true) ⊎ ((x : ℤ) × (p x ≡ false))
    go (inr e) r = inr (x, e)
    go (inl e) (inr r) = inr r
    go (inl e) (inl r) = inl (and_i e r)

pub all_in : (p : ℤ → Bool) (l : List ℤ) → all p l ≡ true → (x : ℤ) → x ∈ l → p x ≡ true
all_in p [] e x m = absurd m
all_in p (y ∷ ys) e x (inl q) = ap p q ∙ and_l (p y) (all p ys) e
all_in p (y ∷ ys) e x (inr m) = all_in p ys (and_r (p y) (all p ys) e) x m

pub breaks : (k : Relation) (l m r : List ℤ) → ¬ Relates k l m r → (x : ℤ) × (holds_at k (has l x) (has m x) (has r x) ≡ false)
breaks k l m r h = go (all_or_not t l) (all_or_not t m) (all_or_not t r)
  where
    t : ℤ → Bool
    t x = holds_at k (has l x) (has m x) (has r x)

    every_x : all t l ≡ true → all t m ≡ true → all t r ≡ true → (x : ℤ) → t x ≡ true
    every_x p q s x = by_case (test (has l x)) (test (has m x)) (test (has r x))
      where
        by_case : (has l x ≡ true) ⊎ (has l x ≡ false) → (has m x ≡ true) ⊎ (has m x ≡ false) → (has r x ≡ true) ⊎ (has r x ≡ false) → t x ≡ true
        by_case (inl a) b c = all_in t l p x (has_in l x a)
        by_case (inr a) (inl b) c = all_in t m q x (has_in m x b)
        by_case (inr a) (inr b) (inl c) = all_in t r s x (has_in r x c)
        by_case (inr a) (inr b) (inr c) = rw (a, b, c) (relation_none k)

    go : (all t l ≡ true) ⊎ ((x : ℤ) × (t x ≡ false)) → (all t m ≡ true) ⊎ ((x : ℤ) × (t x ≡ false)) → (all t r ≡ true) ⊎ ((x : ℤ) × (t x ≡ false)) → (x : ℤ) × (t x ≡ false)
    go (inr z) b c = z
    go (inl p) (inr z) c = z
    go (inl p) (inl q) (inr z) = z
    go (inl p) (inl q) (inl s) = absurd (h (test_relates k l m r (every_x p q s)))

-- the constants' terms are those below their count
is_up : (s n i : ℕ) → Is (terms_from s n) i → (s ≤ i) × (i < s + n)
is_up s zero i e = absurd (false≢true e)
is_up s (suc n) i e = go (or_cases (eqb s i) (any (λ (j : Term). eqb j.index i) (terms_from (suc s) n)) e) (is_up (suc s) n i)
  where
    go : (eqb s i ≡ true) ⊎ (any (λ (j : Term). eqb j.index i) (terms_from (suc s) n) ≡ true) → (any (λ (j : Term). eqb j.index i) (terms_from (suc s) n) ≡ true → (suc s ≤ i) × (i < suc s + n)) → (s ≤ i) × (i < s + suc n)
    go (inl q) ih = omega (arith, eqb-true s i q)
    go (inr q) ih = omega (arith, ih q)

pub is_below : (n i : ℕ) → Is (terms_from 0 n) i → i < n
is_below n i e = omega (arith, is_up 0 n i e)

pub last_le : (ls : List Constraint) (w last : ℕ) → Numbered w last ls → w ≤ last
last_le [] w last e = omega arith
last_le (l ∷ ls) w last e = omega (arith, last_le ls (w + uses l) last e.1)

-- its operands are of the problem
abbrev pub InScope : Problem → Constraint → Type 0
InScope prob l = Refers prob.constants (nameable prob) (set_count prob) l

-- a constraint says the same of values that agree where it can look
module _ (prob : Problem) (v w : Valuation) (nums : (t : Term) → t.index < nameable prob → v.num t ≡ w.num t) (sets : (A : SetVar) → A.index < set_count prob → v.members A ≡ w.members A) where
  images_same : (es : List Term) → Each (λ e. e.index < nameable prob) es → map v.num es ≡ map w.num es
  images_same [] a = refl
  images_same (e ∷ es) a = ap₂ (λ (x : ℤ) (y : List ℤ). x ∷ y) (nums e a.0) (images_same es a.1)

  meaning_same : (l : Constraint) → InScope prob l → Holds v l ≡ Holds w l
  meaning_same (member t A) a = λ i. nums t a.0 i ∈ sets A a.1 i
  meaning_same (nonmember t A) a = λ i. ¬ (nums t a.0 i ∈ sets A a.1 i)
  meaning_same (same t u) a = λ i. nums t a.0 i ≡ nums u a.1 i
  meaning_same (different t u) a = λ i. ¬ (nums t a.0 i ≡ nums u a.1 i)
  meaning_same (relation k A B C) a = λ i. Relates k (sets A a.0 i) (sets B a.1 i) (sets C a.2 i)
  meaning_same (negation k A B C u) a = λ i. ¬ Relates (denies k) (sets A a.0 i) (sets B a.1 i) (sets C (subst (λ (X : SetVar). X.index < set_count prob) (sym a.2) a.0) i)
  meaning_same (exactly A es) a = λ i. (x : ℤ) → x ∈ sets A a.0 i ↔ x ∈ images_same es a.1 i
  meaning_same (interval A j k es) a = λ i. (x : ℤ) → x ∈ sets A a.0 i ↔ ((nums j (omega (arith, a.1)) i ≤ℤ x) × (x ≤ℤ nums k (omega (arith, a.2)) i))

  pub holds_same : (l : Constraint) → InScope prob l → Holds v l → Holds w l
  holds_same l a h = subst (λ (X : Type 0). X) (meaning_same l a) h

module _ (prob : Problem) (acc : Valid prob) where
  abbrev K : ℕ
  K = length prob.constants

  -- ---- ranges

  wide : (t : ℕ) → t < nameable prob → t < term_count prob
  wide t l = omega arith

  constraint_in : (l : Constraint) (w : ℕ) → InScope prob l → Tied w l → w + uses l ≤ term_count prob → ConstraintIn (term_count prob) (set_count prob) l
  constraint_in (member t A) w a e q = (wide t.index a.0, a.1)
  constraint_in (nonmember t A) w a e q = (wide t.index a.0, a.1)
  constraint_in (same t u) w a e q = (wide t.index a.0, wide u.index a.1)
  constraint_in (different t u) w a e q = (wide t.index a.0, wide u.index a.1)
  constraint_in (relation k A B C) w a e q = (a.0, a.1, a.2)
  constraint_in (negation k A B C u) w a e q = ((a.0, a.1, subst (λ (X : SetVar). X.index < set_count prob) (sym a.2) a.0), omega arith)
  constraint_in (exactly A es) w a e q = (a.0, each_imp (λ t. t.index < nameable prob) (λ t. t.index < term_count prob) es (λ t l. wide t.index l) a.1)
  constraint_in (interval A i j es) w a e q = (a.0, rw a.4 (terms_each (λ t. t.index < term_count prob) i.index (suc j.index - i.index) (λ t l h. omega (arith, a.1, a.2))))

  constraints_within' : (ls : List Constraint) (w : ℕ) → Each (InScope prob) ls → Numbered w (term_count prob) ls → Each (ConstraintIn (term_count prob) (set_count prob)) ls
  constraints_within' [] w a e = tt
  constraints_within' (l ∷ ls) w a e = (constraint_in l w a.0 e.0 (last_le ls (w + uses l) (term_count prob) e.1), constraints_within' ls (w + uses l) a.1 e.1)

  pub constraints_within : Each (ConstraintIn (term_count prob) (set_count prob)) prob.constraints
  constraints_within = constraints_within' prob.constraints (nameable prob) acc.refers acc.numbered

  -- ---- values with the problem's constants

  module _ (v : Valuation) (own : (p : ℕ) → p < K → v.num (term p) ≡ get_or prob.constants p (pos 0)) where
    pub constants_distinct : Distinct (constant_terms prob) v
    constants_distinct i j p q e = let li = is_below K i p in let lj = is_below K j q in rising_inj prob.constants acc.rising i j li lj (sym (own i li) ∙ e ∙ own j lj)

    -- an interval is its entries
    module _ (i j : Term) (li : i.index < K) (lj : j.index < K) (fill : (x : ℤ) → get_or prob.constants i.index (pos 0) ≤ℤ x → x ≤ℤ get_or prob.constants j.index (pos 0) → x ∈ prob.constants) where
      interval_to : (x : ℤ) → (v.num i ≤ℤ x) × (x ≤ℤ v.num j) → x ∈ map v.num (entries i j)
      interval_to x h =
          let a : get_or prob.constants i.index (pos 0) ≤ℤ x = rw (own i.index li) at h.0 in
          let b : x ≤ℤ get_or prob.constants j.index (pos 0) = rw (own j.index lj) at h.1 in
          let r = place_of prob.constants x (fill x a b) in
          let p : ℕ = r.0 in
          let lo : i.index ≤ p = le_rising prob.constants acc.rising i.index p li (subst (λ (y : ℤ). get_or prob.constants i.index (pos 0) ≤ℤ y) r.2 a) in
          let hi : p ≤ j.index = le_rising prob.constants acc.rising p j.index r.1 (subst (λ (y : ℤ). y ≤ℤ get_or prob.constants j.index (pos 0)) r.2 b) in
          subst (λ (y : ℤ). y ∈ map v.num (entries i j)) (own p r.1 ∙ sym r.2)
          (terms_at (λ t. v.num t ∈ map v.num (entries i j)) i.index (suc j.index - i.index) (image_of v.num (entries i j)) p lo (omega arith))

      interval_from : (x : ℤ) → x ∈ map v.num (entries i j) → (v.num i ≤ℤ x) × (x ≤ℤ v.num j)
      interval_from x m =
          let r = from_image (λ t. (i.index ≤ t.index) × (t.index < suc j.index)) v.num (entries i j) x (terms_each (λ t. (i.index ≤ t.index) × (t.index < suc j.index)) i.index (suc j.index - i.index) (λ t l h. (l, omega arith))) m in
          let p : ℕ = r.0.index in
          let pj : p ≤ j.index = omega (arith, r.1.1) in
          let pk : p < K = omega arith in
          let e : x ≡ get_or prob.constants p (pos 0) = r.2 ∙ own p pk in
          (rw (own i.index li, e) (rising_le prob.constants acc.rising i.index p r.1.0 pk), rw (own j.index lj, e) (rising_le prob.constants acc.rising p j.index pj lj))

    pub interval_lists : (A : SetVar) (i j : Term) (es : List Term) → InScope prob (interval A i j es) → Holds v (interval A i j es) ↔ Lists v A es
    interval_lists A i j es a = rw a.4 (
      (λ h x. (λ m. interval_to i j a.1 a.2 a.3 x ((h x).0 m), λ m. (h x).1 (interval_from i j a.1 a.2 a.3 x m))),
      λ g x. (λ m. interval_from i j a.1 a.2 a.3 x ((g x).0 m), λ m. (g x).1 (interval_to i j a.1 a.2 a.3 x m)),
    )

    -- what the rules use is what the constraints say
    pub good_holds : (l : Constraint) → InScope prob l → Meant v l → Holds v l
    good_holds (member t A) a g = g
    good_holds (nonmember t A) a g = g
    good_holds (same t u) a g = g
    good_holds (different t u) a g = g
    good_holds (relation k A B C) a g = g
    good_holds (negation k A B C w) a g = λ h. clash (relates_test (denies k) (v.members A) (v.members B) (v.members C) h (v.num w)) g
    good_holds (exactly A es) a g = g
    good_holds (interval A i j es) a g = (interval_lists A i j es a).1 g

  -- ---- witnesses

  module _ (g : Assignment) where
    pub own : (witness : Term → ℤ) (p : ℕ) → p < K → (values prob g witness).num (term p) ≡ get_or prob.constants p (pos 0)
    own witness p l = rw (lt-ltb p K l)

    -- a named term has the same value whatever the witnesses have
    num_any : (u w : Term → ℤ) (t : ℕ) → t < nameable prob → (values prob g u).num (term t) ≡ (values prob g w).num (term t)
    num_any u w t l = rw (lt-ltb t (nameable prob) l)

    pub holds_any : (u w : Term → ℤ) (l : Constraint) → InScope prob l → Holds (values prob g u) l → Holds (values prob g w) l
    holds_any u w = holds_same prob (values prob g u) (values prob g w) (λ t l. num_any u w t.index l) (λ A l. refl)

    -- a number for each witness: one at which the relation fails
    abbrev Broken : (Term → ℤ) → Constraint → Type 0
    Broken f (member t A) = Unit {0}
    Broken f (nonmember t A) = Unit {0}
    Broken f (same t u) = Unit {0}
    Broken f (different t u) = Unit {0}
    Broken f (relation k A B C) = Unit {0}
    Broken f (negation k A B C w) = (nameable prob ≤ w.index) × (holds_at (denies k) (has (g.members A) (f w)) (has (g.members B) (f w)) (has (g.members C) (f w)) ≡ false)
    Broken f (exactly A es) = Unit {0}
    Broken f (interval A i j es) = Unit {0}

    -- a change below the first witness changes nothing
    broken_at : (e f : Term → ℤ) (w : ℕ) → ((u : ℕ) → w ≤ u → e (term u) ≡ f (term u)) → (l : Constraint) → Tied w l → Broken e l → Broken f l
    broken_at e f w h (member t A) q b = tt
    broken_at e f w h (nonmember t A) q b = tt
    broken_at e f w h (same t u) q b = tt
    broken_at e f w h (different t u) q b = tt
    broken_at e f w h (relation k A B C) q b = tt
    broken_at e f w h (negation k A B C u) q b = (b.0, subst (λ (x : ℤ). holds_at (denies k) (has (g.members A) x) (has (g.members B) x) (has (g.members C) x) ≡ false) (h u.index (omega arith)) b.1)
    broken_at e f w h (exactly A es) q b = tt
    broken_at e f w h (interval A i j es) q b = tt

    broken_later : (e f : Term → ℤ) (ls : List Constraint) (w last : ℕ) → Numbered w last ls → ((u : ℕ) → w ≤ u → e (term u) ≡ f (term u)) → Each (Broken e) ls → Each (Broken f) ls
    broken_later e f [] w last q h b = tt
    broken_later e f (l ∷ ls) w last q h b = (broken_at e f w h l q.0 b.0, broken_later e f ls (w + uses l) last q.1 (λ u m. h u (omega arith)) b.1)

    -- the first constraint's number, over those for the rest
    choose_at : (v f : Term → ℤ) (w : ℕ) → nameable prob ≤ w → (l : Constraint) → Tied w l → Holds (values prob g v) l → (e : Term → ℤ) × Broken e l × ((u : ℕ) → w + uses l ≤ u → f (term u) ≡ e (term u))
    choose_at v f w m (member t A) q h = (f, tt, λ u _. refl)
    choose_at v f w m (nonmember t A) q h = (f, tt, λ u _. refl)
    choose_at v f w m (same t u) q h = (f, tt, λ u _. refl)
    choose_at v f w m (different t u) q h = (f, tt, λ u _. refl)
    choose_at v f w m (relation k A B C) q h = (f, tt, λ u _. refl)
    choose_at v f w m (negation k A B C u) q h =
        let z = breaks (denies k) (g.members A) (g.members B) (g.members C) h in
        let e : Term → ℤ = λ x. cond (eqb x.index w) z.0 (f x) in
        let eu : z.0 ≡ e u = rw (eq-eqb u.index w q) in
        (e, (omega arith, subst (λ (x : ℤ). holds_at (denies k) (has (g.members A) x) (has (g.members B) x) (has (g.members C) x) ≡ false) eu z.1), λ x n. rw (ne_eqb x w (omega arith)))
    choose_at v f w m (exactly A es) q h = (f, tt, λ u _. refl)
    choose_at v f w m (interval A i j es) q h = (f, tt, λ u _. refl)

    chosen : (v : Term → ℤ) (ls : List Constraint) (w last : ℕ) → nameable prob ≤ w → Numbered w last ls → Each (Holds (values prob g v)) ls → (f : Term → ℤ) × Each (Broken f) ls
    chosen v [] w last m q h = (v, tt)
    chosen v (l ∷ ls) w last m q h =
        let r = chosen v ls (w + uses l) last (omega arith) q.1 h.1 in
        let z = choose_at v r.0 w m l q.0 h.0 in
        (z.0, (z.1, broken_later r.0 z.0 ls (w + uses l) last q.1 z.2 r.1))

    -- a witness has the number chosen for it
    num_witness : (f : Term → ℤ) (w : ℕ) → nameable prob ≤ w → (values prob g f).num (term w) ≡ f (term w)
    num_witness f w l = rw (le-ltb w K (omega arith), le-ltb w (nameable prob) l)

    broken_good : (f : Term → ℤ) (l : Constraint) → InScope prob l → Broken f l × Holds (values prob g f) l → Meant (values prob g f) l
    broken_good f (member t A) a h = h.1
    broken_good f (nonmember t A) a h = h.1
    broken_good f (same t u) a h = h.1
    broken_good f (different t u) a h = h.1
    broken_good f (relation k A B C) a h = h.1
    broken_good f (negation k A B C w) a h = rw (num_witness f w.index h.0.0) h.0.1
    broken_good f (exactly A es) a h = h.1
    broken_good f (interval A i j es) a h = (interval_lists (values prob g f) (own f) A i j es a).0 h.1

    -- a solution, with numbers for the witnesses
    pub witnessed : Satisfies prob g → (f : Term → ℤ) × Each (Holds (values prob g f)) prob.constraints × Each (Meant (values prob g f)) prob.constraints
    witnessed h =
        let r = chosen (λ _. pos 0) prob.constraints (nameable prob) (term_count prob) (le_refl (nameable prob)) acc.numbered h in
        let f : Term → ℤ = r.0 in
        let hf : Each (Holds (values prob g f)) prob.constraints = each_zip (InScope prob) (Holds (values prob g (λ _. pos 0))) (Holds (values prob g f)) prob.constraints (λ l a q. holds_any (λ _. pos 0) f l a q) acc.refers h in (
          f,
          hf,
          each_zip (InScope prob) (λ l. Broken f l × Holds (values prob g f) l) (Meant (values prob g f)) prob.constraints (broken_good f) acc.refers
              (each_zip (Broken f) (Holds (values prob g f)) (λ l. Broken f l × Holds (values prob g f) l) prob.constraints (λ l x y. (x, y)) r.1 hf),
        )

-- Every move that a constraint offers is sound for values of which the constraint is true.
use mathlib.Core.Path.{◌≡◌, refl, sym, ◌∙◌, ap, ap₂, fun_ext}
use mathlib.Core.Logic.{◌⊎◌, inl, inr, ◌↔◌}
use mathlib.Core.Bool.{Bool, true, false, ◌&&◌, ◌||◌, not, false≢true}
use mathlib.Core.List.{List, [], ◌∷◌, map}
use Prim.Native.Nat.{ℕ}
use lib.Dec.{eqb}
use lib.IntN.{ℤ}
use Rattle.calculus.specs.Terms.{Term, SetVar}
use Rattle.calculus.proofs.AtNumber.{term_eqb}
use Rattle.calculus.specs.Lists.{imp, all, any, keep, Each}
use Rattle.calculus.specs.Relations.{Rule, applies, propagation, choice, sound, adds, map_rule, Relation, holds_at, Operand, Literal, propagation_rows, split_rows, negation_row, Negation, unequal, denies, lit_known, rows, operand_of}
use Rattle.calculus.specs.Relations as R
use Rattle.calculus.specs.Meaning.{Constraint, member, nonmember, same, different, relation, negation, exactly, interval, ◌∈◌, Valuation, Relates}
use Rattle.calculus.specs.Branch.{Branch, root_at, root, Fact, In, Out, Same, known}
use Rattle.calculus.specs.Search.{Move, fact_of, at, at_roots, distinct, entering, choose, choosing, propagations, splits}
use Rattle.calculus.proofs.Bools.{and_l, or_cases, or_l, or_r, imp_i, test, each_all, all_map, any_map, each_left, each_right, each_is_all, each_imp, each_map, each_gather}
use Rattle.calculus.proofs.Tables.{lit_true, rows_sound, negation_sound}
use Rattle.calculus.proofs.Truth.{eq_z, eq_z_eq, eq_eq_z, has, has_in, in_has, relates_test, truth, Sat}
use Rattle.calculus.proofs.Asserting.{WellFormed, still, same_num}

-- what holds of three operands
pub operand_in : {X : Type 0} (P : X → Type 0) {A B C : X} → P A × P B × P C → (o : Operand) → P (operand_of A B C o)
operand_in P l R.A = l.0
operand_in P l R.B = l.1
operand_in P l R.C = l.2

-- ---- a row at a term is the row

module _ {F G : Type 0} (f : F → G) (p : G → Bool) where
  all2 : (gs : List (List F)) → any (all p) (map (map f) gs) ≡ any (all (λ x. p (f x))) gs
  all2 gs = any_map (all p) (map f) gs ∙ ap (λ (q : List F → Bool). any q gs) (fun_ext (λ g. all_map p f g))

  all2_not : (gs : List (List F)) → all (λ (g : List G). not (all p g)) (map (map f) gs) ≡ all (λ (g : List F). not (all (λ x. p (f x)) g)) gs
  all2_not gs = all_map (λ (g : List G). not (all p g)) (map f) gs ∙ ap (λ (q : List F → Bool). all q gs) (fun_ext (λ g. ap not (all_map p f g)))

  pub sound_map : (s : Rule F) → sound p (map_rule f s) ≡ sound (λ x. p (f x)) s
  sound_map s = ap₂ imp (all_map p f s.premises) (all2 s.alternatives)

  pub applies_map : (s : Rule F) → applies p (map_rule f s) ≡ applies (λ x. p (f x)) s
  applies_map s = ap₂ (λ (x y : Bool). x && not y) (all_map p f s.premises) (all2 s.blockers)

  pub adds_map : (s : Rule F) → adds p (map_rule f s) ≡ adds (λ x. p (f x)) s
  adds_map s = ap₂ imp (applies_map s) (all2_not s.alternatives)

pub truth_fact : (v : Valuation) (h : Term) (s : Operand → SetVar) → (λ (l : Literal). truth v (fact_of h s l)) ≡ lit_true (λ p. has (v.members (s p)) (v.num h))
truth_fact v h s = fun_ext (λ l. elim l as (λ m. truth v (fact_of h s m) ≡ lit_true (λ p. has (v.members (s p)) (v.num h)) m) [ R.In p ↦ refl | R.Out p ↦ refl ])

pub known_fact : (b : Branch) (h : Term) (s : Operand → SetVar) → (λ (l : Literal). known b (fact_of h s l)) ≡ lit_known (λ p. known b (In h (s p))) (λ p. known b (Out h (s p)))
known_fact b h s = fun_ext (λ l. elim l as (λ m. known b (fact_of h s m) ≡ lit_known (λ p. known b (In h (s p))) (λ p. known b (Out h (s p))) m) [ R.In p ↦ refl | R.Out p ↦ refl ])

-- ---- constraints with their witnesses

abbrev pub Lists : Valuation → SetVar → List Term → Type 0
Lists v A es = (x : ℤ) → x ∈ v.members A ↔ x ∈ map v.num es

-- what the rules use: a failing relation fails at the witness, an interval is its entries
abbrev pub Meant : Valuation → Constraint → Type 0
Meant v (member t A) = v.num t ∈ v.members A
Meant v (nonmember t A) = ¬ (v.num t ∈ v.members A)
Meant v (same t u) = v.num t ≡ v.num u
Meant v (different t u) = ¬ (v.num t ≡ v.num u)
Meant v (relation k A B C) = Relates k (v.members A) (v.members B) (v.members C)
Meant v (negation k A B C w) = holds_at (denies k) (has (v.members A) (v.num w)) (has (v.members B) (v.num w)) (has (v.members C) (v.num w)) ≡ false
Meant v (exactly A es) = Lists v A es
Meant v (interval A i j es) = Lists v A es

-- ---- soundness

module _ (P : Term → Rule Literal → Type 0) where
  pub each_swap : (rs : List (Rule Literal)) → ((h : Term) → Each (P h) rs) → Each (λ r. (h : Term) → P h r) rs
  each_swap [] f = tt
  each_swap (r ∷ rs) f = (λ h. (f h).0, each_swap rs (λ h. (f h).1))

-- every row at every root
pub over_each : (Q : Move → Type 0) (s : Operand → SetVar) (hs : List Term) (rs : List (Rule Literal)) → Each (λ r. Each (λ h. Q (at h s r)) hs) rs → Each (λ (p : Term × Move). Q p.1) (at_roots hs s rs)
over_each Q s hs rs e = each_gather (λ (p : Term × Move). Q p.1) (λ (r : Rule Literal). map (λ (h : Term). (h, at h s r)) hs) rs
    (each_imp (λ r. Each (λ h. Q (at h s r)) hs) (λ r. Each (λ (p : Term × Move). Q p.1) (map (λ (h : Term). (h, at h s r)) hs)) rs
    (λ r f. each_map (λ (p : Term × Move). Q p.1) (λ (h : Term). (h, at h s r)) hs f) e)

module _ (v : Valuation) where
  abbrev Sound : Move → Type 0
  Sound mv = sound (truth v) mv ≡ true

  at_sound : (h : Term) (s : Operand → SetVar) (r : Rule Literal) → sound (lit_true (λ p. has (v.members (s p)) (v.num h))) r ≡ true → Sound (at h s r)
  at_sound h s r e = sound_map (fact_of h s) (truth v) r ∙ ap (λ (q : Literal → Bool). sound q r) (truth_fact v h s) ∙ e

  rows_each : (k : Relation) (A B C : SetVar) → Relates k (v.members A) (v.members B) (v.members C) → (h : Term) → Each (λ r. Sound (at h (operand_of A B C) r)) (rows k)
  rows_each k A B C g h =
      each_imp (λ r. sound (lit_true (λ p. has (v.members (operand_of A B C p)) (v.num h))) r ≡ true) (λ r. Sound (at h (operand_of A B C) r)) (rows k)
      (λ r e. at_sound h (operand_of A B C) r e)
      (each_all (sound (lit_true (λ p. has (v.members (operand_of A B C p)) (v.num h)))) (rows k)
      (rows_sound k (λ p. has (v.members (operand_of A B C p)) (v.num h)) (relates_test k (v.members A) (v.members B) (v.members C) g (v.num h))))

  over_sound : (k : Relation) (A B C : SetVar) (hs : List Term) (rs : List (Rule Literal)) → ((h : Term) → Each (λ r. Sound (at h (operand_of A B C) r)) rs) → Each (λ (p : Term × Move). Sound p.1) (at_roots hs (operand_of A B C) rs)
  over_sound k A B C hs rs f =
      over_each Sound (operand_of A B C) hs rs
      (each_imp (λ r. (h : Term) → Sound (at h (operand_of A B C) r)) (λ r. Each (λ h. Sound (at h (operand_of A B C) r)) hs) rs (λ r g. each_is_all (λ h. Sound (at h (operand_of A B C) r)) g hs)
      (each_swap (λ h r. Sound (at h (operand_of A B C) r)) rs f))

  propagation_sound : (rule : ℕ) (premises : List Fact) (f : Fact) → truth v f ≡ true → Sound (propagation rule premises f)
  propagation_sound rule premises f e = imp_i (all (truth v) premises) ((truth v f && true) || false) (λ _. rw e)

  -- the entries are true of each
  in_all : (A : SetVar) (es : List Term) → ((x : ℤ) → x ∈ map v.num es → x ∈ v.members A) → Each (λ e. truth v (In e A) ≡ true) es
  in_all A [] f = tt
  in_all A (e ∷ es) f = (in_has (v.members A) (v.num e) (f (v.num e) (inl refl)), in_all A es (λ x h. f x (inr h)))

  entering_sound : (b : Branch) (hs : List Term) (A : SetVar) (es : List Term) → Lists v A es → Each (λ (p : Term × Move). Sound p.1) (entering hs b A es)
  entering_sound b hs A es g = each_map (λ (p : Term × Move). Sound p.1) (λ (e : Term). (root b e, propagation 19 [] (In e A))) es
      (each_imp (λ e. truth v (In e A) ≡ true) (λ e. Sound (propagation 19 [] (In e A))) es (λ e q. propagation_sound 19 [] (In e A) q) (in_all A es (λ x. (g x).1)))

  module _ (b : Branch) (n : ℕ) (k : List Term) (F : WellFormed n k b) (s : Sat v b) where
    -- an entry with the value, and its root
    in_entries : (x : ℤ) (es : List Term) → x ∈ map v.num es → any (λ g. eq_z x (v.num g)) (map (root b) es) ≡ true
    in_entries x [] h = absurd h
    in_entries x (e ∷ es) (inl h) = or_l (any (λ g. eq_z x (v.num g)) (map (root b) es)) (eq_eq_z x (v.num (root b e)) (h ∙ same_num v b s e.index (root_at b e.index) (sym (still n k b F e.index))))
    in_entries x (e ∷ es) (inr h) = or_r (eq_z x (v.num (root b e))) (in_entries x es h)

    keep_or : (p : Term → Bool) (x : Term) (l : List Term) → any p l ≡ true → (p x || any p (keep (λ (y : Term). not (eqb y.index x.index)) l)) ≡ true
    keep_or p x [] e = absurd (false≢true e)
    keep_or p x (y ∷ ys) e = go (or_cases (p y) (any p ys) e) (eqb y.index x.index) refl (keep_or p x ys)
      where
        go : (p y ≡ true) ⊎ (any p ys ≡ true) → (t : Bool) → eqb y.index x.index ≡ t → (any p ys ≡ true → (p x || any p (keep (λ (y : Term). not (eqb y.index x.index)) ys)) ≡ true) → (p x || any p (keep (λ (y : Term). not (eqb y.index x.index)) (y ∷ ys))) ≡ true
        go (inl q) true z ih = or_l (any p (keep (λ (y : Term). not (eqb y.index x.index)) (y ∷ ys))) (ap p (sym (term_eqb y x z)) ∙ q)
        go (inl q) false z ih = rw (z, q) (or_r (p x) refl)
        go (inr q) true z ih = rw z (ih q)
        go (inr q) false z ih = rw z (more (or_cases (p x) (any p (keep (λ (y : Term). not (eqb y.index x.index)) ys)) (ih q)))
          where
            more : (p x ≡ true) ⊎ (any p (keep (λ (y : Term). not (eqb y.index x.index)) ys) ≡ true) → (p x || (p y || any p (keep (λ (y : Term). not (eqb y.index x.index)) ys))) ≡ true
            more (inl c) = rw c
            more (inr c) = or_r (p x) (or_r (p y) c)

    any_distinct : (p : Term → Bool) (l : List Term) → any p l ≡ true → any p (distinct l) ≡ true
    any_distinct p [] e = e
    any_distinct p (x ∷ xs) e = go (or_cases (p x) (any p xs) e) (any_distinct p xs)
      where
        go : (p x ≡ true) ⊎ (any p xs ≡ true) → (any p xs ≡ true → any p (distinct xs) ≡ true) → (p x || any p (keep (λ (y : Term). not (eqb y.index x.index)) (distinct xs))) ≡ true
        go (inl q) ih = rw q
        go (inr q) ih = keep_or p x (distinct xs) (ih q)

    and_one : (a : Bool) → (a && true) ≡ a
    and_one true = refl
    and_one false = refl

    choose_sound : (hs : List Term) (A : SetVar) (es : List Term) → Lists v A es → (h : Term) → Sound (choose hs b A es h)
    choose_sound hs A es g h =
        imp_i (truth v (In h A) && true) (any (all (truth v)) (map (λ (e : Term). Same h e ∷ []) (distinct (map (root b) es))))
        (λ e. any_map (all (truth v)) (λ (e : Term). Same h e ∷ []) (distinct (map (root b) es))
        ∙ ap (λ (q : Term → Bool). any q (distinct (map (root b) es))) (fun_ext (λ x. and_one (eq_z (v.num h) (v.num x))))
        ∙ any_distinct (λ x. eq_z (v.num h) (v.num x)) (map (root b) es)
        (in_entries (v.num h) es ((g (v.num h)).0 (has_in (v.members A) (v.num h) (and_l (truth v (In h A)) true e)))))

    choosing_sound : (hs : List Term) (A : SetVar) (es : List Term) → Lists v A es → Each (λ (p : Term × Move). Sound p.1) (choosing hs b A es)
    choosing_sound hs A es g = each_map (λ (p : Term × Move). Sound p.1) (λ (h : Term). (h, choose hs b A es h)) hs (each_is_all (λ h. Sound (choose hs b A es h)) (choose_sound hs A es g) hs)

    module _ (hs : List Term) where
      pub propagations_sound : (l : Constraint) → Meant v l → Each (λ (p : Term × Move). Sound p.1) (propagations hs b l)
      propagations_sound (member t A) g = (propagation_sound 1 [] (In t A) (in_has (v.members A) (v.num t) g), tt)
      propagations_sound (nonmember t A) g = (propagation_sound 2 [] (Out t A) (rw (not_has t A g)), tt)
        where
          not_has : (t : Term) (A : SetVar) → ¬ (v.num t ∈ v.members A) → has (v.members A) (v.num t) ≡ false
          not_has t A g = go (test (has (v.members A) (v.num t)))
            where
              go : (has (v.members A) (v.num t) ≡ true) ⊎ (has (v.members A) (v.num t) ≡ false) → has (v.members A) (v.num t) ≡ false
              go (inl p) = absurd (g (has_in (v.members A) (v.num t) p))
              go (inr p) = p
      propagations_sound (same t u) g = (propagation_sound 3 [] (Same t u) (eq_eq_z (v.num t) (v.num u) g), tt)
      propagations_sound (different t u) g = (imp_i (truth v (Same t u) && true) false (λ e. absurd (g (eq_z_eq (v.num t) (v.num u) (and_l (truth v (Same t u)) true e)))), tt)
      propagations_sound (relation k A B C) g = over_sound k A B C hs (propagation_rows k) (λ h. each_left (λ r. Sound (at h (operand_of A B C) r)) (propagation_rows k) (split_rows k) (rows_each k A B C g h))
      propagations_sound (negation k A B C w) g = tt
      propagations_sound (exactly A es) g = entering_sound b hs A es g
      propagations_sound (interval A i j es) g = entering_sound b hs A es g

      pub splits_sound : (l : Constraint) → Meant v l → Each (λ (p : Term × Move). Sound p.1) (splits hs b l)
      splits_sound (member t A) g = tt
      splits_sound (nonmember t A) g = tt
      splits_sound (same t u) g = tt
      splits_sound (different t u) g = tt
      splits_sound (relation k A B C) g = over_sound k A B C hs (split_rows k) (λ h. each_right (λ r. Sound (at h (operand_of A B C) r)) (propagation_rows k) (split_rows k) (rows_each k A B C g h))
      splits_sound (negation k A B C w) g = (at_sound w (operand_of A B C) (negation_row k) (negation_sound k (λ p. has (v.members (operand_of A B C p)) (v.num w)) g), tt)
      splits_sound (exactly A es) g = choosing_sound hs A es g
      splits_sound (interval A i j es) g = choosing_sound hs A es g

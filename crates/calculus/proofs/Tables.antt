-- The rules' truth tables, computed, and what they say.
use mathlib.Core.Path.{◌≡◌, refl, ap, subst, fun_ext}
use mathlib.Core.Bool.{Bool, true, false, ◌&&◌, not}
use mathlib.Core.List.{List, [], ◌∷◌}
use Rattle.calculus.specs.Lists.{imp, all}
use Rattle.calculus.specs.Relations.{Rule, applies, sound, adds, Relation, equal, union, disjoint, subset, intersection, holds_at, Operand, A, B, C, Literal, In, Out, negation_row, Negation, unequal, denies, operand_of, lit_known, rows}
use Rattle.calculus.proofs.Bools.{and_i, imp_at, every3, every3_at, not_t}

module _ {X : Type 0} where
  by_all : (e : Operand → X) → operand_of (e A) (e B) (e C) ≡ e
  by_all e = fun_ext (λ p. elim p as (λ o. operand_of (e A) (e B) (e C) o ≡ e o) [ A ↦ refl | B ↦ refl | C ↦ refl ])

-- a literal's truth of an element
abbrev pub lit_true : (Operand → Bool) → Literal → Bool
lit_true e (In p) = e p
lit_true e (Out p) = not (e p)

-- 1. what a constraint of the kind makes true
sound_test : (k : Relation) → every3 (λ a b c. imp (holds_at k a b c) (all (sound (lit_true (operand_of a b c))) (rows k))) ≡ true
sound_test equal = refl
sound_test union = refl
sound_test disjoint = refl
sound_test subset = refl
sound_test intersection = refl

negation_test : (k : Negation) → every3 (λ a b c. imp (not (holds_at (denies k) a b c)) (sound (lit_true (operand_of a b c)) (negation_row k))) ≡ true
negation_test unequal = refl

-- 2. where no rule of the kind applies, the relation holds of what is known to be in
abbrev apart? : Bool → Bool → Bool → Bool → Bool → Bool → Bool
apart? a b c x y z = not (a && x) && not (b && y) && not (c && z)

full_test : (k : Relation) → every3 (λ a b c. every3 (λ x y z. imp (apart? a b c x y z && all (λ s. not (applies (lit_known (operand_of a b c) (operand_of x y z)) s)) (rows k)) (holds_at k a b c))) ≡ true
full_test equal = refl
full_test union = refl
full_test disjoint = refl
full_test subset = refl
full_test intersection = refl

negation_full_test : (k : Negation) → every3 (λ a b c. every3 (λ x y z. imp (apart? a b c x y z && not (applies (lit_known (operand_of a b c) (operand_of x y z)) (negation_row k))) (not (holds_at (denies k) a b c)))) ≡ true
negation_full_test unequal = refl

-- 3. a rule that applies adds something in each child
abbrev adds_test : List (Rule Literal) → Bool
adds_test rs = every3 (λ a b c. every3 (λ x y z. all (adds (lit_known (operand_of a b c) (operand_of x y z))) rs))

rows_add_test : (k : Relation) → adds_test (rows k) ≡ true
rows_add_test equal = refl
rows_add_test union = refl
rows_add_test disjoint = refl
rows_add_test subset = refl
rows_add_test intersection = refl

negation_adds_test : (k : Negation) → adds_test (negation_row k ∷ []) ≡ true
negation_adds_test unequal = refl

-- nothing is in no set
pub relation_none : (k : Relation) → holds_at k false false false ≡ true
relation_none equal = refl
relation_none union = refl
relation_none disjoint = refl
relation_none subset = refl
relation_none intersection = refl

module _ (k : Relation) (e : Operand → Bool) where
  pub rows_sound : holds_at k (e A) (e B) (e C) ≡ true → all (sound (lit_true e)) (rows k) ≡ true
  rows_sound h =
      let t = every3_at (λ a b c. imp (holds_at k a b c) (all (sound (lit_true (operand_of a b c))) (rows k))) (sound_test k) (e A) (e B) (e C) in
      subst (λ (f : Operand → Bool). all (sound (lit_true f)) (rows k) ≡ true) (by_all e) (imp_at _ _ t h)

module _ (i o : Operand → Bool) where
  -- nothing is known to be both in and out
  module _ (d : (p : Operand) → (i p && o p) ≡ false) where
    apart_known : apart? (i A) (i B) (i C) (o A) (o B) (o C) ≡ true
    apart_known = rw (d A, d B, d C)

    pub rows_full : (k : Relation) → all (λ s. not (applies (lit_known i o) s)) (rows k) ≡ true → holds_at k (i A) (i B) (i C) ≡ true
    rows_full k h =
        let t = every3_at (λ x y z. imp (apart? (i A) (i B) (i C) x y z && all (λ s. not (applies (lit_known (operand_of (i A) (i B) (i C)) (operand_of x y z)) s)) (rows k)) (holds_at k (i A) (i B) (i C)))
        (every3_at (λ a b c. every3 (λ x y z. imp (apart? a b c x y z && all (λ s. not (applies (lit_known (operand_of a b c) (operand_of x y z)) s)) (rows k)) (holds_at k a b c))) (full_test k) (i A) (i B) (i C))
        (o A) (o B) (o C) in
        imp_at _ _ t (and_i apart_known (rw (by_all i, by_all o) h))

    pub negation_full : (k : Negation) → applies (lit_known i o) (negation_row k) ≡ false → holds_at (denies k) (i A) (i B) (i C) ≡ false
    negation_full k h =
        let t = every3_at (λ x y z. imp (apart? (i A) (i B) (i C) x y z && not (applies (lit_known (operand_of (i A) (i B) (i C)) (operand_of x y z)) (negation_row k))) (not (holds_at (denies k) (i A) (i B) (i C))))
        (every3_at (λ a b c. every3 (λ x y z. imp (apart? a b c x y z && not (applies (lit_known (operand_of a b c) (operand_of x y z)) (negation_row k))) (not (holds_at (denies k) a b c)))) (negation_full_test k) (i A) (i B) (i C))
        (o A) (o B) (o C) in
        not_t _ (imp_at _ _ t (and_i apart_known (rw (by_all i, by_all o, h))))

  adds_at : (rs : List (Rule Literal)) → adds_test rs ≡ true → all (adds (lit_known i o)) rs ≡ true
  adds_at rs e =
      let t = every3_at (λ x y z. all (adds (lit_known (operand_of (i A) (i B) (i C)) (operand_of x y z))) rs)
      (every3_at (λ a b c. every3 (λ x y z. all (adds (lit_known (operand_of a b c) (operand_of x y z))) rs)) e (i A) (i B) (i C))
      (o A) (o B) (o C) in
      rw (by_all i, by_all o) at t

  pub rows_add : (k : Relation) → all (adds (lit_known i o)) (rows k) ≡ true
  rows_add k = adds_at (rows k) (rows_add_test k)

  pub negation_add : (k : Negation) → all (adds (lit_known i o)) (negation_row k ∷ []) ≡ true
  negation_add k = adds_at (negation_row k ∷ []) (negation_adds_test k)

pub negation_sound : (k : Negation) (e : Operand → Bool) → holds_at (denies k) (e A) (e B) (e C) ≡ false → sound (lit_true e) (negation_row k) ≡ true
negation_sound k e h =
    let t = every3_at (λ a b c. imp (not (holds_at (denies k) a b c)) (sound (lit_true (operand_of a b c)) (negation_row k))) (negation_test k) (e A) (e B) (e C) in
    subst (λ (f : Operand → Bool). sound (lit_true f) (negation_row k) ≡ true) (by_all e) (imp_at _ _ t (ap not h))

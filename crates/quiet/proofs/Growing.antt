-- A branch that has grown in the class of one root. What was said of a class stays said, so a rule that was blocked stays blocked. What is new is said of that class only.
use mathlib.Core.Path.{◌≡◌, refl, sym, ap, ◌∙◌, subst}
use mathlib.Core.Logic.{◌⊎◌, inl, inr}
use mathlib.Core.Bool.{Bool, true, false, ◌&&◌, ◌||◌}
use mathlib.Core.List.{List, [], ◌∷◌}
use Prim.Native.Nat.{ℕ, ◌<◌}
use native.Mathlib.Omega.{arith}
use native.Mathlib.Decide.{ℕ_discrete}
use lib.ListN.{length}
use lib.Dec.{eqb, ltb}
use borrow.Author.Tests.{eqb-true, eq-eqb, ltb-false}
use Rattle.calculus.specs.Lists.{all, any, bit, Each}
use Rattle.calculus.specs.Relations.{Rule, applies}
use Rattle.calculus.specs.Branch.{Branch, root_at}
use Rattle.calculus.proofs.Bools.{and_l, and_r, and_i, or_cases, or_l, or_r, not_f, test, each_all, all_each, any_imp, each_imp, each_zip}
use Rattle.calculus.proofs.Walk.{moved, moved_hi, moved_other}
use Rattle.branch.specs.Rows.{literal_known}
use Rattle.quiet.proofs.Sayings.{Saying, literal, holds, says}

-- c knows what b knew. Of root lo it also knows the literals of a word and what was known of root hi, whose class is now lo's.
pub record Grows (b c : Branch) (lo hi word : ℕ) : Type 0 where
  pub roots : (t : ℕ) → root_at c t ≡ moved lo hi (root_at b t)
  pub facts : (k j : ℕ) → literal_known c k j ≡ (literal_known b k j || (eqb j lo && (bit word k || literal_known b k hi)))
  pub low_root : root_at b lo ≡ lo
  pub high_root : root_at b hi ≡ hi

-- a literal that the word does not have
abbrev pub Old : ℕ → Saying → Type 0
Old word (literal k) = bit word k ≡ false
Old word (holds u) = ⊥

pub moved_none : (h t : ℕ) → moved h h t ≡ t
moved_none h t = go (ℕ_discrete t h)
  where
    go : Dec (t ≡ h) → moved h h t ≡ t
    go (yes e) = rw (e, moved_hi h h)
    go (no e) = moved_other h h t e

any_all : {X : Type 0} (p q : X → Bool) → ((x : X) → p x ≡ true → q x ≡ true) → (gs : List (List X)) → any (all p) gs ≡ true → any (all q) gs ≡ true
any_all p q f gs = any_imp (all p) (all q) gs (λ g h. all_each q g (each_imp (λ x. p x ≡ true) (λ x. q x ≡ true) g f (each_all p g h)))

module _ {b c : Branch} {lo hi word : ℕ} (g : Grows b c lo hi word) where
  -- a root was one before
  root_before : (p : ℕ) → root_at c p ≡ p → root_at b p ≡ p
  root_before p e = go (ℕ_discrete (root_at b p) hi)
    where
      go : Dec (root_at b p ≡ hi) → root_at b p ≡ p
      go (yes q) = let z : lo ≡ p = sym (moved_hi lo hi) ∙ ap (moved lo hi) (sym q) ∙ sym (g.roots p) ∙ e in rw (sym z) g.low_root
      go (no q) = sym (moved_other lo hi (root_at b p) q) ∙ sym (g.roots p) ∙ e

  -- what was said stays said
  still_said : (h : ℕ) (x : Saying) → says b h x ≡ true → says c (moved lo hi h) x ≡ true
  still_said h (holds u) e = eq-eqb (moved lo hi h) (root_at c u.index) (ap (moved lo hi) (eqb-true h (root_at b u.index) e) ∙ sym (g.roots u.index))
  still_said h (literal k) e = go (ℕ_discrete h hi)
    where
      go : Dec (h ≡ hi) → literal_known c k (moved lo hi h) ≡ true
      go (yes q) = rw (q, moved_hi lo hi, g.facts k lo, eq-eqb lo lo refl) (or_r (literal_known b k lo) (or_r (bit word k) (ap (literal_known b k) (sym q) ∙ e)))
      go (no q) = rw (moved_other lo hi h q, g.facts k h) (or_l (eqb h lo && (bit word k || literal_known b k hi)) e)

  -- an old literal was known of this root, or of hi if this is lo
  abbrev Before : ℕ → Saying → Type 0
  Before p x = (says b p x ≡ true) ⊎ ((p ≡ lo) × (says b hi x ≡ true))

  said_before : (p : ℕ) (x : Saying) → Old word x → says c p x ≡ true → Before p x
  said_before p (holds u) f e = absurd f
  said_before p (literal k) f e = go (or_cases (literal_known b k p) (eqb p lo && (bit word k || literal_known b k hi)) (sym (g.facts k p) ∙ e))
    where
      go : (literal_known b k p ≡ true) ⊎ ((eqb p lo && (bit word k || literal_known b k hi)) ≡ true) → Before p (literal k)
      go (inl q) = inl q
      go (inr q) = inr (eqb-true p lo (and_l (eqb p lo) (bit word k || literal_known b k hi) q), ap (λ (y : Bool). y || literal_known b k hi) (sym f) ∙ and_r (eqb p lo) (bit word k || literal_known b k hi) q)

  module _ (r : Rule Saying) where
    -- some premises were said of a root whose class is now that of p, and the rule did not apply there
    abbrev Stayed : ℕ → List Saying → Type 0
    Stayed p xs = (h : ℕ) × (moved lo hi h ≡ p) × (all (says b h) xs ≡ true) × (applies (says b h) r ≡ false)

    stays : (p : ℕ) → (all (says c p) r.premises ≡ true → Stayed p r.premises) → applies (says c p) r ≡ false
    stays p f = go (test (all (says c p) r.premises))
      where
        blocked : Stayed p r.premises → any (all (says c p)) r.blockers ≡ true
        blocked (h, m, k, i) = any_all (says b h) (says c p) (λ x e. subst (λ (y : ℕ). says c y x ≡ true) m (still_said h x e)) r.blockers (not_f (any (all (says b h)) r.blockers) (rw k at i))

        go : (all (says c p) r.premises ≡ true) ⊎ (all (says c p) r.premises ≡ false) → applies (says c p) r ≡ false
        go (inl q) = rw (q, blocked (f q))
        go (inr q) = rw q

    -- a rule without premises, at a term
    pub free_kept : r.premises ≡ [] → (t : ℕ) → applies (says b (root_at b t)) r ≡ false → applies (says c (root_at c t)) r ≡ false
    free_kept e t i = stays (root_at c t) (λ _. (root_at b t, sym (g.roots t), ap (all (says b (root_at b t))) e, i))

    -- a rule that was idle at every root below n: after a note, or with one premise after a merge
    module _ (n : ℕ) (idle : (h : ℕ) → h < n → root_at b h ≡ h → applies (says b h) r ≡ false) (p : ℕ) (low : p < n) (own : root_at c p ≡ p) where
      here : (xs : List Saying) → all (says b p) xs ≡ true → Stayed p xs
      here xs q = (p, ap (moved lo hi) (sym (root_before p own)) ∙ sym (g.roots p) ∙ own, q, idle p low (root_before p own))

      back : lo ≡ hi → (x : Saying) → Before p x → says b p x ≡ true
      back z x (inl s) = s
      back z x (inr (e, s)) = rw (e ∙ z) s

      premised : (xs : List Saying) → Each (Old word) xs → (lo ≡ hi) ⊎ ((hi < n) × (ltb 1 (length xs) ≡ false)) → all (says c p) xs ≡ true → Stayed p xs
      premised xs old (inl z) q = here xs (all_each (says b p) xs (each_zip (Old word) (λ x. says c p x ≡ true) (λ x. says b p x ≡ true) xs (λ x o s. back z x (said_before p x o s)) old (each_all (says c p) xs q)))
      premised [] old (inr w) q = here [] refl
      premised (x ∷ []) old (inr w) q = go (said_before p x old.0 (and_l (says c p x) true q))
        where
          go : Before p x → Stayed p (x ∷ [])
          go (inl s) = here (x ∷ []) (and_i s refl)
          go (inr (e, s)) = (hi, moved_hi lo hi ∙ sym e, and_i s refl, idle hi w.0 g.high_root)
      premised (x ∷ y ∷ xs) old (inr w) q = absurd (omega (arith, ltb-false 1 (length (x ∷ y ∷ xs)) w.1))

      pub root_kept : Each (Old word) r.premises → (lo ≡ hi) ⊎ ((hi < n) × (ltb 1 (length r.premises) ≡ false)) → applies (says c p) r ≡ false
      root_kept old w = stays p (premised r.premises old w)

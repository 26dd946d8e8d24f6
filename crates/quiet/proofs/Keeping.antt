-- A constraint stays idle where a branch grows, if no rule of it needs what is new, and none needs two facts where two classes become one.
use mathlib.Core.Path.{◌≡◌, refl, sym, ◌∙◌, subst}
use mathlib.Core.Logic.{◌⊎◌, inl, inr}
use mathlib.Core.Bool.{Bool, true, false, true≢false}
use mathlib.Core.Option.{none}
use mathlib.Core.List.{List, [], ◌∷◌}
use Prim.Native.Nat.{ℕ, ◌+◌, ◌<◌}
use native.Mathlib.Omega.{arith}
use lib.ListN.{length, get_or, length-map}
use lib.Dec.{eqb, ltb}
use borrow.Author.Tests.{eqb-true, eq-eqb}
use Rattle.calculus.specs.Limits.{most_sets}
use Rattle.calculus.specs.Lists.{up_from, any, first, bit, Each}
use Rattle.calculus.specs.Terms.{Term, SetVar, term}
use Rattle.calculus.specs.Relations.{Rule, Literal, Relation, applies, propagation, negation_row, operand_of, unequal}
use Rattle.calculus.specs.Meaning.{Constraint, member, nonmember, same, different, relation, negation, exactly, interval}
use Rattle.calculus.specs.Branch.{Branch, root_at, In, Out, Same, known}
use Rattle.calculus.specs.Invariants.{ConstraintIn}
use Rattle.calculus.specs.Search.{Move, at, choose}
use Rattle.calculus.proofs.Bools.{or_l, or_r, first_none, each_imp, each_map}
use Rattle.calculus.proofs.SearchLaws.{first_next, none_found}
use Rattle.calculus.proofs.Sequences.{up_each, up_at, keep_each, keep_at}
use Rattle.places.specs.Places.{RuleOf, row_of, roots, first_at}
use Rattle.branch.specs.Rows.{literal_count}
use Rattle.rules.specs.Rows.{literal_number}
use Rattle.fits.proofs.RowBits.{known_in, known_out, number_low}
use Rattle.quiet.specs.Quiet.{Idle, needs, pairs}
use Rattle.quiet.proofs.Sayings.{Saying, literal, holds, says, literal_of, tabled, chosen, once, tabled_said, chosen_said}
use Rattle.quiet.proofs.Growing.{Grows, Old, moved_none, free_kept, root_kept}

-- no rule of the constraint needs a literal of the word; and nothing is merged, or no rule needs two facts
pub record Spared (n : ℕ) (l : Constraint) (lo hi word : ℕ) : Type 0 where
  pub in_range : ConstraintIn n most_sets l
  pub unneeded : (j k : ℕ) → k < literal_count → RuleOf l j → needs l j k ≡ true → bit word k ≡ false
  pub unpaired : (j : ℕ) → RuleOf l j → (lo ≡ hi) ⊎ ((hi < n) × (pairs l j ≡ false))

-- literals that are not needed are old
unneeded_old : (word : ℕ) (f : Literal → ℕ) → ((x : Literal) → f x < literal_count) → (xs : List Literal) → ((k : ℕ) → k < literal_count → any (λ (x : Literal). eqb (f x) k) xs ≡ true → bit word k ≡ false) → Each (λ x. bit word (f x) ≡ false) xs
unneeded_old word f low [] u = tt
unneeded_old word f low (x ∷ xs) u = (u (f x) (low x) (or_l (any (λ (y : Literal). eqb (f y) (f x)) xs) (eq-eqb (f x) (f x) refl)), unneeded_old word f low xs (λ k l e. u k l (or_r (eqb (f x) k) e)))

module _ {b c : Branch} {lo hi word : ℕ} (g : Grows b c lo hi word) where
  -- a move without premises, and where it is tried at one term
  module _ (m : Move) (t : Term) (r : Rule Saying) (free : r.premises ≡ []) (is : (x : Branch) → applies (known x) m ≡ applies (says x (root_at x t.index)) r) where
    move_kept : applies (known b) m ≡ false → applies (known c) m ≡ false
    move_kept q = is c ∙ free_kept g r free t.index (sym (is b) ∙ q)

    term_kept : first (λ (p : ℕ). applies (known b) m) (root_at b t.index ∷ []) ≡ none → first (λ (p : ℕ). applies (known c) m) (root_at c t.index ∷ []) ≡ none
    term_kept q = first_next (λ p. applies (known c) m) (root_at c t.index) [] (move_kept (first_none (λ p. applies (known b) m) (root_at b t.index ∷ []) q).0)

  module _ (n : ℕ) where
    -- a rule that is tried at every root
    roots_kept : (r : Rule Saying) (p : Branch → ℕ → Bool) → ((x : Branch) (h : ℕ) → root_at x h ≡ h → p x h ≡ applies (says x h) r) → Each (Old word) r.premises → (lo ≡ hi) ⊎ ((hi < n) × (ltb 1 (length r.premises) ≡ false))
        → first (p b) (roots n b) ≡ none → first (p c) (roots n c) ≡ none
    roots_kept r p is old w e = none_found (p c) (roots n c) (each_imp (λ h. (h < n) × (eqb (root_at c h) h ≡ true)) (λ h. p c h ≡ false) (roots n c) after
        (keep_each (λ h. h < n) (λ h. eqb (root_at c h) h) (up_from 0 n) (up_each (λ h. h < n) 0 n (λ h _ l. omega arith))))
      where
        before : (h : ℕ) → h < n → root_at b h ≡ h → applies (says b h) r ≡ false
        before h l o = sym (is b h o) ∙ up_at (λ h. eqb (root_at b h) h ≡ true → p b h ≡ false) 0 n (keep_at (λ h. p b h ≡ false) (λ h. eqb (root_at b h) h) (up_from 0 n) (first_none (p b) (roots n b) e)) h (omega arith) (omega arith) (eq-eqb (root_at b h) h o)

        after : (h : ℕ) → (h < n) × (eqb (root_at c h) h ≡ true) → p c h ≡ false
        after h (l, q) = let o : root_at c h ≡ h = eqb-true (root_at c h) h q in is c h o ∙ root_kept g r n before h l o old w

    abbrev Kept : Constraint → ℕ → Type 0
    Kept l j = first_at n b l j ≡ none → first_at n c l j ≡ none

    different_kept : (t u : Term) (j : ℕ) → (lo ≡ hi) ⊎ ((hi < n) × (true ≡ false)) → Kept (different t u) j
    different_kept t u j (inl z) e = rw (g.roots t.index, g.roots u.index, z, moved_none hi (root_at b t.index), moved_none hi (root_at b u.index)) e
    different_kept t u j (inr (l, f)) e = absurd (true≢false f)

    relation_kept : (k : Relation) (A B C : SetVar) (j : ℕ) → Spared n (relation k A B C) lo hi word → RuleOf (relation k A B C) j → Kept (relation k A B C) j
    relation_kept k A B C j s o = roots_kept (tabled A B C (row_of k j)) (λ x h. applies (known x) (at (term h) (operand_of A B C) (row_of k j)))
        (λ x h e. tabled_said x h h e A B C s.in_range (row_of k j))
        (each_map (Old word) (literal_of A B C) (row_of k j).premises (unneeded_old word (literal_number (operand_of A.index B.index C.index)) (number_low A.index B.index C.index s.in_range) (row_of k j).premises (λ i l e. s.unneeded j i l o e)))
        (rw (length-map (row_of k j).premises (literal_of A B C)) (s.unpaired j o))

    -- rules 19 and 20
    list_kept : (A : SetVar) (es : List Term) (j : ℕ) → Spared n (exactly A es) lo hi word → RuleOf (exactly A es) j → Kept (exactly A es) j
    list_kept A es j s (inl o) = let e : j ≡ 19 = omega (arith, o.0, o.1) in subst (Kept (exactly A es)) (sym e) listed
      where
        move : ℕ → Move
        move p = propagation 19 [] (In (get_or es p (term 0)) A)

        listed : Kept (exactly A es) 19
        listed e = none_found (λ p. applies (known c) (move p)) (up_from 0 (length es))
            (each_imp (λ p. applies (known b) (move p) ≡ false) (λ p. applies (known c) (move p) ≡ false) (up_from 0 (length es))
            (λ p. move_kept (move p) (get_or es p (term 0)) (propagation 19 [] (literal A.index)) refl (λ x. once (known_in x (get_or es p (term 0)).index (root_at x (get_or es p (term 0)).index) refl A s.in_range.0)))
            (first_none (λ p. applies (known b) (move p)) (up_from 0 (length es)) e))
    list_kept A es j s (inr o) = let e : j ≡ 20 = omega (arith, o.0, o.1) in
        subst (Kept (exactly A es)) (sym e) (roots_kept (chosen A es) (λ x h. applies (known x) (choose [] x A es (term h))) (λ x h o. chosen_said x h h o A s.in_range.0 es)
        (s.unneeded 20 A.index (omega (arith, s.in_range.0)) (inr (omega arith, omega arith)) (eq-eqb A.index A.index refl), tt) (s.unpaired 20 (inr (omega arith, omega arith))))

    kept : (l : Constraint) (j : ℕ) → Spared n l lo hi word → RuleOf l j → Kept l j
    kept (member t A) j s o = term_kept (propagation 1 [] (In t A)) t (propagation 1 [] (literal A.index)) refl (λ x. once (known_in x t.index (root_at x t.index) refl A s.in_range.1))
    kept (nonmember t A) j s o = term_kept (propagation 2 [] (Out t A)) t (propagation 2 [] (literal (most_sets + A.index))) refl (λ x. once (known_out x t.index (root_at x t.index) refl A s.in_range.1))
    kept (same t u) j s o = term_kept (propagation 3 [] (Same t u)) t (propagation 3 [] (holds u)) refl (λ x. refl)
    kept (different t u) j s o = different_kept t u j (s.unpaired j o)
    kept (relation k A B C) j s o = relation_kept k A B C j s o
    kept (negation unequal A B C w) j s o = term_kept (at w (operand_of A B C) (negation_row unequal)) w (tabled A B C (negation_row unequal)) refl (λ x. tabled_said x w.index (root_at x w.index) refl A B C s.in_range.0 (negation_row unequal))
    kept (exactly A es) j s o = list_kept A es j s o
    kept (interval A x y es) j s o = list_kept A es j (record { in_range = s.in_range; unneeded = s.unneeded; unpaired = s.unpaired }) o

  pub idle_kept : {n : ℕ} {l : Constraint} → Spared n l lo hi word → (split : Bool) → Idle split n b l → Idle split n c l
  idle_kept {n} {l} s false i j o = kept n l j s (inl o) (i j o)
  idle_kept {n} {l} s true i j o = kept n l j s (inr o) (i j o)

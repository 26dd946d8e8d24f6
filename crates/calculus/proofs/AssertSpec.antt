-- Asserting a fact gives the branch with that fact and what it unites, or says that it conflicts.
use mathlib.Core.Path.{◌≡◌, refl, sym, ◌∙◌, ap, ap₂, subst}
use mathlib.Core.Logic.{◌↔◌, ◌≢◌, ◌⊎◌, inl, inr}
use mathlib.Core.Bool.{Bool, true, false, ◌&&◌, ◌||◌, false≢true}
use mathlib.Core.Option.{Option, none, some}
use mathlib.Core.List.{List}
use Prim.Native.Nat.{ℕ, ◌<◌}
use native.Mathlib.Omega.{arith}
use native.Mathlib.Decide.{ℕ_discrete}
use lib.Dec.{eqb}
use borrow.Author.Tests.{eqb-true, eq-eqb}
use Rattle.calculus.specs.Terms.{Term, SetVar, term}
use Rattle.calculus.proofs.AtNumber.{inside_at, outside_at, add_in, add_out, merge_at, torn_at, owns_at, merge_roots_at, set_eqb, eqb_set, same_index}
use Rattle.calculus.specs.Branch.{Branch, root_at, Fact, In, Out, Same, known, assert}
use Rattle.calculus.specs.Order.{KnownIn, KnownOut, OneClass, Then, Conflicts, Ranged, Reached, begun, asserted}
use Rattle.calculus.specs.Demands.{Asserts}
use Rattle.calculus.proofs.Bools.{and_l, and_r, and_i, or_cases, or_l, or_r, or_none_l, or_none_r, test}
use Rattle.calculus.proofs.Truth.{is_some, some_is}
use Rattle.calculus.specs.Lists.{Some}
use Rattle.calculus.proofs.Walk.{moved, moved_hi, moved_other}
use Rattle.calculus.proofs.Asserting.{WellFormed, owned, owning, inside_add_inside, outside_add_inside, root_add_inside, inside_add_outside, outside_add_outside, root_add_outside, inside_merge, outside_merge, below, still, conflict_if_some, conflict_if_none, Merges, already, upper, lower, merges, torn_some, torn_none, moves, root_in_insides, root_in_outsides}
use Rattle.calculus.proofs.Keeping.{assert_fit}
use Rattle.calculus.proofs.Start.{start_fit}

pub reached_fit : (n : ℕ) (k : List Term) (m : ℕ) (b : Branch) → Reached n k m b → WellFormed n k b
reached_fit n k m b begun = start_fit n k
reached_fit n k m b (asserted {b = a} f r o e) = assert_fit n k a (reached_fit n k m a r) m f o b e

module _ (n : ℕ) (k : List Term) (m : ℕ) (b : Branch) (F : WellFormed n k b) where
  one : (x y : Term) → root_at b x.index ≡ root_at b y.index → OneClass b x y
  one x y e = eq-eqb (root_at b x.index) (root_at b y.index) e

  one_root : (x y : Term) → OneClass b x y → root_at b x.index ≡ root_at b y.index
  one_root x y o = eqb-true (root_at b x.index) (root_at b y.index) o

  in_of : (x y : Term) (A : SetVar) → OneClass b x y → KnownIn b x A → KnownIn b y A
  in_of x y A o p = ap (λ (h : ℕ). inside_at b h A) (sym (one_root x y o)) ∙ p

  out_of : (x y : Term) (A : SetVar) → OneClass b x y → KnownOut b x A → KnownOut b y A
  out_of x y A o p = ap (λ (h : ℕ). outside_at b h A) (sym (one_root x y o)) ∙ p

  not_both : (x : Term) (A : SetVar) → KnownIn b x A → KnownOut b x A → ⊥
  not_both x A p q = false≢true (sym (F.clean (root_at b x.index) A) ∙ and_i p q)

  alone : (i j : Term) → Some (λ x. x ≡ i) k → Some (λ x. x ≡ j) k → i ≢ j → OneClass b i j → ⊥
  alone i j p q d o = d (same_index (F.lone i.index j.index (some_is k i p) (some_is k j q) (one_root i j o)))

  -- in, out
  module _ (t : Term) (A : SetVar) (lt : t.index < n) where
    add_inside_in : (u : Term) (B : SetVar) → (known (add_in b (root_at b t.index) A) (In u B) ≡ true) ↔ Then b (In t A) (In u B)
    add_inside_in u B =
        let e : known (add_in b (root_at b t.index) A) (In u B) ≡ (inside_at b (root_at b u.index) B || (eqb (root_at b u.index) (root_at b t.index) && eqb B.index A.index)) = ap (λ (h : ℕ). inside_at (add_in b (root_at b t.index) A) h B) (root_add_inside b (root_at b t.index) A u.index) ∙ inside_add_inside b (root_at b t.index) A (root_at b u.index) B (root_in_insides n k m b F t.index lt) in
        ((λ p. to (or_cases (inside_at b (root_at b u.index) B) (eqb (root_at b u.index) (root_at b t.index) && eqb B.index A.index) (sym e ∙ p))), (λ p. e ∙ from p))
      where
        to : (inside_at b (root_at b u.index) B ≡ true) ⊎ ((eqb (root_at b u.index) (root_at b t.index) && eqb B.index A.index) ≡ true) → Then b (In t A) (In u B)
        to (inl p) = inl p
        to (inr p) = inr (one t u (sym (eqb-true (root_at b u.index) (root_at b t.index) (and_l (eqb (root_at b u.index) (root_at b t.index)) (eqb B.index A.index) p))), sym (set_eqb B A (and_r (eqb (root_at b u.index) (root_at b t.index)) (eqb B.index A.index) p)))

        from : Then b (In t A) (In u B) → (inside_at b (root_at b u.index) B || (eqb (root_at b u.index) (root_at b t.index) && eqb B.index A.index)) ≡ true
        from (inl p) = or_l (eqb (root_at b u.index) (root_at b t.index) && eqb B.index A.index) p
        from (inr (o, z)) = or_r (inside_at b (root_at b u.index) B) (and_i (eq-eqb (root_at b u.index) (root_at b t.index) (sym (one_root t u o))) (eqb_set B A (sym z)))

    add_outside_out : (u : Term) (B : SetVar) → (known (add_out b (root_at b t.index) A) (Out u B) ≡ true) ↔ Then b (Out t A) (Out u B)
    add_outside_out u B =
        let e : known (add_out b (root_at b t.index) A) (Out u B) ≡ (outside_at b (root_at b u.index) B || (eqb (root_at b u.index) (root_at b t.index) && eqb B.index A.index)) = ap (λ (h : ℕ). outside_at (add_out b (root_at b t.index) A) h B) (root_add_outside b (root_at b t.index) A u.index) ∙ outside_add_outside b (root_at b t.index) A (root_at b u.index) B (root_in_outsides n k m b F t.index lt) in
        ((λ p. to (or_cases (outside_at b (root_at b u.index) B) (eqb (root_at b u.index) (root_at b t.index) && eqb B.index A.index) (sym e ∙ p))), (λ p. e ∙ from p))
      where
        to : (outside_at b (root_at b u.index) B ≡ true) ⊎ ((eqb (root_at b u.index) (root_at b t.index) && eqb B.index A.index) ≡ true) → Then b (Out t A) (Out u B)
        to (inl p) = inl p
        to (inr p) = inr (one t u (sym (eqb-true (root_at b u.index) (root_at b t.index) (and_l (eqb (root_at b u.index) (root_at b t.index)) (eqb B.index A.index) p))), sym (set_eqb B A (and_r (eqb (root_at b u.index) (root_at b t.index)) (eqb B.index A.index) p)))

        from : Then b (Out t A) (Out u B) → (outside_at b (root_at b u.index) B || (eqb (root_at b u.index) (root_at b t.index) && eqb B.index A.index)) ≡ true
        from (inl p) = or_l (eqb (root_at b u.index) (root_at b t.index) && eqb B.index A.index) p
        from (inr (o, z)) = or_r (outside_at b (root_at b u.index) B) (and_i (eq-eqb (root_at b u.index) (root_at b t.index) (sym (one_root t u o))) (eqb_set B A (sym z)))

    add_inside_is : (g : Fact) → (known (add_in b (root_at b t.index) A) g ≡ true) ↔ Then b (In t A) g
    add_inside_is (In u B) = add_inside_in u B
    add_inside_is (Out u B) = let e : known (add_in b (root_at b t.index) A) (Out u B) ≡ known b (Out u B) = ap (λ (h : ℕ). outside_at (add_in b (root_at b t.index) A) h B) (root_add_inside b (root_at b t.index) A u.index) ∙ outside_add_inside b (root_at b t.index) A (root_at b u.index) B in ((λ p. sym e ∙ p), (λ p. e ∙ p))
    add_inside_is (Same u x) = let e : known (add_in b (root_at b t.index) A) (Same u x) ≡ known b (Same u x) = ap₂ eqb (root_add_inside b (root_at b t.index) A u.index) (root_add_inside b (root_at b t.index) A x.index) in ((λ p. sym e ∙ p), (λ p. e ∙ p))

    add_outside_is : (g : Fact) → (known (add_out b (root_at b t.index) A) g ≡ true) ↔ Then b (Out t A) g
    add_outside_is (In u B) = let e : known (add_out b (root_at b t.index) A) (In u B) ≡ known b (In u B) = ap (λ (h : ℕ). inside_at (add_out b (root_at b t.index) A) h B) (root_add_outside b (root_at b t.index) A u.index) ∙ inside_add_outside b (root_at b t.index) A (root_at b u.index) B in ((λ p. sym e ∙ p), (λ p. e ∙ p))
    add_outside_is (Out u B) = add_outside_out u B
    add_outside_is (Same u x) = let e : known (add_out b (root_at b t.index) A) (Same u x) ≡ known b (Same u x) = ap₂ eqb (root_add_outside b (root_at b t.index) A u.index) (root_add_outside b (root_at b t.index) A x.index) in ((λ p. sym e ∙ p), (λ p. e ∙ p))

    in_none : (assert k b (In t A) ≡ none) ↔ Conflicts b n k (In t A)
    unfolding assert
    in_none = ((λ e. inl (t, A, lt, inr (one t t refl, refl), conflict_if_none (known b (Out t A)) (add_in b (root_at b t.index) A) e)), from)
      where
        from : Conflicts b n k (In t A) → assert k b (In t A) ≡ none
        from (inl (u, B, l, inl p, q)) = absurd (not_both u B p q)
        from (inl (u, B, l, inr (o, z), q)) = let w : known b (Out t A) ≡ true = rw z (out_of u t B (one u t (sym (one_root t u o))) q) in rw w
        from (inr (i, j, p, q, d, o)) = absurd (alone i j p q d o)

    out_none : (assert k b (Out t A) ≡ none) ↔ Conflicts b n k (Out t A)
    unfolding assert
    out_none = ((λ e. inl (t, A, lt, conflict_if_none (known b (In t A)) (add_out b (root_at b t.index) A) e, inr (one t t refl, refl))), from)
      where
        from : Conflicts b n k (Out t A) → assert k b (Out t A) ≡ none
        from (inl (u, B, l, p, inl q)) = absurd (not_both u B p q)
        from (inl (u, B, l, p, inr (o, z))) = let w : known b (In t A) ≡ true = rw z (in_of u t B (one u t (sym (one_root t u o))) p) in rw w
        from (inr (i, j, p, q, d, o)) = absurd (alone i j p q d o)

  -- merging: s's root is the lower
  module _ (s t : Term) (ls : s.index < n) (lt : t.index < n) (low : root_at b s.index < root_at b t.index) where
    abbrev j : Branch
    j = merge_at b (root_at b s.index) (root_at b t.index)

    at_hi : (u : Term) → root_at b u.index ≡ root_at b t.index → root_at j u.index ≡ root_at b s.index
    at_hi u e = moves n k m b F s.index t.index lt low u.index ∙ ap (moved (root_at b s.index) (root_at b t.index)) e ∙ moved_hi (root_at b s.index) (root_at b t.index)

    at_other : (u : Term) → root_at b u.index ≢ root_at b t.index → root_at j u.index ≡ root_at b u.index
    at_other u e = moves n k m b F s.index t.index lt low u.index ∙ moved_other (root_at b s.index) (root_at b t.index) (root_at b u.index) e

    in_at : (h : ℕ) (B : SetVar) → inside_at j h B ≡ (inside_at b h B || (eqb h (root_at b s.index) && inside_at b (root_at b t.index) B))
    in_at h B = inside_merge b (root_at b s.index) (root_at b t.index) h B (root_in_insides n k m b F s.index ls)

    out_at : (h : ℕ) (B : SetVar) → outside_at j h B ≡ (outside_at b h B || (eqb h (root_at b s.index) && outside_at b (root_at b t.index) B))
    out_at h B = outside_merge b (root_at b s.index) (root_at b t.index) h B (root_in_outsides n k m b F s.index ls)

    -- for a mask G of b, J of the merged branch
    module _ (G J : ℕ → Bool) (at : (h : ℕ) → J h ≡ (G h || (eqb h (root_at b s.index) && G (root_at b t.index)))) where
      abbrev Merged : Term → Type 0
      Merged u = (G (root_at b u.index) ≡ true) ⊎ ((OneClass b u s ⊎ OneClass b u t) × ((G (root_at b s.index) ≡ true) ⊎ (G (root_at b t.index) ≡ true)))

      to : (u : Term) → Dec (root_at b u.index ≡ root_at b t.index) → J (root_at j u.index) ≡ true → Merged u
      to u (yes e) p = inr (inr (one u t e), go (or_cases (G (root_at b s.index)) (eqb (root_at b s.index) (root_at b s.index) && G (root_at b t.index)) (sym (at (root_at b s.index)) ∙ (rw (at_hi u e) at p))))
        where
          go : (G (root_at b s.index) ≡ true) ⊎ ((eqb (root_at b s.index) (root_at b s.index) && G (root_at b t.index)) ≡ true) → (G (root_at b s.index) ≡ true) ⊎ (G (root_at b t.index) ≡ true)
          go (inl q) = inl q
          go (inr q) = inr (and_r (eqb (root_at b s.index) (root_at b s.index)) (G (root_at b t.index)) q)
      to u (no e) p = go (or_cases (G (root_at b u.index)) (eqb (root_at b u.index) (root_at b s.index) && G (root_at b t.index)) (sym (at (root_at b u.index)) ∙ (rw (at_other u e) at p)))
        where
          go : (G (root_at b u.index) ≡ true) ⊎ ((eqb (root_at b u.index) (root_at b s.index) && G (root_at b t.index)) ≡ true) → Merged u
          go (inl q) = inl q
          go (inr q) = inr (inl (and_l (eqb (root_at b u.index) (root_at b s.index)) (G (root_at b t.index)) q), inr (and_r (eqb (root_at b u.index) (root_at b s.index)) (G (root_at b t.index)) q))

      from_lo : (h : ℕ) → h ≡ root_at b s.index → (G (root_at b s.index) ≡ true) ⊎ (G (root_at b t.index) ≡ true) → J h ≡ true
      from_lo h e (inl q) = at h ∙ or_l (eqb h (root_at b s.index) && G (root_at b t.index)) (ap G e ∙ q)
      from_lo h e (inr q) = at h ∙ or_r (G h) (and_i (eq-eqb h (root_at b s.index) e) q)

      from : (u : Term) → Dec (root_at b u.index ≡ root_at b t.index) → Merged u → J (root_at j u.index) ≡ true
      from u (yes e) (inl p) = from_lo (root_at j u.index) (at_hi u e) (inr (ap G (sym e) ∙ p))
      from u (yes e) (inr (o, q)) = from_lo (root_at j u.index) (at_hi u e) q
      from u (no e) (inl p) = ap J (at_other u e) ∙ at (root_at b u.index) ∙ or_l (eqb (root_at b u.index) (root_at b s.index) && G (root_at b t.index)) p
      from u (no e) (inr (inl o, q)) = from_lo (root_at j u.index) (at_other u e ∙ one_root u s o) q
      from u (no e) (inr (inr o, q)) = absurd (e (one_root u t o))

    same_to : (u x : Term) → Dec (root_at b u.index ≡ root_at b t.index) → Dec (root_at b x.index ≡ root_at b t.index) → root_at j u.index ≡ root_at j x.index → Then b (Same s t) (Same u x)
    same_to u x (yes e) (yes f) p = inl (one u x (e ∙ sym f))
    same_to u x (yes e) (no f) p = inr (inr (one u t e), inl (one x s (sym (at_other x f) ∙ sym p ∙ at_hi u e)))
    same_to u x (no e) (yes f) p = inr (inl (one u s (sym (at_other u e) ∙ p ∙ at_hi x f)), inr (one x t f))
    same_to u x (no e) (no f) p = inl (one u x (sym (at_other u e) ∙ p ∙ at_other x f))

    -- the root after merging, of a term of either class
    either : (u : Term) → OneClass b u s ⊎ OneClass b u t → root_at j u.index ≡ root_at b s.index
    either u (inl o) = at_other u (λ e. let z : root_at b s.index ≡ root_at b t.index = sym (one_root u s o) ∙ e in omega arith) ∙ one_root u s o
    either u (inr o) = at_hi u (one_root u t o)

    same_from : (u x : Term) → Dec (root_at b u.index ≡ root_at b t.index) → Then b (Same s t) (Same u x) → root_at j u.index ≡ root_at j x.index
    same_from u x (yes e) (inl o) = at_hi u e ∙ sym (at_hi x (sym (one_root u x o) ∙ e))
    same_from u x (no e) (inl o) = at_other u e ∙ one_root u x o ∙ sym (at_other x (λ f. e (one_root u x o ∙ f)))
    same_from u x d (inr (p, q)) = either u p ∙ sym (either x q)

    merge_is : (g : Fact) → (known j g ≡ true) ↔ Then b (Same s t) g
    merge_is (In u B) = (to (λ h. inside_at b h B) (λ h. inside_at j h B) (λ h. in_at h B) u (ℕ_discrete (root_at b u.index) (root_at b t.index)), from (λ h. inside_at b h B) (λ h. inside_at j h B) (λ h. in_at h B) u (ℕ_discrete (root_at b u.index) (root_at b t.index)))
    merge_is (Out u B) = (to (λ h. outside_at b h B) (λ h. outside_at j h B) (λ h. out_at h B) u (ℕ_discrete (root_at b u.index) (root_at b t.index)), from (λ h. outside_at b h B) (λ h. outside_at j h B) (λ h. out_at h B) u (ℕ_discrete (root_at b u.index) (root_at b t.index)))
    merge_is (Same u x) = (
      (λ p. same_to u x (ℕ_discrete (root_at b u.index) (root_at b t.index)) (ℕ_discrete (root_at b x.index) (root_at b t.index)) (eqb-true (root_at j u.index) (root_at j x.index) p)),
      (λ p. eq-eqb (root_at j u.index) (root_at j x.index) (same_from u x (ℕ_discrete (root_at b u.index) (root_at b t.index)) p)),
    )

    abbrev both? : Bool
    both? = owns_at k b (root_at b s.index) && owns_at k b (root_at b t.index)

    merge_roots_to : merge_roots_at k b (root_at b s.index) (root_at b t.index) ≡ none → Conflicts b n k (Same s t)
    merge_roots_to e = go (or_cases both? (torn_at j (root_at b s.index)) (conflict_if_none (both? || torn_at j (root_at b s.index)) j e))
      where
        go : (both? ≡ true) ⊎ (torn_at j (root_at b s.index) ≡ true) → Conflicts b n k (Same s t)
        go (inl q) =
            let x = owned b k (root_at b s.index) (and_l (owns_at k b (root_at b s.index)) (owns_at k b (root_at b t.index)) q) in
            let y = owned b k (root_at b t.index) (and_r (owns_at k b (root_at b s.index)) (owns_at k b (root_at b t.index)) q) in
            inr (term x.0, term y.0, is_some k (term x.0) x.1, is_some k (term y.0) y.1, (λ d. let z : root_at b s.index ≡ root_at b t.index = sym x.2 ∙ ap (λ (e : Term). root_at b e.index) d ∙ y.2 in omega arith), inr (inl (one (term x.0) s x.2), inr (one (term y.0) t y.2)))
        go (inr q) =
            let z = torn_some j (root_at b s.index) q in
            let h : root_at j s.index ≡ root_at b s.index = either s (inl (one s s refl)) in
            inl (s, z.0, ls, (merge_is (In s z.0)).0 (ap (λ (x : ℕ). inside_at j x z.0) h ∙ z.1), (merge_is (Out s z.0)).0 (ap (λ (x : ℕ). outside_at j x z.0) h ∙ z.2))

    merge_roots_from : Conflicts b n k (Same s t) → merge_roots_at k b (root_at b s.index) (root_at b t.index) ≡ none
    merge_roots_from c = go (test (both? || torn_at j (root_at b s.index)))
      where
        different : (both? || torn_at j (root_at b s.index)) ≡ false → Conflicts b n k (Same s t) → ⊥
        different q (inl (u, B, l, p, r)) = bad (known_in ((merge_is (In u B)).1 p)) (known_out ((merge_is (Out u B)).1 r))
          where
            quiet : torn_at j (root_at b s.index) ≡ false
            quiet = or_none_r both? (torn_at j (root_at b s.index)) q

            known_in : known j (In u B) ≡ true → inside_at j (root_at j u.index) B ≡ true
            known_in x = x

            known_out : known j (Out u B) ≡ true → outside_at j (root_at j u.index) B ≡ true
            known_out x = x

            bad : inside_at j (root_at j u.index) B ≡ true → outside_at j (root_at j u.index) B ≡ true → ⊥
            bad x y = at (ℕ_discrete (root_at j u.index) (root_at b s.index))
              where
                at : Dec (root_at j u.index ≡ root_at b s.index) → ⊥
                at (yes e) = false≢true (sym (torn_none j (root_at b s.index) quiet B) ∙ and_i (ap (λ (h : ℕ). inside_at j h B) (sym e) ∙ x) (ap (λ (h : ℕ). outside_at j h B) (sym e) ∙ y))
                at (no e) = elsewhere (or_cases (inside_at b (root_at j u.index) B) (eqb (root_at j u.index) (root_at b s.index) && inside_at b (root_at b t.index) B) (sym (in_at (root_at j u.index) B) ∙ x)) (or_cases (outside_at b (root_at j u.index) B) (eqb (root_at j u.index) (root_at b s.index) && outside_at b (root_at b t.index) B) (sym (out_at (root_at j u.index) B) ∙ y))
                  where
                    elsewhere : (inside_at b (root_at j u.index) B ≡ true) ⊎ ((eqb (root_at j u.index) (root_at b s.index) && inside_at b (root_at b t.index) B) ≡ true) → (outside_at b (root_at j u.index) B ≡ true) ⊎ ((eqb (root_at j u.index) (root_at b s.index) && outside_at b (root_at b t.index) B) ≡ true) → ⊥
                    elsewhere (inl x) (inl y) = false≢true (sym (F.clean (root_at j u.index) B) ∙ and_i x y)
                    elsewhere (inl x) (inr y) = e (eqb-true (root_at j u.index) (root_at b s.index) (and_l (eqb (root_at j u.index) (root_at b s.index)) (outside_at b (root_at b t.index) B) y))
                    elsewhere (inr x) y = e (eqb-true (root_at j u.index) (root_at b s.index) (and_l (eqb (root_at j u.index) (root_at b s.index)) (inside_at b (root_at b t.index) B) x))
        different q (inr (i, i', p, r, d, inl o)) = alone i i' p r d o
        different q (inr (i, i', p, r, d, inr (x, y))) = classes x y (or_none_l both? (torn_at j (root_at b s.index)) q)
          where
            owns_of : (z u : Term) → Some (λ x. x ≡ z) k → OneClass b z u → owns_at k b (root_at b u.index) ≡ true
            owns_of z u c o = owning b k (root_at b u.index) z.index (some_is k z c) (one_root z u o)

            classes : OneClass b i s ⊎ OneClass b i t → OneClass b i' s ⊎ OneClass b i' t → both? ≡ false → ⊥
            classes (inl a) (inl c) nk = alone i i' p r d (one i i' (one_root i s a ∙ sym (one_root i' s c)))
            classes (inl a) (inr c) nk = false≢true (sym nk ∙ and_i (owns_of i s p a) (owns_of i' t r c))
            classes (inr a) (inl c) nk = false≢true (sym nk ∙ and_i (owns_of i' s r c) (owns_of i t p a))
            classes (inr a) (inr c) nk = alone i i' p r d (one i i' (one_root i t a ∙ sym (one_root i' t c)))

        go : ((both? || torn_at j (root_at b s.index)) ≡ true) ⊎ ((both? || torn_at j (root_at b s.index)) ≡ false) → merge_roots_at k b (root_at b s.index) (root_at b t.index) ≡ none
        go (inl q) = rw q
        go (inr q) = absurd (different q c)

  -- the two classes change places
  swap : (s t : Term) (g : Fact) → Then b (Same t s) g → Then b (Same s t) g
  swap s t (In u B) (inl p) = inl p
  swap s t (In u B) (inr (o, p)) = inr (turn o, turn p)
    where
      turn : {P Q : Type 0} → P ⊎ Q → Q ⊎ P
      turn (inl x) = inr x
      turn (inr x) = inl x
  swap s t (Out u B) (inl p) = inl p
  swap s t (Out u B) (inr (o, p)) = inr (turn o, turn p)
    where
      turn : {P Q : Type 0} → P ⊎ Q → Q ⊎ P
      turn (inl x) = inr x
      turn (inr x) = inl x
  swap s t (Same u x) (inl p) = inl p
  swap s t (Same u x) (inr (o, p)) = inr (turn o, turn p)
    where
      turn : {P Q : Type 0} → P ⊎ Q → Q ⊎ P
      turn (inl x) = inr x
      turn (inr x) = inl x

  swap_bad : (s t : Term) → Conflicts b n k (Same t s) → Conflicts b n k (Same s t)
  swap_bad s t (inl (u, B, l, p, q)) = inl (u, B, l, swap s t (In u B) p, swap s t (Out u B) q)
  swap_bad s t (inr (i, j, p, q, d, o)) = inr (i, j, p, q, d, swap s t (Same i j) o)

  -- nothing new where the two are one class
  idle : (s t : Term) → root_at b s.index ≡ root_at b t.index → (g : Fact) → (known b g ≡ true) ↔ Then b (Same s t) g
  idle s t e g = (old g, same g)
    where
      old : (g : Fact) → known b g ≡ true → Then b (Same s t) g
      old (In u B) p = inl p
      old (Out u B) p = inl p
      old (Same u x) p = inl p

      cls : (u : Term) → OneClass b u s ⊎ OneClass b u t → root_at b u.index ≡ root_at b s.index
      cls u (inl o) = one_root u s o
      cls u (inr o) = one_root u t o ∙ sym e

      same : (g : Fact) → Then b (Same s t) g → known b g ≡ true
      same (In u B) (inl p) = p
      same (In u B) (inr (o, inl p)) = ap (λ (h : ℕ). inside_at b h B) (cls u o) ∙ p
      same (In u B) (inr (o, inr p)) = ap (λ (h : ℕ). inside_at b h B) (cls u o ∙ e) ∙ p
      same (Out u B) (inl p) = p
      same (Out u B) (inr (o, inl p)) = ap (λ (h : ℕ). outside_at b h B) (cls u o) ∙ p
      same (Out u B) (inr (o, inr p)) = ap (λ (h : ℕ). outside_at b h B) (cls u o ∙ e) ∙ p
      same (Same u x) (inl p) = p
      same (Same u x) (inr (o, p)) = one u x (cls u o ∙ sym (cls x p))

  idle_good : (s t : Term) → root_at b s.index ≡ root_at b t.index → Conflicts b n k (Same s t) → ⊥
  idle_good s t e (inl (u, B, l, p, q)) = not_both u B ((idle s t e (In u B)).1 p) ((idle s t e (Out u B)).1 q)
  idle_good s t e (inr (i, j, p, q, d, o)) = alone i j p q d ((idle s t e (Same i j)).1 o)

  same_spec : (s t : Term) → s.index < n → t.index < n → (o : Option Branch) → Merges k b s.index t.index o → (o ≡ none ↔ Conflicts b n k (Same s t)) × ((c : Branch) → o ≡ some c → (g : Fact) → (known c g ≡ true) ↔ Then b (Same s t) g)
  same_spec s t ls lt o (already e) = (((λ q. let w : false ≡ true = cc in absurd (false≢true w)), (λ c. absurd (idle_good s t e c))), (λ c q g. let z : b ≡ c = cc in subst (λ (x : Branch). (known x g ≡ true) ↔ Then b (Same s t) g) z (idle s t e g)))
  same_spec s t ls lt o (upper h) = (
    (merge_roots_to s t ls lt h, merge_roots_from s t ls lt h),
    (λ c q g. subst (λ (x : Branch). (known x g ≡ true) ↔ Then b (Same s t) g) (conflict_if_some ((owns_at k b (root_at b s.index) && owns_at k b (root_at b t.index)) || torn_at (merge_at b (root_at b s.index) (root_at b t.index)) (root_at b s.index)) (merge_at b (root_at b s.index) (root_at b t.index)) c q).1 (merge_is s t ls lt h g)),
  )
  same_spec s t ls lt o (lower h) = (
    ((λ q. swap_bad s t (merge_roots_to t s lt ls h q)), (λ c. merge_roots_from t s lt ls h (swap_bad t s c))),
    (λ c q g. subst (λ (x : Branch). (known x g ≡ true) ↔ Then b (Same s t) g) (conflict_if_some ((owns_at k b (root_at b t.index) && owns_at k b (root_at b s.index)) || torn_at (merge_at b (root_at b t.index) (root_at b s.index)) (root_at b t.index)) (merge_at b (root_at b t.index) (root_at b s.index)) c q).1
        ((λ p. swap s t g ((merge_is t s lt ls h g).0 p)), (λ p. (merge_is t s lt ls h g).1 (swap t s g p)))),
  )

  assert_spec : (f : Fact) → Ranged n m f → (assert k b f ≡ none ↔ Conflicts b n k f) × ((c : Branch) → assert k b f ≡ some c → (g : Fact) → Ranged n m g → (known c g ≡ true) ↔ Then b f g)
  unfolding assert
  assert_spec (In t A) l = (in_none t A l.0, λ c q g _. subst (λ (x : Branch). (known x g ≡ true) ↔ Then b (In t A) g) (conflict_if_some (known b (Out t A)) (add_in b (root_at b t.index) A) c q).1 (add_inside_is t A l.0 g))
  assert_spec (Out t A) l = (out_none t A l.0, λ c q g _. subst (λ (x : Branch). (known x g ≡ true) ↔ Then b (Out t A) g) (conflict_if_some (known b (In t A)) (add_out b (root_at b t.index) A) c q).1 (add_outside_is t A l.0 g))
  assert_spec (Same s t) l = let z = same_spec s t l.0 l.1 (assert k b (Same s t)) (merges k b s.index t.index) in (z.0, λ c q g _. z.1 c q g)

pub asserts : Asserts
asserts n k m b r =
    let F = reached_fit n k m b r in
    ((λ t l. (still n k b F t, λ u o. omega (arith, below n k b F u, one_root n k m b F (term t) (term u) o))), assert_spec n k m b F)

-- What a constraint offers, by rule number and position; and what is known of a position that is found.
use mathlib.Core.Path.{◌≡◌, refl, sym, ◌∙◌, ap, fun_ext}
use mathlib.Core.Logic.{◌⊎◌, inl, inr, ◌≢◌}
use mathlib.Core.Bool.{Bool, true, false, cond, true≢false}
use mathlib.Core.Option.{some}
use mathlib.Core.List.{List, [], ◌∷◌, ◌++◌, map, append-nil, map-map}
use Prim.Native.Nat.{ℕ, suc, ◌+◌, ◌-◌, ◌<◌, ◌≤◌}
use native.Mathlib.Omega.{arith}
use lib.ListN.{length, get_or}
use lib.Dec.{eqb}
use borrow.Author.Tests.{eqb-true, eq-eqb, ne_eqb}
use Rattle.calculus.specs.Lists.{up_from, keep, first, gather, Each}
use Rattle.calculus.specs.Terms.{Term, SetVar, term}
use Rattle.calculus.specs.Relations.{Rule, Literal, Relation, equal, union, disjoint, subset, intersection, Operand, applies, propagation, propagation_rows, split_rows, negation_row, operand_of}
use Rattle.calculus.specs.Meaning.{Constraint, member, nonmember, same, different, relation, negation, exactly, interval}
use Rattle.calculus.specs.Branch.{Branch, root_at, root, In, Out, Same, known}
use Rattle.calculus.specs.Invariants.{Falls, ConstraintIn}
use Rattle.calculus.specs.Search.{Move, at, at_roots, choose, roots_of}
use Rattle.calculus.proofs.Bools.{each_imp, first_some}
use Rattle.calculus.proofs.Walk.{walk_le, root_root}
use Rattle.calculus.proofs.Sequences.{up_each, keep_each}
use Rattle.places.specs.Places.{span_of, InSpan, RuleOf, row_of, list_move, move_at, entries_of, roots, positions, first_at, offers}

-- a propagation rule or a split is a rule of the constraint
pub rule_of : (split : Bool) (l : Constraint) (j : ℕ) → InSpan (span_of split l) j → RuleOf l j
rule_of false l j r = inl r
rule_of true l j r = inr r

-- a list by its positions
pub by_position : {X Y : Type 0} (f : X → Y) (d : X) (es : List X) → map f es ≡ map (λ (p : ℕ). f (get_or es p d)) (up_from 0 (length es))
by_position {X} {Y} f d es = from es 0 (λ p. get_or es p d) (λ p. ap (λ k. get_or es k d) (omega arith))
  where
    from : (xs : List X) (s : ℕ) (g : ℕ → X) → ((p : ℕ) → get_or xs p d ≡ g (s + p)) → map f xs ≡ map (λ (p : ℕ). f (g p)) (up_from s (length xs))
    from [] s g h = refl
    from (x ∷ xs) s g h =
        let z : x ≡ g s = h 0 ∙ ap g (omega arith) in
        let y : map f xs ≡ map (λ (p : ℕ). f (g p)) (up_from (suc s) (length xs)) = from xs (suc s) g (λ p. h (suc p) ∙ ap g (omega arith)) in
        λ i. f (z i) ∷ y i

module _ (n : ℕ) (b : Branch) where
  -- the roots as terms, and as numbers
  kept : (ps : List ℕ) → keep (λ (t : Term). eqb (root_at b t.index) t.index) (map term ps) ≡ map term (keep (λ (h : ℕ). eqb (root_at b h) h) ps)
  kept [] = refl
  kept (p ∷ ps) = go (eqb (root_at b p) p) (kept ps)
    where
      go : (t : Bool) → keep (λ (t : Term). eqb (root_at b t.index) t.index) (map term ps) ≡ map term (keep (λ (h : ℕ). eqb (root_at b h) h) ps)
          → cond t (term p ∷ keep (λ (t : Term). eqb (root_at b t.index) t.index) (map term ps)) (keep (λ (t : Term). eqb (root_at b t.index) t.index) (map term ps))
          ≡ map term (cond t (p ∷ keep (λ (h : ℕ). eqb (root_at b h) h) ps) (keep (λ (h : ℕ). eqb (root_at b h) h) ps))
      go true ih = ap (λ (ts : List Term). term p ∷ ts) ih
      go false ih = ih

  lists_at_roots : (f : Term → Term × Move) → map f (roots_of n b) ≡ map (λ (p : ℕ). f (term p)) (roots n b)
  lists_at_roots f = ap (map f) (kept (up_from 0 n)) ∙ map-map f term (roots n b)

  rows_offered : (s : Operand → SetVar) (rs : List (Rule Literal)) → at_roots (roots_of n b) s rs ≡ gather (λ (r : Rule Literal). map (λ (p : ℕ). (term p, at (term p) s r)) (roots n b)) rs
  rows_offered s rs = ap (λ (g : Rule Literal → List (Term × Move)). gather g rs) (fun_ext (λ r. lists_at_roots (λ h. (h, at h s r))))

  listing_offered : (A : SetVar) (es : List Term) → map (λ (e : Term). (root b e, propagation 19 [] (In e A))) es ≡ map (list_move b A es 19) (up_from 0 (length es)) ++ []
  listing_offered A es = by_position (λ (e : Term). (root b e, propagation 19 [] (In e A))) (term 0) es ∙ sym (append-nil (map (list_move b A es 19) (up_from 0 (length es))))

  choosing_offered : (A : SetVar) (es : List Term) → map (λ (h : Term). (h, choose [] b A es h)) (roots_of n b) ≡ map (list_move b A es 20) (roots n b) ++ []
  choosing_offered A es = lists_at_roots (λ h. (h, choose [] b A es h)) ∙ sym (append-nil (map (list_move b A es 20) (roots n b)))

abbrev Offered : Bool → ℕ → Branch → Constraint → Type 0
Offered split n b l = offers split n b l ≡ gather (λ (j : ℕ). map (move_at b l j) (positions n b l j)) (up_from (span_of split l).0 ((span_of split l).1 - (span_of split l).0))

propagations_offered : (n : ℕ) (b : Branch) (l : Constraint) → Offered false n b l
propagations_offered n b (member t A) = refl
propagations_offered n b (nonmember t A) = refl
propagations_offered n b (same t u) = refl
propagations_offered n b (different t u) = refl
propagations_offered n b (relation equal A B C) = rows_offered n b (operand_of A B C) (propagation_rows equal)
propagations_offered n b (relation union A B C) = rows_offered n b (operand_of A B C) (propagation_rows union)
propagations_offered n b (relation disjoint A B C) = rows_offered n b (operand_of A B C) (propagation_rows disjoint)
propagations_offered n b (relation subset A B C) = rows_offered n b (operand_of A B C) (propagation_rows subset)
propagations_offered n b (relation intersection A B C) = rows_offered n b (operand_of A B C) (propagation_rows intersection)
propagations_offered n b (negation k A B C w) = refl
propagations_offered n b (exactly A es) = listing_offered n b A es
propagations_offered n b (interval A x y es) = listing_offered n b A es

splits_offered : (n : ℕ) (b : Branch) (l : Constraint) → Offered true n b l
splits_offered n b (member t A) = refl
splits_offered n b (nonmember t A) = refl
splits_offered n b (same t u) = refl
splits_offered n b (different t u) = refl
splits_offered n b (relation equal A B C) = refl
splits_offered n b (relation union A B C) = rows_offered n b (operand_of A B C) (split_rows union)
splits_offered n b (relation disjoint A B C) = refl
splits_offered n b (relation subset A B C) = refl
splits_offered n b (relation intersection A B C) = refl
splits_offered n b (negation k A B C w) = refl
splits_offered n b (exactly A es) = choosing_offered n b A es
splits_offered n b (interval A x y es) = choosing_offered n b A es

-- what a constraint offers is, for each of its rules in turn, the moves at that rule's positions
pub offered : (split : Bool) (n : ℕ) (b : Branch) (l : Constraint)
    → offers split n b l ≡ gather (λ (j : ℕ). map (move_at b l j) (positions n b l j)) (up_from (span_of split l).0 ((span_of split l).1 - (span_of split l).0))
offered false n b l = propagations_offered n b l
offered true n b l = splits_offered n b l

-- ---- positions

-- a rule of a constraint without entries is not rule 19
below_19 : (s u : ℕ × ℕ) (j : ℕ) → s.1 ≤ 19 → u.1 ≤ 19 → InSpan s j ⊎ InSpan u j → j ≢ 19
below_19 s u j k l (inl r) e = omega (arith, r.1)
below_19 s u j k l (inr r) e = omega (arith, r.1)

pub relation_19 : (k : Relation) (A B C : SetVar) (j : ℕ) → RuleOf (relation k A B C) j → j ≢ 19
relation_19 equal A B C j = below_19 (5, 7) (0, 0) j (omega arith) (omega arith)
relation_19 union A B C j = below_19 (8, 12) (12, 13) j (omega arith) (omega arith)
relation_19 disjoint A B C j = below_19 (13, 15) (0, 0) j (omega arith) (omega arith)
relation_19 subset A B C j = below_19 (15, 16) (0, 0) j (omega arith) (omega arith)
relation_19 intersection A B C j = below_19 (16, 19) (0, 0) j (omega arith) (omega arith)

module _ (n : ℕ) (b : Branch) where
  -- rule 19 goes by the entries
  by_entries : (es : List Term) (j : ℕ) → j ≡ 19 → Each (λ p. p < length es) (cond (eqb j 19) (up_from 0 (length es)) (roots n b))
  by_entries es j e = rw (eq-eqb j 19 e) (up_each (λ p. p < length es) 0 (length es) (λ p l h. omega arith))

  entry_positions : (l : Constraint) (j : ℕ) → RuleOf l j → j ≡ 19 → Each (λ p. p < length (entries_of l)) (positions n b l j)
  entry_positions (member t A) j r e = absurd (below_19 (1, 2) (0, 0) j (omega arith) (omega arith) r e)
  entry_positions (nonmember t A) j r e = absurd (below_19 (2, 3) (0, 0) j (omega arith) (omega arith) r e)
  entry_positions (same t u) j r e = absurd (below_19 (3, 4) (0, 0) j (omega arith) (omega arith) r e)
  entry_positions (different t u) j r e = absurd (below_19 (4, 5) (0, 0) j (omega arith) (omega arith) r e)
  entry_positions (relation k A B C) j r e = absurd (relation_19 k A B C j r e)
  entry_positions (negation k A B C w) j r e = absurd (below_19 (0, 0) (7, 8) j (omega arith) (omega arith) r e)
  entry_positions (exactly A es) j r e = by_entries es j e
  entry_positions (interval A x y es) j r e = by_entries es j e

  module _ (fall : Falls b.parents) where
    root_le : (t : ℕ) → root_at b t ≤ t
    unfolding root_at
    root_le t = walk_le b.parents fall t t

    module _ (N m : ℕ) (le : n ≤ N) where
      -- p is a root below N, and it is the root concerned
      abbrev Concerned : (ℕ → Term × Move) → ℕ → Type 0
      Concerned f p = (p < N) × (root_at b p ≡ p) × ((f p).0 ≡ term p)

      one_root : (t : Term) (v : Move) → t.index < N → Each (Concerned (λ _. (root b t, v))) (root_at b t.index ∷ [])
      one_root t v l = ((omega (arith, root_le t.index), root_root b fall t.index, refl), tt)

      all_roots : (v : ℕ → Move) → Each (Concerned (λ p. (term p, v p))) (roots n b)
      all_roots v = each_imp (λ p. (p < N) × (eqb (root_at b p) p ≡ true)) (Concerned (λ p. (term p, v p))) (roots n b) (λ p q. (q.0, eqb-true (root_at b p) p q.1, refl))
          (keep_each (λ p. p < N) (λ p. eqb (root_at b p) p) (up_from 0 n) (up_each (λ p. p < N) 0 n (λ p l h. omega arith)))

      list_roots : (A : SetVar) (es : List Term) (j : ℕ) → j ≢ 19 → Each (Concerned (list_move b A es j)) (cond (eqb j 19) (up_from 0 (length es)) (roots n b))
      list_roots A es j e = go (eqb j 19) (ne_eqb j 19 e)
        where
          go : (t : Bool) → t ≡ false → Each (Concerned (λ p. cond t (root b (get_or es p (term 0)), propagation 19 [] (In (get_or es p (term 0)) A)) (term p, choose [] b A es (term p)))) (cond t (up_from 0 (length es)) (roots n b))
          go true q = absurd (true≢false q)
          go false q = all_roots (λ p. choose [] b A es (term p))

      -- any other rule by roots
      root_positions : (l : Constraint) (j : ℕ) → ConstraintIn N m l → j ≢ 19 → Each (Concerned (move_at b l j)) (positions n b l j)
      root_positions (member t A) j c e = one_root t (propagation 1 [] (In t A)) c.0
      root_positions (nonmember t A) j c e = one_root t (propagation 2 [] (Out t A)) c.0
      root_positions (same t u) j c e = one_root t (propagation 3 [] (Same t u)) c.0
      root_positions (different t u) j c e = one_root t (move_at b (different t u) j 0).1 c.0
      root_positions (relation k A B C) j c e = all_roots (λ p. at (term p) (operand_of A B C) (row_of k j))
      root_positions (negation k A B C w) j c e = one_root w (at w (operand_of A B C) (negation_row k)) c.1
      root_positions (exactly A es) j c e = list_roots A es j e
      root_positions (interval A x y es) j c e = list_roots A es j e

-- where rule j of a constraint is found to apply, if it is not rule 19: a root, and the one concerned
pub position_root : (N m n : ℕ) (b : Branch) (l : Constraint) (j p : ℕ) → Falls b.parents → n ≤ N → ConstraintIn N m l → j ≢ 19 → first_at n b l j ≡ some p → (p < N) × (root_at b p ≡ p) × ((move_at b l j p).0 ≡ term p)
position_root N m n b l j p fall le c e f =
    (first_some (λ q. (q < N) × (root_at b q ≡ q) × ((move_at b l j q).0 ≡ term q)) (λ q. applies (known b) (move_at b l j q).1) (positions n b l j) p (root_positions n b fall N m le l j c e) f).0

-- in general: of rule 19 the number of an entry, of any other a term number, that of the root concerned
pub position_of : (N m n : ℕ) (b : Branch) (l : Constraint) (j p : ℕ) → Falls b.parents → n ≤ N → ConstraintIn N m l → RuleOf l j
    → first (λ (q : ℕ). applies (known b) (move_at b l j q).1) (positions n b l j) ≡ some p
    → (j ≡ 19 → p < length (entries_of l)) × (¬ (j ≡ 19) → (p < N) × ((move_at b l j p).0 ≡ term p))
position_of N m n b l j p fall le c r f = (
  λ e. (first_some (λ q. q < length (entries_of l)) (λ q. applies (known b) (move_at b l j q).1) (positions n b l j) p (entry_positions n b l j r e) f).0,
  λ e. let w = position_root N m n b l j p fall le c e f in (w.0, w.2),
)

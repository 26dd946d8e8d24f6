-- The search as a tree: values that satisfy its root branch satisfy a solved form; every form is saturated.
use mathlib.Core.Path.{◌≡◌, refl, sym, ap, subst}
use mathlib.Core.Logic.{◌⊎◌, inl, inr}
use mathlib.Core.List.{List, [], ◌∷◌, ◌++◌}
use Prim.Native.Nat.{ℕ, zero, suc, ◌<◌, ◌≤◌, zero-le, suc-le-suc}
use native.Mathlib.Omega.{arith}
use borrow.Author.Tests.{eq-eqb}
use Rattle.calculus.specs.Terms.{Term, SetVar}
use Rattle.calculus.specs.Lists.{Each, Some, here, there, gather}
use Rattle.calculus.specs.Meaning.{Constraint, member, nonmember, same, different, relation, negation, exactly, interval, Valuation}
use Rattle.calculus.specs.Relations.{Rule, Literal, Operand, propagation_rows, split_rows, operand_of}
use Rattle.calculus.specs.Branch.{Branch, root_at}
use Rattle.calculus.specs.Search.{Move, at_roots, propagations, splits, candidates, Next, solved, step, next}
use Rattle.calculus.specs.Run.{Event, formed, stepped, log}
use Rattle.calculus.specs.Invariants.{ConstraintIn}
use Rattle.calculus.proofs.BranchForms.{forms_of}
use Rattle.calculus.proofs.Bools.{each_app, each_imp}
use Rattle.calculus.proofs.Truth.{Sat, Distinct}
use Rattle.calculus.proofs.Asserting.{WellFormed, below}
use Rattle.calculus.proofs.Measure.{measure, weight, sum_below}
use Rattle.calculus.proofs.RuleLaws.{Meant}
use Rattle.calculus.proofs.Stepping.{step_fit, step_sat}

-- ---- forms in a log

module _ (P : Branch → Type 0) where
  some_app_l : (xs ys : List Branch) → Some P xs → Some P (xs ++ ys)
  some_app_l xs ys (here p) = here p
  some_app_l xs ys (there {xs = zs} s) = there (some_app_l zs ys s)

  some_app_r : (xs ys : List Branch) → Some P ys → Some P (xs ++ ys)
  some_app_r [] ys s = s
  some_app_r (x ∷ xs) ys s = there (some_app_r xs ys s)

forms_of_app : (xs ys : List Event) → forms_of (xs ++ ys) ≡ forms_of xs ++ forms_of ys
forms_of_app [] ys = refl
forms_of_app (formed b ∷ xs) ys = ap (λ (r : List Branch). b ∷ r) (forms_of_app xs ys)
forms_of_app (stepped r ∷ xs) ys = forms_of_app xs ys

module _ (n : ℕ) (k : List Term) (m : ℕ) (ls : List Constraint) (li : Each (ConstraintIn n m) ls) where
  -- some child of a list has a form that is satisfied
  some_child : (v : Valuation) (f : Branch → List Event) → ((b : Branch) → WellFormed n k b → Sat v b → Some (Sat v) (forms_of (f b)))
      → (cs : List Branch) → Each (λ c. WellFormed n k c) cs → Some (Sat v) cs → Some (Sat v) (forms_of (gather f cs))
  some_child v f h [] F s = elim s [ ]
  some_child v f h (c ∷ cs) F s = go (cases s) (some_child v f h cs F.1)
    where
      cases : Some (Sat v) (c ∷ cs) → Sat v c ⊎ Some (Sat v) cs
      cases (here p) = inl p
      cases (there q) = inr q

      go : Sat v c ⊎ Some (Sat v) cs → (Some (Sat v) cs → Some (Sat v) (forms_of (gather f cs))) → Some (Sat v) (forms_of (f c ++ gather f cs))
      go (inl p) ih = rw (forms_of_app (f c) (gather f cs)) (some_app_l (Sat v) (forms_of (f c)) (forms_of (gather f cs)) (h c F.0 p))
      go (inr p) ih = rw (forms_of_app (f c) (gather f cs)) (some_app_r (Sat v) (forms_of (f c)) (forms_of (gather f cs)) (ih p))

  -- values that satisfy a branch satisfy one of its forms
  pub log_sat : (v : Valuation) → Distinct k v → Each (Meant v) ls → (fuel : ℕ) (b : Branch) → WellFormed n k b → Sat v b → Some (Sat v) (forms_of (log n k ls fuel b))
  log_sat v d g zero b F s = here s
  log_sat v d g (suc fuel) b F s = go (next n k ls b) refl (log_sat v d g fuel)
    where
      go : (x : Next) → next n k ls b ≡ x → ((b : Branch) → WellFormed n k b → Sat v b → Some (Sat v) (forms_of (log n k ls fuel b))) → Some (Sat v) (forms_of (log n k ls (suc fuel) b))
      go solved q ih = rw (q, log) (here s)
      go (step r cs) q ih = rw (q, log)
          (some_child v (log n k ls fuel) ih cs (each_imp (λ c. WellFormed n k c × (measure n m c < measure n m b)) (λ c. WellFormed n k c) cs (λ c z. z.0) (step_fit n k m ls li b F r cs q))
          (step_sat n k m ls li b F v d s g r cs q))

  -- with fuel above the measure every form is saturated
  abbrev pub Full : Branch → Type 0
  Full c = WellFormed n k c × (next n k ls c ≡ solved)

  all_children : (f : Branch → List Event) (fuel : ℕ) → ((b : Branch) → WellFormed n k b → measure n m b ≤ fuel → Each Full (forms_of (f b)))
      → (cs : List Branch) → Each (λ c. WellFormed n k c × (measure n m c ≤ fuel)) cs → Each Full (forms_of (gather f cs))
  all_children f fuel h [] e = tt
  all_children f fuel h (c ∷ cs) e = rw (forms_of_app (f c) (gather f cs)) (each_app Full (forms_of (f c)) (forms_of (gather f cs)) (h c e.0.0 e.0.1) (all_children f fuel h cs e.1))

  -- there is a class wherever there is a term
  some_class : (b : Branch) → WellFormed n k b → 0 < n → 0 < measure n m b
  some_class b F l = go n l
    where
      w0 : 0 < weight m b 0
      w0 = rw (eq-eqb (root_at b 0) 0 (omega (arith, below n k b F 0))) (suc-le-suc zero-le)

      go : (j : ℕ) → 0 < j → 0 < sum_below j (weight m b)
      go zero q = absurd (omega arith)
      go (suc zero) q = omega (arith, w0)
      go (suc (suc j)) q = omega (arith, go (suc j) (omega arith))

-- with no term there is no move
no_over : (s : Operand → SetVar) (rs : List (Rule Literal)) → at_roots [] s rs ≡ []
no_over s [] = refl
no_over s (r ∷ rs) = no_over s rs

no_entry : (es : List Term) → Each (λ e. e.index < 0) es → es ≡ []
no_entry [] e = refl
no_entry (x ∷ xs) e = absurd (omega (arith, e.0))

no_propagations : (m : ℕ) (b : Branch) (l : Constraint) → ConstraintIn 0 m l → propagations [] b l ≡ []
no_propagations m b (member t A) r = absurd (omega (arith, r.0))
no_propagations m b (nonmember t A) r = absurd (omega (arith, r.0))
no_propagations m b (same t u) r = absurd (omega (arith, r.0))
no_propagations m b (different t u) r = absurd (omega (arith, r.0))
no_propagations m b (relation K A B C) r = no_over (operand_of A B C) (propagation_rows K)
no_propagations m b (negation K A B C w) r = refl
no_propagations m b (exactly A es) r = rw (no_entry es r.1)
no_propagations m b (interval A i j es) r = rw (no_entry es r.1)

no_splits : (m : ℕ) (b : Branch) (l : Constraint) → ConstraintIn 0 m l → splits [] b l ≡ []
no_splits m b (member t A) r = refl
no_splits m b (nonmember t A) r = refl
no_splits m b (same t u) r = refl
no_splits m b (different t u) r = refl
no_splits m b (relation K A B C) r = no_over (operand_of A B C) (split_rows K)
no_splits m b (negation K A B C w) r = absurd (omega (arith, r.1))
no_splits m b (exactly A es) r = refl
no_splits m b (interval A i j es) r = refl

no_candidates : (f : Constraint → List (Term × Move)) (i : ℕ) (ls : List Constraint) → Each (λ l. f l ≡ []) ls → candidates f i ls ≡ []
no_candidates f i [] e = refl
no_candidates f i (l ∷ ls) e = rw e.0 (no_candidates f (suc i) ls e.1)

no_next : (k : List Term) (m : ℕ) (ls : List Constraint) → Each (ConstraintIn 0 m) ls → (b : Branch) → next 0 k ls b ≡ solved
unfolding next
no_next k m ls li b =
    rw (no_candidates (propagations [] b) 0 ls (each_imp (ConstraintIn 0 m) (λ l. propagations [] b l ≡ []) ls (no_propagations m b) li), no_candidates (splits [] b) 0 ls (each_imp (ConstraintIn 0 m) (λ l. splits [] b l ≡ []) ls (no_splits m b) li))

module _ (n : ℕ) (k : List Term) (m : ℕ) (ls : List Constraint) (li : Each (ConstraintIn n m) ls) where
  pub at_zero : (b : Branch) → WellFormed n k b → measure n m b ≤ 0 → next n k ls b ≡ solved
  at_zero b F l = go n refl
    where
      go : (j : ℕ) → n ≡ j → next n k ls b ≡ solved
      go zero e = subst (λ (j : ℕ). Each (ConstraintIn j m) ls → next j k ls b ≡ solved) (sym e) (λ q. no_next k m ls q b) li
      go (suc j) e = absurd (omega (arith, some_class n k m ls li b F (omega arith)))

  pub log_full : (fuel : ℕ) (b : Branch) → WellFormed n k b → measure n m b ≤ fuel → Each (Full n k m ls li) (forms_of (log n k ls fuel b))
  log_full zero b F l = ((F, at_zero b F l), tt)
  log_full (suc fuel) b F l = go (next n k ls b) refl (log_full fuel)
    where
      go : (x : Next) → next n k ls b ≡ x → ((b : Branch) → WellFormed n k b → measure n m b ≤ fuel → Each (Full n k m ls li) (forms_of (log n k ls fuel b))) → Each (Full n k m ls li) (forms_of (log n k ls (suc fuel) b))
      go solved q ih = rw (q, log) ((F, q), tt)
      go (step r cs) q ih = rw (q, log) (all_children n k m ls li (log n k ls fuel) fuel ih cs
          (each_imp (λ c. WellFormed n k c × (measure n m c < measure n m b)) (λ c. WellFormed n k c × (measure n m c ≤ fuel)) cs (λ c z. (z.0, omega (arith, z.1))) (step_fit n k m ls li b F r cs q)))

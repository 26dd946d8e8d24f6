-- The start of a search; and what a branch knows against the merges and facts that it states.
use mathlib.Core.Path.{◌≡◌, refl, sym, ◌∙◌, ap}
use mathlib.Core.Logic.{◌⊎◌, inl, inr}
use mathlib.Core.Bool.{true, false, not}
use mathlib.Core.List.{List}
use Prim.Native.Nat.{ℕ, zero, suc, ◌*◌, ◌<◌, ◌≤◌}
use native.Mathlib.Omega.{arith}
use native.Mathlib.Decide.{dec_lt}
use native.Mathlib.Nat.{le_refl, mul-one}
use lib.ListN.{length-replicate, get_or-eq_default}
use lib.IntN.{ℤ}
use borrow.Author.Tests.{eqb-true, eq-eqb}
use Rattle.calculus.specs.Terms.{Term, SetVar, term, set_var}
use Rattle.calculus.proofs.AtNumber.{inside_at, outside_at}
use Rattle.calculus.specs.Lists.{bit, up_from}
use Rattle.calculus.specs.Meaning.{◌∈◌, Valuation}
use Rattle.calculus.specs.Branch.{Branch, start, walk, root_at, inside, outside, In, Out, Same}
use Rattle.calculus.proofs.BranchForms.{AgreesBranch}
use Rattle.calculus.proofs.Bools.{clash, test, not_t}
use Rattle.calculus.proofs.Masks.{bit_zero}
use Rattle.calculus.proofs.Walk.{walk_root}
use Rattle.calculus.proofs.Truth.{truth, Sat, eq_eq_z, has, has_in, in_has}
use Rattle.calculus.proofs.Asserting.{WellFormed, still, same_num}
use Rattle.calculus.proofs.Measure.{measure, weight, undecided, sum_const}
use Rattle.calculus.proofs.Sequences.{up_length, up_get_d, zeros}

start_walk : (f n t : ℕ) → walk f (up_from 0 n) t ≡ t
start_walk zero n t = refl
start_walk (suc f) n t = ap (walk f (up_from 0 n)) (up_get_d 0 n t t (omega arith)) ∙ start_walk f n t

pub start_root : (n t : ℕ) → root_at (start n) t ≡ t
unfolding start root_at
start_root n t = start_walk t n t

pub start_inside : (n h : ℕ) (A : SetVar) → inside_at (start n) h A ≡ false
unfolding start inside
start_inside n h A = ap (λ (m : ℕ). bit m A.index) (zeros n h) ∙ bit_zero A.index

pub start_outside : (n h : ℕ) (A : SetVar) → outside_at (start n) h A ≡ false
unfolding start outside
start_outside n h A = ap (λ (m : ℕ). bit m A.index) (zeros n h) ∙ bit_zero A.index

pub start_fit : (n : ℕ) (k : List Term) → WellFormed n k (start n)
unfolding start
start_fit n k = record {
  sized = up_length 0 n;
  sized_in = length-replicate n 0;
  sized_out = length-replicate n 0;
  falls = λ t. rw (up_get_d 0 n t t (omega arith)) (le_refl t);
  lone = λ i j _ _ e. sym (start_root n i) ∙ e ∙ start_root n j;
  clean = λ h A. rw (start_inside n h A);
}

pub start_sat : (v : Valuation) (n : ℕ) → Sat v (start n)
start_sat v n (In t A) e = clash e (start_inside n (root_at (start n) t.index) A)
start_sat v n (Out t A) e = clash e (start_outside n (root_at (start n) t.index) A)
start_sat v n (Same t u) e = eq_eq_z (v.num t) (v.num u) (ap (λ (x : ℕ). v.num (term x)) (sym (start_root n t.index) ∙ eqb-true (root_at (start n) t.index) (root_at (start n) u.index) e ∙ start_root n u.index))

pub start_measure : (n m : ℕ) → measure n m (start n) ≡ n * suc m
start_measure n m = sum_const n (suc m) (weight m (start n))
    (λ t l. rw (eq-eqb (root_at (start n) t) t (start_root n t)) (ap suc (sum_const m 1 (undecided (start n) t) (λ A q. rw (start_inside n t (set_var A), start_outside n t (set_var A))) ∙ mul-one m)))

-- values satisfy a branch exactly where its merges and facts are true of them
module _ (n : ℕ) (k : List Term) (v : Valuation) (b : Branch) (F : WellFormed n k b) where
  pub sat_agrees : Sat v b → AgreesBranch n v b
  sat_agrees s = record {
    merges = λ t _. same_num v b s t (root_at b t) (sym (still n k b F t));
    insides = λ t A _ e. has_in (v.members A) (v.num (term t)) (s (In (term t) A) e);
    outsides = λ t A _ e q. clash (in_has (v.members A) (v.num (term t)) q) (not_t (has (v.members A) (v.num (term t))) (s (Out (term t) A) e));
  }

  far_root : (t : ℕ) → n ≤ t → root_at b t ≡ t
  unfolding root_at
  far_root t l = walk_root b.parents F.falls t (get_or-eq_default b.parents t (rw F.sized l))

  far_in : (t : ℕ) (A : SetVar) → n ≤ t → inside_at b (root_at b t) A ≡ false
  unfolding inside
  far_in t A l = ap (λ (m : ℕ). bit m A.index) (get_or-eq_default b.insides 0 {n = root_at b t} (rw (F.sized_in, far_root t l) l)) ∙ bit_zero A.index

  far_out : (t : ℕ) (A : SetVar) → n ≤ t → outside_at b (root_at b t) A ≡ false
  unfolding outside
  far_out t A l = ap (λ (m : ℕ). bit m A.index) (get_or-eq_default b.outsides 0 {n = root_at b t} (rw (F.sized_out, far_root t l) l)) ∙ bit_zero A.index

  not_has : (A : SetVar) (x : ℤ) → ¬ (x ∈ v.members A) → not (has (v.members A) x) ≡ true
  not_has A x q = go (test (has (v.members A) x))
    where
      go : (has (v.members A) x ≡ true) ⊎ (has (v.members A) x ≡ false) → not (has (v.members A) x) ≡ true
      go (inl e) = absurd (q (has_in (v.members A) x e))
      go (inr e) = rw e

  pub agrees_sat : AgreesBranch n v b → Sat v b
  agrees_sat a (In t A) e = go (dec_lt t.index n)
    where
      go : Dec (t.index < n) → truth v (In t A) ≡ true
      go (yes l) = in_has (v.members A) (v.num t) (a.insides t.index A l e)
      go (no l) = clash e (far_in t.index A (omega arith))
  agrees_sat a (Out t A) e = go (dec_lt t.index n)
    where
      go : Dec (t.index < n) → truth v (Out t A) ≡ true
      go (yes l) = not_has A (v.num t) (a.outsides t.index A l e)
      go (no l) = clash e (far_out t.index A (omega arith))
  agrees_sat a (Same t u) e = eq_eq_z (v.num t) (v.num u) (own t.index ∙ ap (λ (x : ℕ). v.num (term x)) (eqb-true (root_at b t.index) (root_at b u.index) e) ∙ sym (own u.index))
    where
      own : (t : ℕ) → v.num (term t) ≡ v.num (term (root_at b t))
      own t = go (dec_lt t n)
        where
          go : Dec (t < n) → v.num (term t) ≡ v.num (term (root_at b t))
          go (yes l) = a.merges t l
          go (no l) = ap (λ (x : ℕ). v.num (term x)) (sym (far_root t (omega arith)))

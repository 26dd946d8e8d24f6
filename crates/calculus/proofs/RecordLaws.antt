-- A form's record: it is the one that shows exactly what the branch knows, and it states exactly that.
use mathlib.Core.Path.{◌≡◌, sym, ◌∙◌, ap, subst}
use mathlib.Core.Logic.{◌↔◌}
use mathlib.Core.Bool.{true}
use mathlib.Core.List.{List}
use Prim.Native.Nat.{ℕ, zero, suc, ◌+◌, ◌/◌, ◌%◌, ◌≤◌}
use native.Mathlib.Omega.{arith}
use native.Mathlib.Decide.{ℕ_discrete}
use borrow.Author.Tests.{eqb-true, eq-eqb}
use Rattle.calculus.specs.Lists.{bit}
use Rattle.calculus.specs.Terms.{SetVar, term}
use Rattle.calculus.specs.Branch.{Branch, root_at, inside, outside, Fact, In, Out, Same, known}
use Rattle.calculus.specs.Forms.{record_of, inside_in, outside_in}
use Rattle.calculus.specs.Order.{Recorded, Ranged, TrueOf}
use Rattle.calculus.specs.Demands.{Records, States}
use Rattle.calculus.proofs.Asserting.{below, still}
use Rattle.calculus.proofs.AssertSpec.{reached_fit}
use Rattle.calculus.proofs.BranchForms.{AgreesBranch}
use Rattle.calculus.proofs.RecordFields.{record_is_long, root_shown, inside_shown, outside_shown, same_record}
use Rattle.calculus.proofs.Records.{agrees_record, record_agrees}

record_shows : (n : ℕ) (b : Branch) → Recorded n b (record_of n b)
unfolding inside outside
record_shows n b = record {
  long = record_is_long b n;
  roots = root_shown b n;
  insides = λ t A l. let e = ap (λ (x : ℕ). bit x A.index) (inside_shown b n t l) in ((λ p. sym e ∙ p), (λ p. e ∙ p));
  outsides = λ t A l. let e = ap (λ (x : ℕ). bit x A.index) (outside_shown b n t l) in ((λ p. sym e ∙ p), (λ p. e ∙ p));
}

-- ---- no other list shows it

-- masks with the same bits are the same
same_mask : (f x y : ℕ) → x ≤ f → y ≤ f → ((s : ℕ) → (bit x s ≡ true) ↔ (bit y s ≡ true)) → x ≡ y
same_mask zero x y l k h = omega arith
same_mask (suc f) x y l k h =
    let half : x / 2 ≡ y / 2 = same_mask f (x / 2) (y / 2) (omega arith) (omega arith) (λ s. h (suc s)) in
    go (ℕ_discrete (x % 2) 1) (ℕ_discrete (y % 2) 1) half
  where
    go : Dec (x % 2 ≡ 1) → Dec (y % 2 ≡ 1) → x / 2 ≡ y / 2 → x ≡ y
    go (yes p) (yes q) e = omega arith
    go (no p) (no q) e = omega arith
    go (yes p) (no q) e = absurd (q (eqb-true (y % 2) 1 ((h 0).0 (eq-eqb (x % 2) 1 p))))
    go (no p) (yes q) e = absurd (p (eqb-true (x % 2) 1 ((h 0).1 (eq-eqb (y % 2) 1 q))))

module _ (n : ℕ) (b : Branch) (r q : List ℕ) (x : Recorded n b r) (y : Recorded n b q) where
  one_record : r ≡ q
  one_record =
      same_record n r x.long q y.long (λ t l. x.roots t l ∙ sym (y.roots t l))
      (λ t l. same_mask (inside_in r t + inside_in q t) _ _ (omega arith) (omega arith) (λ s. let A : SetVar = record { index = s } in ((λ e. (y.insides t A l).1 ((x.insides t A l).0 e)), λ e. (x.insides t A l).1 ((y.insides t A l).0 e))))
      (λ t l. same_mask (outside_in r t + outside_in q t) _ _ (omega arith) (omega arith) (λ s. let A : SetVar = record { index = s } in ((λ e. (y.outsides t A l).1 ((x.outsides t A l).0 e)), λ e. (x.outsides t A l).1 ((y.outsides t A l).0 e))))

pub records : Records
records n b r = ((λ x. one_record n b (record_of n b) r (record_shows n b) x), λ e. subst (Recorded n b) e (record_shows n b))

-- ---- what it states

pub states : States
states n k m b R v = ((λ a i f. stated (record_agrees n v b a) i f), λ h. agrees_record n v b (agreed h))
  where
    stated : AgreesBranch n v b → (i : ℕ) (f : Fact) → Ranged n i f → known b f ≡ true → TrueOf v f
    stated a i (In t A) l e = a.insides t.index A l.0 e
    stated a i (Out t A) l e = a.outsides t.index A l.0 e
    stated a i (Same t u) l e = a.merges t.index l.0 ∙ ap (λ (x : ℕ). v.num (term x)) (eqb-true (root_at b t.index) (root_at b u.index) e) ∙ sym (a.merges u.index l.1)

    agreed : ((i : ℕ) (f : Fact) → Ranged n i f → known b f ≡ true → TrueOf v f) → AgreesBranch n v b
    agreed h =
        let F = reached_fit n k m b R in
        record {
          merges = λ t l. h 0 (Same (term t) (term (root_at b t))) (l, omega (arith, below n k b F t)) (eq-eqb (root_at b t) (root_at b (root_at b t)) (sym (still n k b F t)));
          insides = λ t A l e. h (suc A.index) (In (term t) A) (l, omega arith) e;
          outsides = λ t A l e. h (suc A.index) (Out (term t) A) (l, omega arith) e;
        }

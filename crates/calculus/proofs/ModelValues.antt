-- The model's values, read off a record of the right shape.
use mathlib.Core.Path.{◌≡◌, refl, sym, ◌∙◌, ap, subst}
use mathlib.Core.Bool.{Bool, true, false}
use mathlib.Core.Option.{Option, none, some}
use mathlib.Core.List.{List}
use Prim.Native.Nat.{ℕ, ◌+◌, ◌<◌, ◌≤◌}
use native.Mathlib.Omega.{arith}
use lib.ListN.{get_or}
use lib.Dec.{eqb}
use lib.IntN.{ℤ, pos}
use borrow.Author.Tests.{eqb-true, eq-eqb}
use Rattle.calculus.specs.Lists.{bit, keep, first}
use Rattle.calculus.specs.Terms.{Term, SetVar, term, terms_from}
use Rattle.calculus.specs.Meaning.{◌∈◌}
use Rattle.calculus.specs.Problem.{Problem, constant_count, term_count, constant_terms, Valid}
use Rattle.calculus.specs.Forms.{root_in, inside_in, root_inside, record_root, value_by, class_value, model_number, model}
use Rattle.calculus.specs.Demands.{Shape, Valued}
use Rattle.calculus.proofs.Bools.{and_r, and_i, clash, first_none, first_some}
use Rattle.calculus.proofs.Sequences.{terms_each, terms_at, keep_each, keep_at, from_image, image_of}

module _ (prob : Problem) (acc : Valid prob) (r : List ℕ) (s : Shape prob r) where
  abbrev K : ℕ
  K = constant_count prob

  root_low : (t : ℕ) → t < term_count prob → root_in r t ≤ t
  root_low t l = s.lowest t t l l refl

  abbrev of? : Term → Term → Bool
  of? h i = eqb (record_root r i).index h.index

  -- the constant that is found for a root is the one that shows it
  found : (t : ℕ) (j : Term) → first (of? (record_root r (term t))) (constant_terms prob) ≡ some j → (j.index < K) × (root_in r j.index ≡ root_in r t)
  found t j e =
      let z = first_some (λ i. i.index < K) (of? (record_root r (term t))) (constant_terms prob) j (terms_each (λ i. i.index < K) 0 K (λ i _ q. omega arith)) e in
      (z.0, eqb-true (root_in r j.index) (root_in r t) z.1)

  none_found : (t : ℕ) → first (of? (record_root r (term t))) (constant_terms prob) ≡ none → (i : ℕ) → i < K → ¬ (root_in r i ≡ root_in r t)
  none_found t e i q z =
      clash (eq-eqb (root_in r i) (root_in r t) z)
      (terms_at (λ i. of? (record_root r (term t)) i ≡ false) 0 K (first_none (of? (record_root r (term t))) (constant_terms prob) e) i (omega arith) (omega arith))

  constant_value : (t i : ℕ) → t < term_count prob → i < K → root_in r i ≡ root_in r t → model_number prob r (term t) ≡ get_or prob.constants i (pos 0)
  constant_value t i l q z = go (first (of? (record_root r (term t))) (constant_terms prob)) refl
    where
      go : (o : Option Term) → first (of? (record_root r (term t))) (constant_terms prob) ≡ o → value_by prob (record_root r (term t)) (first (of? (record_root r (term t))) (constant_terms prob)) ≡ get_or prob.constants i (pos 0)
      go none e = absurd (none_found t e i q z)
      go (some j) e = let w = found t j e in rw e (ap (λ (x : ℕ). get_or prob.constants x (pos 0)) (s.constants j.index i w.0 q (w.1 ∙ sym z)))

  free_value : (t : ℕ) → t < term_count prob → ((i : ℕ) → i < K → ¬ (root_in r i ≡ root_in r t)) → model_number prob r (term t) ≡ pos (32001 + root_in r t)
  free_value t l h = go (first (of? (record_root r (term t))) (constant_terms prob)) refl
    where
      go : (o : Option Term) → first (of? (record_root r (term t))) (constant_terms prob) ≡ o → value_by prob (record_root r (term t)) (first (of? (record_root r (term t))) (constant_terms prob)) ≡ pos (32001 + root_in r t)
      go none e = rw e
      go (some j) e = let w = found t j e in absurd (h j.index w.0 w.1)

  -- ---- members

  abbrev Member : SetVar → ℤ → Type 0
  Member A x = (t : ℕ) × (t < term_count prob) × (bit (inside_in r t) A.index ≡ true) × (x ≡ model_number prob r (term t))

  to_member : (A : SetVar) (x : ℤ) → x ∈ (model prob r).members A → Member A x
  to_member A x m =
      let z = from_image (λ t. (t.index < term_count prob) × (root_inside r A t ≡ true)) (model_number prob r) (keep (root_inside r A) (terms_from 0 (term_count prob))) x
      (keep_each (λ t. t.index < term_count prob) (root_inside r A) (terms_from 0 (term_count prob)) (terms_each (λ t. t.index < term_count prob) 0 (term_count prob) (λ t _ l. omega arith))) m in
      (z.0.index, z.1.0, and_r (eqb (root_in r z.0.index) z.0.index) (bit (inside_in r z.0.index) A.index) z.1.1, z.2)

  from_member : (A : SetVar) (x : ℤ) → Member A x → x ∈ (model prob r).members A
  from_member A x (t, l, q, e) =
      let h : ℕ = root_in r t in
      let hl : h < term_count prob = omega (arith, root_low t l) in
      let same : record_root r (term h) ≡ record_root r (term t) = ap term (s.own t l) in
      let pass : root_inside r A (term h) ≡ true = and_i (eq-eqb (root_in r h) h (s.own t l)) (ap (λ (x : ℕ). bit x A.index) (sym (s.shows t l).0) ∙ q) in
      let value : model_number prob r (term h) ≡ x = ap (λ (y : Term). class_value prob (record_root r) y) same ∙ sym e in
      subst (λ (y : ℤ). y ∈ (model prob r).members A) value
      (terms_at (λ t. root_inside r A t ≡ true → model_number prob r t ∈ (model prob r).members A) 0 (term_count prob)
      (keep_at (λ t. model_number prob r t ∈ (model prob r).members A) (root_inside r A) (terms_from 0 (term_count prob)) (image_of (model_number prob r) (keep (root_inside r A) (terms_from 0 (term_count prob))))) h (omega arith) (omega arith) pass)

  pub valued : Valued prob r
  valued = record {
    constant = constant_value;
    free = free_value;
    most = λ t l. omega (arith, root_low t l, acc.few_terms);
    numbers = λ i. refl;
    members = λ A x. (to_member A x, from_member A x);
  }

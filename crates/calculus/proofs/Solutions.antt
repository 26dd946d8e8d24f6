-- The solutions of a valid problem are those of its forms, and every form has one: the model.
use mathlib.Core.Path.{◌≡◌, refl, sym, ◌∙◌, ap, subst, fun_ext}
use mathlib.Core.Logic.{◌↔◌}
use mathlib.Core.Bool.{Bool, false}
use mathlib.Core.Option.{Option, none, some}
use mathlib.Core.List.{List, map}
use Prim.Native.Nat.{ℕ, zero, suc, ◌+◌, ◌*◌, ◌<◌, ◌≤◌}
use native.Mathlib.Omega.{arith}
use native.Mathlib.Decide.{dec_lt, ℕ_discrete}
use native.Mathlib.Nat.{le_of_eq}
use lib.ListN.{length, get_or}
use lib.Dec.{T, eqb, leb→le}
use lib.IntN.{ℤ, pos}
use lib.Signed.{mag, le_z}
use borrow.Author.Tests.{lt-ltb, le-ltb, eqb-true, eq-eqb}
use Rattle.calculus.specs.Lists.{Each, Some, here, there, keep, first, any}
use Rattle.calculus.specs.Meaning.{Constraint, Valuation, Holds}
use Rattle.calculus.specs.Terms.{Term, term, terms_from}
use Rattle.calculus.specs.Branch.{Branch, start, root_at, root, inside, known}
use Rattle.calculus.specs.Relations.{applies}
use Rattle.calculus.specs.Search.{Move, propagations, splits, roots_of}
use Rattle.calculus.specs.Problem.{Problem, constant_count, nameable, term_count, set_count, constant_terms, Assignment, value_of, values, Satisfies, Valid}
use Rattle.calculus.specs.Forms.{value_by, class_value}
use Rattle.calculus.specs.Invariants.{ConstraintIn}
use Rattle.calculus.proofs.BranchForms.{AgreesBranch, SatisfiesBranch, branch_number, branch_model, problem_forms}
use Rattle.calculus.proofs.Bools.{each_zip, first_some, first_none, clash, or_l, or_r}
use Rattle.calculus.proofs.Truth.{Sat, Is}
use Rattle.calculus.proofs.Asserting.{WellFormed}
use Rattle.calculus.proofs.RuleLaws.{Meant}
use Rattle.calculus.proofs.Stepping.{IsRoot, solved_full}
use Rattle.calculus.proofs.Sequences.{terms_each, terms_at}
use Rattle.calculus.proofs.Integers.{rising_inj}
use Rattle.calculus.proofs.ModelLaws.{model_values, model_agrees, model_good}
use Rattle.calculus.proofs.LogLaws.{log_sat, log_full, Full}
use Rattle.calculus.proofs.Start.{start_fit, start_sat, start_measure, sat_agrees}
use Rattle.calculus.proofs.ConstraintLaws.{InScope, constraints_within, constants_distinct, good_holds, own, holds_any, witnessed}

some_zip : (P Q R : Branch → Type 0) → ((b : Branch) → P b → Q b → R b) → (bs : List Branch) → Each P bs → Some Q bs → Some R bs
some_zip P Q R f bs e (here {x = b} q) = here (f b e.0 q)
some_zip P Q R f bs e (there {xs = cs} s) = there (some_zip P Q R f cs e.1 s)

module _ {A : Type 0} (P : A → Type 0) where
  pub some_any : (X : Type 0) → ((b : A) → P b → X) → (bs : List A) → Some P bs → X
  some_any X f bs (here {x = b} p) = f b p
  some_any X f bs (there {xs = cs} s) = some_any X f cs s

  pub some_imp : (Q : A → Type 0) → ((b : A) → P b → Q b) → (bs : List A) → Some P bs → Some Q bs
  some_imp Q f bs (here {x = b} p) = here (f b p)
  some_imp Q f bs (there {xs = cs} s) = there (some_imp Q f cs s)

-- a constant of the class of h, if it has one
module _ (prob : Problem) where
  abbrev Own : Branch → Term → Option Term → Type 0
  Own b h none = Unit {0}
  Own b h (some i) = (i.index < constant_count prob) × (root_at b i.index ≡ h.index)

pub below_is : (n i : ℕ) → i < n → Is (terms_from 0 n) i
below_is n i l = go 0 n (omega arith) (omega arith)
  where
    go : (s n : ℕ) → s ≤ i → i < s + n → Is (terms_from s n) i
    go s zero a b = absurd (omega arith)
    go s (suc n) a b = by_case (ℕ_discrete s i) (λ q. go (suc s) n q (omega arith))
      where
        by_case : Dec (s ≡ i) → (suc s ≤ i → Is (terms_from (suc s) n) i) → Is (terms_from s (suc n)) i
        by_case (yes e) f = or_l (any (λ (j : Term). eqb j.index i) (terms_from (suc s) n)) (eq-eqb s i e)
        by_case (no e) f = or_r (eqb s i) (f (omega arith))

module _ (prob : Problem) (acc : Valid prob) where
  abbrev N : ℕ
  N = term_count prob

  abbrev K : ℕ
  K = length prob.constants

  abbrev Q : List Term
  Q = constant_terms prob

  abbrev M : ℕ
  M = set_count prob

  pub forms_full : Each (Full N Q M prob.constraints (constraints_within prob acc)) (problem_forms prob)
  forms_full = log_full N Q M prob.constraints (constraints_within prob acc) (N * suc M) (start N) (start_fit N Q) (le_of_eq (start_measure N M))

  module _ (g : Assignment) where
    to_forms : Satisfies prob g → Some (SatisfiesBranch prob g) (problem_forms prob)
    to_forms h =
        let w = witnessed prob acc g h in
        let v : Valuation = values prob g w.0 in
        some_zip (Full N Q M prob.constraints (constraints_within prob acc)) (Sat v) (SatisfiesBranch prob g) (λ b F s. (w.0, sat_agrees N Q v b F.0 s, w.1)) (problem_forms prob) forms_full
        (log_sat N Q M prob.constraints (constraints_within prob acc) v (constants_distinct prob acc v (own prob acc g w.0)) w.2 (N * suc M) (start N) (start_fit N Q) (start_sat v N))

    -- no meaning looks at a witness
    pub any_witness : (witness : Term → ℤ) → Each (Holds (values prob g witness)) prob.constraints → Satisfies prob g
    any_witness witness h = each_zip (InScope prob) (Holds (values prob g witness)) (Holds (values prob g (λ _. pos 0))) prob.constraints (λ l a q. holds_any prob acc g witness (λ _. pos 0) l a q) acc.refers h

    -- an assignment satisfies the problem exactly where it satisfies one of the forms
    pub solutions : Satisfies prob g ↔ Some (SatisfiesBranch prob g) (problem_forms prob)
    solutions = (to_forms, some_any (SatisfiesBranch prob g) (Satisfies prob g) (λ b h. any_witness h.0 h.2) (problem_forms prob))

  -- ---- the model

  high : (i j : ℕ) → i < K → get_or prob.constants i (pos 0) ≡ pos (32001 + j) → ⊥
  high i j l e = let z : T (le_z (pos (32001 + j)) (pos 32000)) = subst (λ (x : ℤ). T (le_z x (pos 32000))) e (acc.range i l).1.le in omega (arith, leb→le (32001 + j) 32000 z)

  -- what a class's constant is
  abbrev of? : Branch → Term → Term → Bool
  of? b h i = eqb (root_at b i.index) h.index

  found : (b : Branch) (h : Term) (o : Option Term) → first (of? b h) Q ≡ o → Own prob b h o
  found b h none e = tt
  found b h (some i) e = let r = first_some (λ i. i.index < K) (of? b h) Q i (terms_each (λ i. i.index < K) 0 K (λ t _ l. omega arith)) e in (r.0, eqb-true (root_at b i.index) h.index r.1)

  class_inj : (b : Branch) (i j : Term) → IsRoot N b i → IsRoot N b j → class_value prob (root b) i ≡ class_value prob (root b) j → i ≡ j
  class_inj b i j hi hj e = let p = go (first (of? b i) Q) (first (of? b j) Q) (found b i _ refl) (found b j _ refl) e in λ x. record { index = p x }
    where
      go : (o p : Option Term) → Own prob b i o → Own prob b j p → value_by prob i o ≡ value_by prob j p → i.index ≡ j.index
      go (some x) (some y) a c q = sym a.1 ∙ ap (root_at b) (rising_inj prob.constants acc.rising x.index y.index a.0 c.0 q) ∙ c.1
      go (some x) none a c q = absurd (high x.index j.index a.0 q)
      go none (some y) a c q = absurd (high y.index i.index c.0 (sym q))
      go none none a c q = let z : 32001 + i.index ≡ 32001 + j.index = ap mag q in omega arith

  -- the model, with the witnesses' values, gives each term its class's value
  model_values_are : (b : Branch) → WellFormed N Q b → model_values (class_value prob (root b)) N b ≡ values prob (branch_model prob b) (branch_number prob b)
  model_values_are b F = λ i. record { num = nums i; members = λ A. map (class_value prob (root b)) (keep (λ h. inside b h A) (roots_of N b)) }
    where
      own_at : (t : ℕ) → t < K → (o : Option Term) → Own prob b (root b (term t)) o → first (of? b (root b (term t))) Q ≡ o → value_by prob (root b (term t)) o ≡ get_or prob.constants t (pos 0)
      own_at t l none a e = clash (eq-eqb (root_at b t) (root_at b t) refl) (terms_at (λ i. of? b (root b (term t)) i ≡ false) 0 K (first_none (of? b (root b (term t))) Q e) t (omega arith) (omega arith))
      own_at t l (some x) a e = ap (λ (i : ℕ). get_or prob.constants i (pos 0)) (F.lone x.index t (below_is K x.index a.0) (below_is K t l) a.1)

      num_at : (t : Term) → branch_number prob b t ≡ value_of prob (branch_model prob b).number (branch_number prob b) t
      num_at t = go (dec_lt t.index K) (dec_lt t.index (nameable prob))
        where
          go : Dec (t.index < K) → Dec (t.index < nameable prob) → branch_number prob b t ≡ value_of prob (branch_model prob b).number (branch_number prob b) t
          go (yes l) _ = rw (lt-ltb t.index K l) (own_at t.index l (first (of? b (root b t)) Q) (found b (root b t) _ refl) refl)
          go (no l) (yes q) = rw (le-ltb t.index K (omega arith), lt-ltb t.index (nameable prob) q) (ap (λ (j : ℕ). branch_number prob b (term j)) (omega arith))
          go (no l) (no q) = rw (le-ltb t.index K (omega arith), le-ltb t.index (nameable prob) (omega arith))

      nums : branch_number prob b ≡ value_of prob (branch_model prob b).number (branch_number prob b)
      nums = fun_ext num_at

  -- the model, with the witnesses' values, satisfies the form
  pub model_both : (b : Branch) → Full N Q M prob.constraints (constraints_within prob acc) b
      → AgreesBranch N (values prob (branch_model prob b) (branch_number prob b)) b × Each (Holds (values prob (branch_model prob b) (branch_number prob b))) prob.constraints
  model_both b F =
      let W : Valuation = model_values (class_value prob (root b)) N b in
      let U : Valuation = values prob (branch_model prob b) (branch_number prob b) in
      let good : Each (Meant W) prob.constraints = each_zip (ConstraintIn N M) (λ l. Idles l) (Meant W) prob.constraints (λ l r q. model_good (class_value prob (root b)) N Q b F.0 (class_inj b) M l r q.0 q.1) (constraints_within prob acc) (solved_full N Q M prob.constraints (constraints_within prob acc) b F.0 F.1) in
      let goodU : Each (Meant U) prob.constraints = subst (λ (v : Valuation). Each (Meant v) prob.constraints) (model_values_are b F.0) good in (
        subst (λ (v : Valuation). AgreesBranch N v b) (model_values_are b F.0) (model_agrees (class_value prob (root b)) N Q b F.0 (class_inj b)),
        each_zip (InScope prob) (Meant U) (Holds U) prob.constraints (good_holds prob acc U (own prob acc (branch_model prob b) (branch_number prob b))) acc.refers goodU,
      )
    where
      Idles : Constraint → Type 0
      Idles l = Each (λ (p : Term × Move). applies (known b) p.1 ≡ false) (propagations (roots_of N b) b l) × Each (λ (p : Term × Move). applies (known b) p.1 ≡ false) (splits (roots_of N b) b l)

-- The listed records: their shape, and their models.
use mathlib.Core.Path.{◌≡◌, refl, sym, ◌∙◌, ap, ap₂, subst, fun_ext}
use mathlib.Core.Logic.{inr}
use mathlib.Core.Bool.{Bool, true, false, ◌&&◌, false≢true}
use mathlib.Core.List.{List, [], ◌∷◌, map}
use Prim.Native.Nat.{ℕ, zero, suc, ◌+◌, ◌*◌, ◌<◌}
use native.Mathlib.Omega.{arith}
use native.Mathlib.Decide.{dec_lt}
use lib.ListN.{length, get_or, take, drop, get_or-eq_default}
use lib.Dec.{eqb}
use lib.IntN.{ℤ, pos}
use borrow.Author.Tests.{eqb-true}
use Rattle.calculus.specs.Terms.{Term, SetVar, term, set_var, terms_from}
use Rattle.calculus.specs.Lists.{bit, keep, Each, Some}
use Rattle.calculus.specs.Meaning.{Holds}
use Rattle.calculus.specs.Branch.{Branch, start, root_at, root, inside, outside}
use Rattle.calculus.specs.Search.{step, next, roots_of}
use Rattle.calculus.specs.Problem.{Problem, constant_count, term_count, set_count, constant_terms, Assignment, values, Satisfies, Valid}
use Rattle.calculus.proofs.BranchForms.{forms_of, problem_forms, branch_number, branch_model}
use Rattle.calculus.specs.Run.{Event, log, Tally, run}
use Rattle.calculus.specs.Run as R
use Rattle.calculus.specs.Forms.{record_of, record_length, root_in, root_inside, listed_forms, Agrees, SatisfiesForm, record_root, class_value, model_number, model}
use Rattle.calculus.specs.Calls.{FORMS, FALSE, verdict_of, call}
use Rattle.calculus.specs.Demands.{Shape, Valued, Models, Verdicts}
use Rattle.calculus.proofs.Bools.{and_i, each_zip, each_map, each_take}
use Rattle.calculus.proofs.Walk.{walk_root}
use Rattle.calculus.proofs.Asserting.{WellFormed, below, still}
use Rattle.calculus.proofs.MaskBounds.{Small, assert_small, start_small}
use Rattle.calculus.proofs.Measure.{measure}
use Rattle.calculus.proofs.Stepping.{step_fit, step_keeps}
use Rattle.calculus.proofs.Sequences.{terms_each, keep_keep}
use Rattle.calculus.proofs.ModelValues.{valued}
use Rattle.calculus.proofs.LogLaws.{Full}
use Rattle.calculus.proofs.LogEvents.{log_each, OfForm, forms_each}
use Rattle.calculus.proofs.Start.{start_fit}
use Rattle.calculus.proofs.ConstraintLaws.{InScope, constraints_within, holds_any}
use Rattle.calculus.proofs.Solutions.{forms_full, model_both, below_is}
use Rattle.calculus.proofs.RecordFields.{record_is_long, root_shown, inside_shown, outside_shown, root_past}
use Rattle.calculus.proofs.Records.{agrees_record, lists}
use Rattle.calculus.proofs.ReadValid.{read_valid}
use Rattle.calculus.proofs.CallLaws.{records_long, listed_app, was, same_solutions}

-- ---- masks of the forms

module _ (prob : Problem) (acc : Valid prob) where
  abbrev N : ℕ
  N = term_count prob

  abbrev K : List Term
  K = constant_terms prob

  abbrev M : ℕ
  M = set_count prob

  -- a branch of the run: sound, with masks of the problem's sets
  abbrev pub Kept : Branch → Type 0
  Kept b = WellFormed N K b × Small M b

  pub start_kept : Kept (start N)
  start_kept = (start_fit N K, start_small N M)

  pub step_kept : (b : Branch) → Kept b → (r : List ℕ) (cs : List Branch) → next N K prob.constraints b ≡ step r cs → Each Kept cs
  step_kept b p r cs q =
      each_zip (λ c. WellFormed N K c × (measure N M c < measure N M b)) (Small M) Kept cs (λ c x y. (x.0, y)) (step_fit N K M prob.constraints (constraints_within prob acc) b p.0 r cs q)
      (step_keeps N K M prob.constraints (constraints_within prob acc) b p.0 (Small M) (λ f r c d s q. assert_small M c s N K f r d q) p.1 r cs q)

  forms_small : Each (Small M) (problem_forms prob)
  forms_small =
      forms_each (Small M) (log N K prob.constraints (N * suc M) (start N))
      (log_each N K prob.constraints Kept (OfForm (Small M)) (λ b p. p.1) (λ b p r cs q. (tt, step_kept b p r cs q)) (N * suc M) (start N) start_kept)

-- ---- a record read back

-- what is asked of a listed record
abbrev pub Modelled : Problem → List ℕ → Type 0
Modelled prob r = Satisfies prob (model prob r) × Agrees (term_count prob) (values prob (model prob r) (model_number prob r)) r × Shape prob r × Valued prob r

-- also past the last term, whose root is itself
root_anywhere : (n : ℕ) (k : List Term) (b : Branch) → WellFormed n k b → (t : ℕ) → root_in (record_of n b) t ≡ root_at b t
unfolding root_at
root_anywhere n k b F t = go (dec_lt t n)
  where
    go : Dec (t < n) → root_in (record_of n b) t ≡ root_at b t
    go (yes l) = root_shown b n t l
    go (no l) = root_past n (record_of n b) (record_is_long b n) t (omega arith) ∙ sym (walk_root b.parents F.falls t (get_or-eq_default b.parents t {n = t} (omega (arith, F.sized))))

-- two functions that agree on what passes a test
map_keep : {X : Type 0} (f g : X → ℤ) (p q : X → Bool) (xs : List X) → ((x : X) → p x ≡ true → f x ≡ g x) → map f (keep q (keep p xs)) ≡ map g (keep q (keep p xs))
map_keep f g p q [] h = refl
map_keep f g p q (x ∷ xs) h = go (p x) (q x) refl refl (map_keep f g p q xs h)
  where
    go : (a c : Bool) → p x ≡ a → q x ≡ c → map f (keep q (keep p xs)) ≡ map g (keep q (keep p xs)) → map f (keep q (keep p (x ∷ xs))) ≡ map g (keep q (keep p (x ∷ xs)))
    go true true u v ih = rw (u, v) (ap₂ (λ (a : ℤ) (l : List ℤ). a ∷ l) (h x u) ih)
    go true false u v ih = rw (u, v) ih
    go false c u v ih = rw u ih

module _ (prob : Problem) (acc : Valid prob) (b : Branch) (F : Full (term_count prob) (constant_terms prob) (set_count prob) prob.constraints (constraints_within prob acc) b) (small : Small (set_count prob) b) where
  abbrev B : List ℕ
  B = record_of (term_count prob) b

  roots_are : record_root B ≡ root b
  roots_are = fun_ext (λ t. ap term (root_anywhere (term_count prob) (constant_terms prob) b F.0 t.index))

  numbers_are : branch_number prob b ≡ model_number prob B
  numbers_are = ap {B = Term → ℤ} (λ (ρ : Term → Term) (t : Term). class_value prob ρ (ρ t)) (sym roots_are)

  abbrev root? : Term → Bool
  root? t = eqb (root_at b t.index) t.index

  members_are : (A : SetVar) → map (class_value prob (root b)) (keep (λ h. inside b h A) (roots_of (term_count prob) b)) ≡ map (model_number prob B) (keep (root_inside B A) (terms_from 0 (term_count prob)))
  unfolding inside
  members_are A =
      let e : keep (root_inside B A) (terms_from 0 (term_count prob)) ≡ keep (λ h. inside b h A) (roots_of (term_count prob) b)
      = keep_keep root? (λ h. inside b h A) (root_inside B A) (terms_from 0 (term_count prob)) (terms_each (λ t. root_inside B A t ≡ (root? t && inside b t A)) 0 (term_count prob) (λ t _ l. same t (omega arith))) in
      map_keep (class_value prob (root b)) (branch_number prob b) root? (λ h. inside b h A) (terms_from 0 (term_count prob)) (λ x u. ap (λ (y : ℕ). class_value prob (root b) (term y)) (sym (eqb-true (root_at b x.index) x.index u)))
      ∙ ap (λ (f : Term → ℤ). map f (keep (λ h. inside b h A) (roots_of (term_count prob) b))) numbers_are
      ∙ ap (map (model_number prob B)) (sym e)
    where
      same : (t : ℕ) → t < term_count prob → root_inside B A (term t) ≡ (root? (term t) && bit (get_or b.insides t 0) A.index)
      same t l = go (eqb (root_at b t) t) refl
        where
          go : (c : Bool) → eqb (root_at b t) t ≡ c → root_inside B A (term t) ≡ (root? (term t) && bit (get_or b.insides t 0) A.index)
          go true q = rw (root_shown b (term_count prob) t l, q, inside_shown b (term_count prob) t l, eqb-true (root_at b t) t q)
          go false q = rw (root_shown b (term_count prob) t l, q)

  model_is : branch_model prob b ≡ model prob B
  model_is = λ i. record { number = λ j. numbers_are i (term (constant_count prob + j)); members = λ A. members_are A i }

  shape : Shape prob B
  unfolding inside outside
  shape =
      let n : ℕ = term_count prob in
      let k : List Term = constant_terms prob in
      let hd = root_shown b n in
      let hi = inside_shown b n in
      let ho = outside_shown b n in
      let un : (t : ℕ) → t < n → root_at b t < n = λ t l. omega (arith, below n k b F.0 t) in
      record {
        long = record_is_long b n;
        lowest = λ t u lt lu e. omega (arith, e, hd u lu, below n k b F.0 u);
        own = λ t l. rw (hd t l) (hd (root_at b t) (un t l) ∙ still n k b F.0 t);
        constants = λ i j p q e. F.0.lone i j (below_is (length prob.constants) i p) (below_is (length prob.constants) j q) (sym (hd i (omega arith)) ∙ e ∙ hd j (omega arith));
        shows = λ t l. (
          rw (hd t l) (hi t l ∙ sym (hi (root_at b t) (un t l) ∙ ap (λ (x : ℕ). get_or b.insides x 0) (still n k b F.0 t))),
          rw (hd t l) (ho t l ∙ sym (ho (root_at b t) (un t l) ∙ ap (λ (x : ℕ). get_or b.outsides x 0) (still n k b F.0 t))),
        );
        masks = λ t l. (rw (hi t l) (small.insides (root_at b t)), rw (ho t l) (small.outsides (root_at b t)));
        clear = λ t A l p q. false≢true (sym (F.0.clean (root_at b t) (set_var A)) ∙ and_i (ap (λ (x : ℕ). bit x A) (sym (hi t l)) ∙ p) (ap (λ (x : ℕ). bit x A) (sym (ho t l)) ∙ q));
      }

  model_true : Modelled prob B
  model_true =
      let w = model_both prob acc b F in
      let satisfied : Satisfies prob (branch_model prob b) = each_zip (InScope prob) (Holds (values prob (branch_model prob b) (branch_number prob b))) (Holds (values prob (branch_model prob b) (λ _. pos 0))) prob.constraints
      (λ l a q. holds_any prob acc (branch_model prob b) (branch_number prob b) (λ _. pos 0) l a q) acc.refers w.1 in
      let agrees : Agrees (term_count prob) (values prob (branch_model prob b) (branch_number prob b)) B = agrees_record (term_count prob) (values prob (branch_model prob b) (branch_number prob b)) b w.0 in (
        subst (Satisfies prob) model_is satisfied,
        subst (λ (f : Term → ℤ). Agrees (term_count prob) (values prob (model prob B) f) B) numbers_are (subst (λ (g : Assignment). Agrees (term_count prob) (values prob g (branch_number prob b)) B) model_is agrees),
        shape,
        valued prob acc B shape,
      )

-- ---- what a run lists, however it ended

pub models : Models
unfolding run
models bytes budget forms trace prob e v n c a =
    let w = was bytes budget forms trace prob e v n c a in
    let acc = read_valid bytes prob e in
    let s : Tally = run prob budget (length forms) in
    let L : List Event = log (term_count prob) (constant_terms prob) prob.constraints (term_count prob * suc (set_count prob)) (start (term_count prob)) in
    let z : listed_forms (term_count prob) c (call bytes budget forms trace).forms ≡ map (record_of (term_count prob)) (take s.forms (forms_of L))
    = rw (w.forms_are, sym w.count_is) (listed_app (term_count prob) s.forms s.records (drop (length s.records) forms) (records_long (term_count prob) L budget (length forms)) ∙ lists (term_count prob) L budget (length forms)) in
    subst (Each (Modelled prob)) (sym z)
    (each_map (Modelled prob) (record_of (term_count prob)) (take s.forms (forms_of L))
    (each_take (λ b. Modelled prob (record_of (term_count prob) b)) s.forms (forms_of L)
    (each_zip (Full (term_count prob) (constant_terms prob) (set_count prob) prob.constraints (constraints_within prob acc)) (Small (set_count prob)) (λ b. Modelled prob (record_of (term_count prob) b)) (forms_of L) (λ b F m. model_true prob acc b F m) (forms_full prob acc) (forms_small prob acc))))

of_false : (e : R.End) (c : ℕ) → verdict_of e c ≡ FALSE → c ≡ 0
of_false R.DONE zero p = refl
of_false R.DONE (suc c) p = let w : false ≡ true = cc in absurd (false≢true w)
of_false R.SPENT c p = let w : false ≡ true = cc in absurd (false≢true w)
of_false R.NOROOM c p = let w : false ≡ true = cc in absurd (false≢true w)

of_forms : (e : R.End) (c : ℕ) → verdict_of e c ≡ FORMS → 0 < c
of_forms R.DONE zero p = let w : false ≡ true = cc in absurd (false≢true w)
of_forms R.DONE (suc c) p = omega arith
of_forms R.SPENT c p = let w : false ≡ true = cc in absurd (false≢true w)
of_forms R.NOROOM c p = let w : false ≡ true = cc in absurd (false≢true w)

pub verdicts : Verdicts
verdicts bytes budget forms trace prob e n c = (
  (λ a.
      let w = was bytes budget forms trace prob e FALSE n c a in
      let z : c ≡ 0 = sym w.count_is ∙ of_false (run prob budget (length forms)).end (run prob budget (length forms)).forms w.verdict_is in
      (z, λ g h. gone g (subst (λ (x : ℕ). Some (SatisfiesForm prob g) (listed_forms (term_count prob) x (call bytes budget forms trace).forms)) z ((same_solutions bytes budget forms trace prob e FALSE n c a (inr refl) g).0 h)))),
  (λ a.
      let w = was bytes budget forms trace prob e FORMS n c a in
      let l : 0 < c = subst (λ (x : ℕ). 0 < x) w.count_is (of_forms (run prob budget (length forms)).end (run prob budget (length forms)).forms w.verdict_is) in
      (l, one c l (models bytes budget forms trace prob e FORMS n c a))),
)
  where
    gone : (g : Assignment) → Some (SatisfiesForm prob g) [] → ⊥
    gone g s = elim s [ ]

    one : (x : ℕ) → 0 < x → Each (Modelled prob) (listed_forms (term_count prob) x (call bytes budget forms trace).forms) → (g : Assignment) × Satisfies prob g
    one zero l m = absurd (omega arith)
    one (suc x) l m = (model prob (take (record_length (term_count prob)) (call bytes budget forms trace).forms), m.0.0)

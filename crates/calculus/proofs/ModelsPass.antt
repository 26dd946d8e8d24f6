-- The model of a listed record, written as bytes, is an assignment that the check answers HOLDS for.
use mathlib.Core.Path.{◌≡◌, refl, sym, subst}
use mathlib.Core.Logic.{◌⊎◌, inl, inr}
use mathlib.Core.Bool.{Bool, true, false}
use mathlib.Core.List.{List, [], ◌∷◌, map}
use Prim.Native.Nat.{ℕ, zero, suc, ◌+◌, ◌-◌, ◌<◌, ◌≤◌, zero-le, suc-le-suc}
use native.Mathlib.Omega.{arith}
use native.Mathlib.Decide.{dec_lt}
use native.Mathlib.Nat.{le_of_suc-le-suc}
use lib.ListN.{length, get_or}
use lib.Dec.{eqb, leb→le, le→leb}
use lib.IntN.{ℤ, pos, negsuc}
use lib.Signed.{◌≤ℤ◌, ◌<ℤ◌}
use borrow.Author.Tests.{eqb-true, lt-ltb, le-ltb}
use Rattle.calculus.specs.Lists.{bit, keep, up_from, Each, gather}
use Rattle.calculus.specs.Terms.{Term, SetVar, term, set_var, terms_from}
use Rattle.calculus.specs.Meaning.{Valuation, Holds}
use Rattle.calculus.specs.Problem.{Problem, constant_count, nameable, term_count, set_count, values, Satisfies, Rising, Valid}
use Rattle.calculus.specs.Encoding.{Bytes, two_bytes, Fits16, Handed, encode_handed, WrittenAssignment}
use Rattle.calculus.specs.Forms.{root_in, inside_in, root_inside, listed_forms, model_number, model, handed_model}
use Rattle.calculus.specs.Check.{assignment_of}
use Rattle.calculus.specs.Calls.{HOLDS, check, call}
use Rattle.calculus.specs.Demands.{Shape, Valued, ModelsPass}
use Rattle.calculus.proofs.Bools.{and_l, each_app, each_imp, each_zip, each_map, each_gather}
use Rattle.calculus.proofs.Sequences.{up_each, terms_each, keep_each, each_at, long, at}
use Rattle.calculus.proofs.Words.{small_fits, within_fits16, encoded_bytes}
use Rattle.calculus.proofs.ConstraintLaws.{InScope, holds_same}
use Rattle.calculus.proofs.ReadAssignment.{reads_assignment}
use Rattle.calculus.proofs.ReadValid.{read_valid}
use Rattle.calculus.proofs.Models.{Modelled, models}
use Rattle.calculus.proofs.Checking.{checks}

-- ---- the values that are kept, where they ascend

-- a lower number before an ascending list
rising_more : (x : ℤ) (xs : List ℤ) → Each (λ y. x <ℤ y) xs → Rising xs → Rising (x ∷ xs)
rising_more x xs lower up p zero l h = absurd (omega arith)
rising_more x xs lower up zero (suc q) l h = each_at (λ y. x <ℤ y) xs (pos 0) lower q (le_of_suc-le-suc h)
rising_more x xs lower up (suc p) (suc q) l h = up p q (le_of_suc-le-suc l) (le_of_suc-le-suc h)

module _ (f : Term → ℤ) (test : Term → Bool) where
  abbrev kept : ℕ → ℕ → List ℤ
  kept s n = map f (keep test (terms_from s n))

  -- what is true of each value that passes is true of all that are kept
  kept_each : (P : ℤ → Type 0) (s n : ℕ) → ((t : ℕ) → s ≤ t → t < s + n → test (term t) ≡ true → P (f (term t))) → Each P (kept s n)
  kept_each P s n h =
      each_map P f (keep test (terms_from s n))
      (each_imp (λ t. (test t ≡ true → P (f t)) × (test t ≡ true)) (λ t. P (f t)) (keep test (terms_from s n)) (λ t q. q.0 q.1)
      (keep_each (λ t. test t ≡ true → P (f t)) test (terms_from s n) (terms_each (λ t. test t ≡ true → P (f t)) s n h)))

  -- they ascend, and are no more than the terms
  kept_rising : (s n : ℕ) → ((t u : ℕ) → s ≤ t → t < u → u < s + n → test (term t) ≡ true → test (term u) ≡ true → f (term t) <ℤ f (term u)) → Rising (kept s n) × (length (kept s n) ≤ n)
  kept_rising s zero h = (λ p q l m. absurd (omega arith), zero-le)
  kept_rising s (suc n) h = go (test (term s)) refl (kept_rising (suc s) n (λ t u a b c. h t u (omega arith) b (omega arith)))
    where
      go : (c : Bool) → test (term s) ≡ c → Rising (kept (suc s) n) × (length (kept (suc s) n) ≤ n) → Rising (kept s (suc n)) × (length (kept s (suc n)) ≤ suc n)
      go true q ih = rw q (rising_more (f (term s)) (kept (suc s) n) (kept_each (λ y. f (term s) <ℤ y) (suc s) n (λ t a b z. h s t (omega arith) a (omega arith) q z)) ih.0, suc-le-suc ih.1)
      go false q ih = rw q (ih.0, omega (arith, ih.1))

-- ---- a written assignment is bytes

handed_bytes : (prob : Problem) → Valid prob → (bs : List ℕ) (g : Handed) → WrittenAssignment prob bs g → Bytes (encode_handed g)
handed_bytes prob acc bs g w =
    each_app (λ x. x < 256) (counted g.numbers) (gather counted g.sets) (omega (arith, w.numbers, acc.few_terms), encoded_bytes g.numbers w.range.0)
    (each_gather (λ x. x < 256) counted g.sets
    (each_zip (λ xs. Rising xs × (length xs < 256)) (λ xs. Each Fits16 xs) (λ xs. Bytes (counted xs)) g.sets (λ xs a f. (a.1, encoded_bytes xs f)) w.rising w.range.1))
  where
    counted : List ℤ → List ℕ
    counted xs = length xs ∷ gather two_bytes xs

-- ---- the model of a record

-- a constant is less than what a class without one has
under_free : (c : ℤ) (n : ℕ) → c ≤ℤ pos 32000 → c <ℤ pos (32001 + n)
under_free (pos m) n h = record { lt = le→leb (suc m) (32001 + n) (omega (arith, leb→le m 32000 h.le)) }
under_free (negsuc m) n h = record { lt = tt }

module _ (prob : Problem) (acc : Valid prob) (r : List ℕ) (s : Shape prob r) (d : Valued prob r) where
  abbrev T : ℕ
  T = term_count prob

  abbrev K : ℕ
  K = constant_count prob

  abbrev value : ℕ → ℤ
  value t = model_number prob r (term t)

  abbrev root_of : ℕ → ℕ
  root_of = root_in r

  -- a class whose root is a constant has its value; any other has no constant
  abbrev Value : ℕ → Type 0
  Value t = ((root_of t < K) × (value t ≡ get_or prob.constants (root_of t) (pos 0))) ⊎ ((K ≤ root_of t) × (value t ≡ pos (32001 + root_of t)))

  by_root : (t : ℕ) → t < T → Value t
  by_root t l = go (dec_lt (root_of t) K)
    where
      go : Dec (root_of t < K) → Value t
      go (yes q) = inl (q, d.constant t (root_of t) l q (s.own t l))
      go (no q) = inr (omega arith, d.free t l (λ i m e. absurd (omega (arith, e, s.lowest i i (omega arith) (omega arith) refl))))

  -- every value has two bytes
  fits : (t : ℕ) → t < T → Fits16 (value t)
  fits t l = go (by_root t l)
    where
      go : Value t → Fits16 (value t)
      go (inl a) = let z = acc.range (root_of t) a.0 in subst Fits16 (sym a.1) (within_fits16 (get_or prob.constants (root_of t) (pos 0)) z.0 z.1)
      go (inr a) = subst Fits16 (sym a.1) (small_fits (pos (32001 + root_of t)) (omega (arith, d.most t l)))

  -- the values of roots ascend
  ascends : (t u : ℕ) → t < u → u < T → root_of t ≡ t → root_of u ≡ u → value t <ℤ value u
  ascends t u l m et eu = go (by_root t (omega arith)) (by_root u m)
    where
      go : Value t → Value u → value t <ℤ value u
      go (inl a) (inl b) = rw (a.1, b.1) (acc.rising (root_of t) (root_of u) (omega arith) b.0)
      go (inl a) (inr b) = rw (a.1, b.1) (under_free (get_or prob.constants (root_of t) (pos 0)) (root_of u) (acc.range (root_of t) a.0).1)
      go (inr a) (inl b) = absurd (omega (arith, a.0, b.0))
      go (inr a) (inr b) = rw (a.1, b.1) (record { lt = le→leb (suc (32001 + root_of t)) (32001 + root_of u) (omega arith) })

  is_root : (A : SetVar) (t : ℕ) → root_inside r A (term t) ≡ true → root_of t ≡ t
  is_root A t e = eqb-true (root_in r t) t (and_l (eqb (root_in r t) t) (bit (inside_in r t) A.index) e)

  -- a set's members ascend and are few
  members_rising : (A : SetVar) → Rising ((model prob r).members A) × (length ((model prob r).members A) < 256)
  members_rising A =
      let z = kept_rising (model_number prob r) (root_inside r A) 0 T (λ t u _ l m p q. ascends t u l (omega arith) (is_root A t p) (is_root A u q)) in
      (z.0, omega (arith, z.1, acc.few_terms))

  written : WrittenAssignment prob (encode_handed (handed_model prob r)) (handed_model prob r)
  written =
      let number : ℕ → ℤ = (model prob r).number in
      let members : ℕ → List ℤ = λ A. (model prob r).members (set_var A) in
      record {
        encoded = refl;
        numbers = long number (length prob.variables);
        sets = long members (set_count prob);
        rising = each_map (λ xs. Rising xs × (length xs < 256)) members (up_from 0 (set_count prob)) (up_each (λ A. Rising (members A) × (length (members A) < 256)) 0 (set_count prob) (λ A _ _. members_rising (set_var A)));
        range = (
          each_map Fits16 number (up_from 0 (length prob.variables)) (up_each (λ i. Fits16 (number i)) 0 (length prob.variables) (λ i _ l. fits (K + i) (omega arith))),
          each_map (λ xs. Each Fits16 xs) members (up_from 0 (set_count prob)) (up_each (λ A. Each Fits16 (members A)) 0 (set_count prob) (λ A _ _. kept_each (model_number prob r) (root_inside r (set_var A)) Fits16 0 T (λ t _ l _. fits t (omega arith)))),
        );
      }

  -- handed in, it gives named terms and sets what the model gives them
  abbrev handed : Valuation
  handed = values prob (assignment_of (handed_model prob r)) (λ _. pos 0)

  abbrev own : Valuation
  own = values prob (model prob r) (λ _. pos 0)

  nums_same : (t : Term) → t.index < nameable prob → own.num t ≡ handed.num t
  nums_same t l = go (dec_lt t.index K)
    where
      go : Dec (t.index < K) → own.num t ≡ handed.num t
      go (yes q) = rw (lt-ltb t.index K q)
      go (no q) = rw (le-ltb t.index K (omega arith), lt-ltb t.index (nameable prob) l) (sym (at (model prob r).number 0 (length prob.variables) (t.index - K) (t.index - K) (pos 0) (omega arith) (omega arith)))

  satisfied : Satisfies prob (model prob r) → Satisfies prob (assignment_of (handed_model prob r))
  satisfied =
      each_zip (InScope prob) (Holds own) (Holds handed) prob.constraints
      (holds_same prob own handed nums_same (λ A l. sym (at (λ i. (model prob r).members (set_var i)) 0 (set_count prob) A.index A.index [] l (omega arith)))) acc.refers

pub models_pass : ModelsPass
models_pass bytes budget forms trace prob e v n c a =
    each_imp (Modelled prob) Passes (listed_forms (term_count prob) c (call bytes budget forms trace).forms) pass
    (models bytes budget forms trace prob e v n c a)
  where
    Passes : List ℕ → Type 0
    Passes r = let g : Handed = handed_model prob r in Bytes (encode_handed g) × WrittenAssignment prob (encode_handed g) g × (check bytes (encode_handed g) ≡ HOLDS)

    pass : (r : List ℕ) → Modelled prob r → Passes r
    pass r m =
        let acc = read_valid bytes prob e in
        let g : Handed = handed_model prob r in
        let bs : List ℕ = encode_handed g in
        let w : WrittenAssignment prob bs g = written prob acc r m.2 m.3 in
        let b : Bytes bs = handed_bytes prob acc bs g w in
        (b, w, (((checks bytes bs).1 prob e).1 g (((reads_assignment prob bs b).0 g).1 w)).0.1 (satisfied prob acc r m.2 m.3 m.0))

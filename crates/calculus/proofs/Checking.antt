-- The assignment check answers HOLDS exactly where the assignment satisfies the problem, and otherwise the lowest constraint that fails.
use mathlib.Core.Path.{◌≡◌, refl, sym, ◌∙◌, ap, subst}
use mathlib.Core.Bool.{Bool, true, false, false≢true}
use mathlib.Core.Option.{Option, none, some}
use mathlib.Core.List.{List, [], ◌∷◌}
use Prim.Native.Nat.{ℕ, zero, suc, ◌+◌, ◌<◌}
use native.Mathlib.Omega.{arith}
use native.Mathlib.Decide.{dec_lt}
use lib.ListN.{length, get_or}
use lib.IntN.{pos}
use Rattle.calculus.specs.Terms.{term, set_var}
use Rattle.calculus.specs.Lists.{Each}
use Rattle.calculus.specs.Meaning.{Constraint, member, Valuation, Holds}
use Rattle.calculus.specs.Check.{assignment_of, holds?, lowest}
use Rattle.calculus.specs.Problem.{Problem, Valid, values}
use Rattle.calculus.specs.Reading.{parsed, ◌>>=◌}
use Rattle.calculus.specs.Calls.{HOLDS, FAILS, checked_by, check}
use Rattle.calculus.specs.Demands.{Checks}
use Rattle.calculus.proofs.Truth.{Reflects, is, isnt, yes_of}
use Rattle.calculus.proofs.CheckLaws.{holds_is}
use Rattle.calculus.proofs.ConstraintLaws.{InScope, own}
use Rattle.calculus.proofs.Sequences.{each_at}
use Rattle.calculus.proofs.ReadValid.{read_valid}

no_of : {P : Type 0} {a : Bool} → Reflects P a → a ≡ false → ¬ P
no_of (is p) q = let w : false ≡ true = cc in absurd (false≢true w)
no_of (isnt n) q = n

module _ (prob : Problem) (acc : Valid prob) (v : Valuation) (mine : (p : ℕ) → p < length prob.constants → v.num (term p) ≡ get_or prob.constants p (pos 0)) where
  abbrev constraint : List Constraint → ℕ → Constraint
  constraint ls d = get_or ls d (member (term 0) (set_var 0))

  -- what the answer says of the constraints, counted from i
  abbrev Answers : ℕ → List Constraint → Option ℕ → Type 0
  Answers i ls none = Each (Holds v) ls
  Answers i ls (some j) = (d : ℕ) × (j ≡ i + d) × (d < length ls) × ¬ Holds v (constraint ls d) × ((e : ℕ) → e < d → Holds v (constraint ls e))

  answers : (ls : List Constraint) (i : ℕ) → Each (InScope prob) ls → Answers i ls (lowest v i ls)
  answers [] i a = tt
  answers (l ∷ ls) i a = go (holds? v l) refl (answers ls (suc i) a.1)
    where
      later : (o : Option ℕ) → Holds v l → Answers (suc i) ls o → Answers i (l ∷ ls) o
      later none h r = (h, r)
      later (some j) h r = (suc r.0, omega (arith, r.1), omega (arith, r.2), r.3, λ e q. at e q)
        where
          at : (e : ℕ) → e < suc r.0 → Holds v (constraint (l ∷ ls) e)
          at zero q = h
          at (suc e) q = r.4 e (omega arith)

      go : (b : Bool) → holds? v l ≡ b → Answers (suc i) ls (lowest v (suc i) ls) → Answers i (l ∷ ls) (lowest v i (l ∷ ls))
      go true q ih = rw (q, lowest) (later (lowest v (suc i) ls) (yes_of (holds_is prob acc v mine l a.0) q) ih)
      go false q ih = rw (q, lowest) (0, omega arith, omega arith, no_of (holds_is prob acc v mine l a.0) q, λ e r. absurd (omega arith))

  -- the other way: what the constraints say determines the answer
  all_hold : (ls : List Constraint) (o : Option ℕ) → Answers 0 ls o → Each (Holds v) ls → o ≡ none
  all_hold ls none a h = refl
  all_hold ls (some j) a h = absurd (a.3 (each_at (Holds v) ls (member (term 0) (set_var 0)) h a.0 a.2))

  one_fails : (ls : List Constraint) (o : Option ℕ) → Answers 0 ls o → (i : ℕ) → i < length ls → ¬ Holds v (constraint ls i) → ((j : ℕ) → j < i → Holds v (constraint ls j)) → o ≡ some i
  one_fails ls none a i l n h = absurd (n (each_at (Holds v) ls (member (term 0) (set_var 0)) a i l))
  one_fails ls (some j) a i l n h = go (dec_lt a.0 i) (dec_lt i a.0)
    where
      go : Dec (a.0 < i) → Dec (i < a.0) → some j ≡ some i
      go (yes p) q = absurd (a.3 (h a.0 p))
      go (no p) (yes q) = absurd (n (a.4 i q))
      go (no p) (no q) = ap some (omega (arith, a.1))

  fails_one : (ls : List Constraint) (o : Option ℕ) → Answers 0 ls o → (i : ℕ) → o ≡ some i → (i < length ls) × ¬ Holds v (constraint ls i) × ((j : ℕ) → j < i → Holds v (constraint ls j))
  fails_one ls none a i e = let w : false ≡ true = cc in absurd (false≢true w)
  fails_one ls (some j) a i e =
      let z : j ≡ i = cc in
      let y : a.0 ≡ i = omega (arith, a.1) in
      subst (λ (x : ℕ). (x < length ls) × ¬ Holds v (constraint ls x) × ((k : ℕ) → k < x → Holds v (constraint ls k))) y (a.2, a.3, a.4)

found_holds : (o : Option ℕ) → checked_by (parsed o) ≡ HOLDS → o ≡ none
found_holds none e = refl
found_holds (some i) e = let w : false ≡ true = cc in absurd (false≢true w)

found_fails : (o : Option ℕ) (i : ℕ) → checked_by (parsed o) ≡ FAILS i → o ≡ some i
found_fails none i e = let w : false ≡ true = cc in absurd (false≢true w)
found_fails (some j) i e = let z : j ≡ i = cc in ap some z

pub checks : Checks
unfolding check ◌>>=◌
checks bytes assignment = (
  (λ n e. rw e),
  (λ prob e. (
    (λ n f. rw (e, f)),
    (λ g f.
        let acc = read_valid bytes prob e in
        let v : Valuation = values prob (assignment_of g) (λ _. pos 0) in
        let mine = own prob acc (assignment_of g) (λ _. pos 0) in
        let o : Option ℕ = lowest v 0 prob.constraints in
        let a = answers prob acc v mine prob.constraints 0 acc.refers in
        let is : check bytes assignment ≡ checked_by (parsed o) = rw (e, f) in (
          ((λ h. subst (Answers prob acc v mine 0 prob.constraints) (found_holds o (sym is ∙ h)) a), (λ h. is ∙ ap (λ (x : Option ℕ). checked_by (parsed x)) (all_hold prob acc v mine prob.constraints o a h))),
          (λ i. (
            (λ h. fails_one prob acc v mine prob.constraints o a i (found_fails o i (sym is ∙ h))),
            (λ h. is ∙ ap (λ (x : Option ℕ). checked_by (parsed x)) (one_fails prob acc v mine prob.constraints o a i h.0 h.1 h.2)),
          )),
        )),
  )),
)

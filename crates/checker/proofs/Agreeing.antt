-- What the check sees in the bytes is what was handed in, so its tests are the calculus's.
use mathlib.Core.Path.{◌≡◌, refl, sym, ap, ap₂, ◌∙◌, subst}
use mathlib.Core.Bool.{Bool, true, false, ◌&&◌}
use mathlib.Core.Option.{Option, some}
use mathlib.Core.List.{List, [], ◌∷◌, map}
use Prim.Native.Nat.{ℕ, suc, ◌+◌, ◌*◌, ◌-◌, ◌<◌}
use native.Mathlib.Omega.{arith}
use native.Mathlib.Decide.{dec_lt}
use lib.ListN.{length, get_or}
use lib.IntN.{ℤ, pos}
use borrow.Author.Tests.{lt-ltb, le-ltb}
use Rattle.calculus.specs.Lists.{all, Each}
use Rattle.calculus.specs.Terms.{Term, SetVar}
use Rattle.calculus.specs.Meaning.{Constraint, member, nonmember, same, different, relation, negation, exactly, interval, Valuation}
use Rattle.calculus.specs.Problem.{Problem, constant_count, nameable, set_count, values, value_of, Refers}
use Rattle.calculus.specs.Reading.{parsed, read}
use Rattle.calculus.specs.Encoding.{Handed}
use Rattle.calculus.specs.Check.{assignment_of, has, exactly?, holds?, lowest}
use Rattle.calculus.proofs.ReadValid.{read_valid}
use Rattle.calculus.proofs.Sequences.{terms_each}
use Rattle.problem.specs.declared.table.Table.{Table}
use Rattle.problem.specs.Table.{problem_table, constant_of, values_of}
use Rattle.problem.proofs.Access.{opened, constant_read}
use Rattle.slices.specs.Bytes.{word_at}
use Rattle.slices.proofs.TwoBytes.{word_read}
use Rattle.assignment.specs.Laid.{PartsOf}
use Rattle.checker.specs.declared.seen.Seen.{Seen}
use Rattle.checker.specs.Tested.{value_at, seen}

-- two valuations that agree on the first n terms and s sets
pub record Agree (n s : ℕ) (v w : Valuation) : Type 0 where
  pub numbers : (t : Term) → t.index < n → v.num t ≡ w.num t
  pub sets : (A : SetVar) → A.index < s → v.members A ≡ w.members A

module _ (n s : ℕ) (v w : Valuation) (a : Agree n s v w) where
  mapped : (es : List Term) → Each (λ e. e.index < n) es → map v.num es ≡ map w.num es
  mapped [] i = refl
  mapped (e ∷ es) i = ap₂ (λ (x : ℤ) (y : List ℤ). x ∷ y) (a.numbers e i.0) (mapped es i.1)

  among : (xs : List ℤ) (es : List Term) → Each (λ e. e.index < n) es → all (λ e. has xs (v.num e)) es ≡ all (λ e. has xs (w.num e)) es
  among xs [] i = refl
  among xs (e ∷ es) i = ap₂ (λ (x y : Bool). x && y) (ap (has xs) (a.numbers e i.0)) (among xs es i.1)

  listed : (A : SetVar) (es : List Term) → A.index < s → Each (λ e. e.index < n) es → exactly? v A es ≡ exactly? w A es
  listed A es l i = rw (a.sets A l, mapped es i, among (w.members A) es i) refl

  -- a constraint that names no others has the same test
  pub tests_agree : (cs : List ℤ) (k : ℕ) → n ≡ length cs + k → (l : Constraint) → Refers cs n s l → holds? v l ≡ holds? w l
  tests_agree cs k e (member t A) r = rw (a.numbers t r.0, a.sets A r.1) refl
  tests_agree cs k e (nonmember t A) r = rw (a.numbers t r.0, a.sets A r.1) refl
  tests_agree cs k e (same t u) r = rw (a.numbers t r.0, a.numbers u r.1) refl
  tests_agree cs k e (different t u) r = rw (a.numbers t r.0, a.numbers u r.1) refl
  tests_agree cs k e (relation q A B C) r = rw (a.sets A r.0, a.sets B r.1, a.sets C r.2) refl
  tests_agree cs k e (negation q A B C u) r = rw (a.sets A r.0, a.sets B r.1, a.sets C (subst (λ (X : SetVar). X.index < s) (sym r.2) r.0)) refl
  tests_agree cs k e (exactly A es) r = listed A es r.0 r.1
  tests_agree cs k e (interval A i j es) r = listed A es r.0 (rw r.4 (terms_each (λ t. t.index < n) i.index (suc j.index - i.index) (λ t l h. omega (arith, r.1, r.2))))

  pub lowest_agrees : (cs : List ℤ) (k : ℕ) → n ≡ length cs + k → (i : ℕ) (ls : List Constraint) → Each (Refers cs n s) ls → lowest v i ls ≡ lowest w i ls
  lowest_agrees cs k e i [] r = refl
  lowest_agrees cs k e i (l ∷ ls) r = ap₂ (λ (x : Bool) (y : Option ℕ). elim x [ true ↦ y | false ↦ some i ]) (tests_agree cs k e l r.0) (lowest_agrees cs k e (suc i) ls r.1)

-- what the check sees agrees with what was handed in
module _ (s : Seen) (prob : Problem) (p : read s.problem.bytes.now ≡ parsed prob) (g : Handed) (parts : PartsOf s.problem.table.variables s.problem.table.sets g s.handed) where
  abbrev tab : Table
  tab = s.problem.table

  prob_is : tab ≡ problem_table prob
  prob_is = let r = opened s.problem.bytes.now tab s.problem.opened in subst (λ (x : Problem). tab ≡ problem_table x) (parsed_same r.prob prob (sym r.reads ∙ p)) r.shows
    where
      parsed_same : (x y : Problem) → parsed x ≡ parsed y → x ≡ y
      parsed_same x y z = cc

  constants_are : tab.constants ≡ constant_count prob
  unfolding problem_table
  constants_are = ap (λ (x : Table). x.constants) prob_is

  variables_are : tab.variables ≡ length prob.variables
  unfolding problem_table
  variables_are = ap (λ (x : Table). x.variables) prob_is

  sets_are : tab.sets ≡ set_count prob
  unfolding problem_table
  sets_are = ap (λ (x : Table). x.sets) prob_is

  abbrev handed_in : Valuation
  handed_in = values prob (assignment_of g) (λ _. pos 0)

  a_constant : (t : ℕ) → t < tab.constants → word_at s.problem.bytes.now (1 + 2 * t) ≡ get_or prob.constants t (pos 0)
  unfolding constant_of values_of
  a_constant t l =
      let q = (constant_read s.problem.bytes.now tab t s.problem.opened l).1 in
      rw p at q

  a_variable : (i : ℕ) → i < tab.variables → word_at s.handed.values.now (2 * i) ≡ get_or g.numbers i (pos 0)
  a_variable i l =
      sym (word_read s.handed.values.now i (omega (arith, parts.values_are.0, parts.many))) ∙ ap (λ (xs : List ℤ). get_or xs i (pos 0)) parts.values_are.1

  seen_numbers : (t : Term) → t.index < nameable prob → value_at s t.index ≡ value_of prob (assignment_of g).number (λ _. pos 0) t
  seen_numbers t l = go (dec_lt t.index tab.constants)
    where
      go : Dec (t.index < tab.constants) → value_at s t.index ≡ value_of prob (assignment_of g).number (λ _. pos 0) t
      go (yes h) = rw (lt-ltb t.index tab.constants h, lt-ltb t.index (constant_count prob) (omega (arith, constants_are))) (a_constant t.index h)
      go (no h) =
          rw (le-ltb t.index tab.constants (omega arith), le-ltb t.index (constant_count prob) (omega (arith, constants_are)), lt-ltb t.index (nameable prob) l)
          (a_variable (t.index - tab.constants) (omega (arith, constants_are, variables_are)) ∙ ap (λ (c : ℕ). get_or g.numbers (t.index - c) (pos 0)) constants_are)

  pub seen_agrees : Agree (nameable prob) (set_count prob) (seen s) handed_in
  seen_agrees = record { numbers = seen_numbers; sets = λ A l. (parts.members_are A.index (omega (arith, sets_are))).1 }

  pub lowest_seen : lowest (seen s) 0 prob.constraints ≡ lowest handed_in 0 prob.constraints
  lowest_seen = lowest_agrees (nameable prob) (set_count prob) (seen s) handed_in seen_agrees prob.constants (length prob.variables) refl 0 prob.constraints (read_valid s.problem.bytes.now prob p).refers

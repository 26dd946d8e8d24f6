-- The rows of the tables against what the code lays out of them: each rule by one computed test over all that can be known.
use mathlib.Core.Path.{◌≡◌, refl, sym, ◌∙◌, ap, fun_ext}
use mathlib.Core.Logic.{inl, inr}
use mathlib.Core.Bool.{Bool, true, false, ◌&&◌, ◌||◌, not}
use mathlib.Core.List.{List}
use Prim.Native.Nat.{ℕ, ◌+◌, ◌<◌, ◌≤◌}
use native.Mathlib.Omega.{arith}
use lib.ListN.{length}
use Rattle.calculus.specs.Lists.{imp, Each, up_from}
use Rattle.calculus.specs.Terms.{SetVar}
use Rattle.calculus.specs.Relations.{Rule, applies, Relation, equal, union, disjoint, subset, intersection, Negation, unequal, negation_row, Literal}
use Rattle.calculus.specs.Relations as R
use Rattle.calculus.specs.Meaning.{relation}
use Rattle.calculus.proofs.Bools.{clash, same_test, imp_at, and_l, and_r, every3, every3_at}
use Rattle.calculus.proofs.Sequences.{up_at}
use Rattle.calculus.specs.Relations.{operand_of, lit_known, rows}
use Rattle.places.specs.Places.{RuleOf, first_row, row_of}
use Rattle.rules.specs.Rows.{numbered, splitting, left_operand, right_operand, head, second, last, child_at, last_child}

-- ---- what the code tests

-- a propagation rule: what it needs is known, and what it gives is not
abbrev pub forced_test : (Literal → Bool) → Rule Literal → Bool
forced_test f r = (f (head r.premises) && f (last r.premises)) && not (f (head (child_at 0 r)))

-- a split: what it needs is known, and of two sets neither that it is in nor that it is out
abbrev decided : (Literal → Bool) → R.Operand → Bool
decided f p = f (R.In p) || f (R.Out p)

abbrev pub divided_test : (Literal → Bool) → Rule Literal → Bool
divided_test f r = f (head r.premises) && not (decided f (left_operand r) || decided f (right_operand r))

-- a negation's split: of no child all literals are known
abbrev pub met_test : (Literal → Bool) → List Literal → Bool
met_test f ls = (f (head ls) && f (second ls)) && f (last ls)

abbrev pub denied_test : (Literal → Bool) → Rule Literal → Bool
denied_test f r = (not (met_test f (child_at 0 r)) && not (met_test f (child_at 1 r))) && not (met_test f (last_child r))

-- ---- a test that agrees with the rule whatever is known

abbrev Test : Type 0
Test = (Literal → Bool) → Rule Literal → Bool

abbrev iff : Bool → Bool → Bool
iff a b = imp a b && imp b a

abbrev agrees : Test → Rule Literal → Bool
agrees t r = every3 (λ a b c. every3 (λ x y z. iff (applies (lit_known (operand_of a b c) (operand_of x y z)) r) (t (lit_known (operand_of a b c) (operand_of x y z)) r)))

by_known : (f : Literal → Bool) → lit_known (operand_of (f (R.In R.A)) (f (R.In R.B)) (f (R.In R.C))) (operand_of (f (R.Out R.A)) (f (R.Out R.B)) (f (R.Out R.C))) ≡ f
by_known f = fun_ext go
  where
    go : (l : Literal) → lit_known (operand_of (f (R.In R.A)) (f (R.In R.B)) (f (R.In R.C))) (operand_of (f (R.Out R.A)) (f (R.Out R.B)) (f (R.Out R.C))) l ≡ f l
    go (R.In R.A) = refl
    go (R.In R.B) = refl
    go (R.In R.C) = refl
    go (R.Out R.A) = refl
    go (R.Out R.B) = refl
    go (R.Out R.C) = refl

agrees_at : (t : Test) (r : Rule Literal) → agrees t r ≡ true → (f : Literal → Bool) → applies f r ≡ t f r
agrees_at t r e f = ap (λ (g : Literal → Bool). applies g r) (sym (by_known f)) ∙ same_test p q (imp_at p q (and_l (imp p q) (imp q p) both)) (imp_at q p (and_r (imp p q) (imp q p) both)) ∙ ap (λ (g : Literal → Bool). t g r) (by_known f)
  where
    g : Literal → Bool
    g = lit_known (operand_of (f (R.In R.A)) (f (R.In R.B)) (f (R.In R.C))) (operand_of (f (R.Out R.A)) (f (R.Out R.B)) (f (R.Out R.C)))

    p : Bool
    p = applies g r

    q : Bool
    q = t g r

    both : iff p q ≡ true
    both = every3_at (λ x y z. iff (applies (lit_known (operand_of (f (R.In R.A)) (f (R.In R.B)) (f (R.In R.C))) (operand_of x y z)) r) (t (lit_known (operand_of (f (R.In R.A)) (f (R.In R.B)) (f (R.In R.C))) (operand_of x y z)) r))
        (every3_at (λ a b c. every3 (λ x y z. iff (applies (lit_known (operand_of a b c) (operand_of x y z)) r) (t (lit_known (operand_of a b c) (operand_of x y z)) r))) e (f (R.In R.A)) (f (R.In R.B)) (f (R.In R.C))) (f (R.Out R.A)) (f (R.Out R.B)) (f (R.Out R.C))

-- ---- the tables

-- a relation's rule is its number's row, and the code's test of it is right: one for propagation rules, another for splits
pub record Row (k : Relation) (j : ℕ) : Type 0 where
  pub is : row_of k j ≡ numbered j
  pub low : 5 ≤ j
  pub high : j ≤ 18
  pub no_seven : ¬ (j ≡ 7)
  pub forced : splitting j ≡ false → (f : Literal → Bool) → applies f (numbered j) ≡ forced_test f (numbered j)
  pub divided : splitting j ≡ true → (f : Literal → Bool) → applies f (numbered j) ≡ divided_test f (numbered j)

forced_row : (k : Relation) (j : ℕ) → row_of k j ≡ numbered j → 5 ≤ j → j ≤ 18 → ¬ (j ≡ 7) → splitting j ≡ false → agrees forced_test (numbered j) ≡ true → Row k j
forced_row k j e l h n m t = record { is = e; low = l; high = h; no_seven = n; forced = λ _. agrees_at forced_test (numbered j) t; divided = λ z. clash z m }

divided_row : (k : Relation) (j : ℕ) → row_of k j ≡ numbered j → 5 ≤ j → j ≤ 18 → ¬ (j ≡ 7) → splitting j ≡ true → agrees divided_test (numbered j) ≡ true → Row k j
divided_row k j e l h n m t = record { is = e; low = l; high = h; no_seven = n; forced = λ z. clash m z; divided = λ _. agrees_at divided_test (numbered j) t }

table : (k : Relation) → Each (Row k) (up_from (first_row k) (length (rows k)))
table equal = (forced_row equal 5 refl (omega arith) (omega arith) (omega arith) refl refl, (forced_row equal 6 refl (omega arith) (omega arith) (omega arith) refl refl, tt))
table union = (forced_row union 8 refl (omega arith) (omega arith) (omega arith) refl refl, (forced_row union 9 refl (omega arith) (omega arith) (omega arith) refl refl, (forced_row union 10 refl (omega arith) (omega arith) (omega arith) refl refl, (forced_row union 11 refl (omega arith) (omega arith) (omega arith) refl refl, (divided_row union 12 refl (omega arith) (omega arith) (omega arith) refl refl, tt)))))
table disjoint = (forced_row disjoint 13 refl (omega arith) (omega arith) (omega arith) refl refl, (forced_row disjoint 14 refl (omega arith) (omega arith) (omega arith) refl refl, tt))
table subset = (forced_row subset 15 refl (omega arith) (omega arith) (omega arith) refl refl, tt)
table intersection = (forced_row intersection 16 refl (omega arith) (omega arith) (omega arith) refl refl, (forced_row intersection 17 refl (omega arith) (omega arith) (omega arith) refl refl, (forced_row intersection 18 refl (omega arith) (omega arith) (omega arith) refl refl, tt)))

-- a rule of a relation is one of its rows
in_rows : (k : Relation) (A B C : SetVar) (j : ℕ) → RuleOf (relation k A B C) j → (first_row k ≤ j) × (j < first_row k + length (rows k))
in_rows equal A B C j (inl s) = s
in_rows equal A B C j (inr s) = absurd (omega (arith, s.1))
in_rows union A B C j (inl s) = (s.0, omega (arith, s.1))
in_rows union A B C j (inr s) = (omega (arith, s.0), s.1)
in_rows disjoint A B C j (inl s) = s
in_rows disjoint A B C j (inr s) = absurd (omega (arith, s.1))
in_rows subset A B C j (inl s) = s
in_rows subset A B C j (inr s) = absurd (omega (arith, s.1))
in_rows intersection A B C j (inl s) = s
in_rows intersection A B C j (inr s) = absurd (omega (arith, s.1))

pub row_of_relation : (k : Relation) (A B C : SetVar) (j : ℕ) → RuleOf (relation k A B C) j → Row k j
row_of_relation k A B C j r = let s = in_rows k A B C j r in up_at (Row k) (first_row k) (length (rows k)) (table k) j s.0 s.1

-- a negation's row
pub denied_row : (k : Negation) (f : Literal → Bool) → applies f (negation_row k) ≡ denied_test f (negation_row k)
denied_row unequal = agrees_at denied_test (negation_row unequal) refl

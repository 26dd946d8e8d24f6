-- What every branch of a run keeps, and what falls with every step: for the code's contracts.
use Rattle.std.specs.Prelude.{◌≡◌, true, false, ◌&&◌, ◌||◌, cond, List, ℕ, zero, suc, ◌+◌, ◌≤◌, ◌<◌, length, get_or, eqb}
use Rattle.calculus.specs.Lists.{any, Each}
use Rattle.calculus.specs.Terms.{Term, SetVar, term, set_var}
use Rattle.calculus.specs.Meaning.{Constraint, member, nonmember, same, different, relation, negation, exactly, interval}
use Rattle.calculus.specs.Branch.{Branch, root_at, inside, outside}

-- no term's parent is higher than itself
abbrev pub Falls : List ℕ → Type 0
Falls ps = (t : ℕ) → get_or ps t t ≤ t

-- term number i is one of the constants
abbrev pub Is : List Term → ℕ → Type 0
Is constants i = any (λ (j : Term). eqb j.index i) constants ≡ true

-- a branch over n terms with these constants: sizes, parents that fall, no two constants in one class, no class both in and out of a set
pub record WellFormed (n : ℕ) (constants : List Term) (b : Branch) : Type 0 where
  pub sized : length b.parents ≡ n
  pub sized_in : length b.insides ≡ n
  pub sized_out : length b.outsides ≡ n
  pub falls : Falls b.parents
  pub lone : (i j : ℕ) → Is constants i → Is constants j → root_at b i ≡ root_at b j → i ≡ j
  pub clean : (h : ℕ) (A : SetVar) → (inside b (term h) A && outside b (term h) A) ≡ false

-- the terms of a constraint, its witness and entries too, are below n, and its sets below m
abbrev pub ConstraintIn : ℕ → ℕ → Constraint → Type 0
ConstraintIn n m (member t A) = (t.index < n) × (A.index < m)
ConstraintIn n m (nonmember t A) = (t.index < n) × (A.index < m)
ConstraintIn n m (same t u) = (t.index < n) × (u.index < n)
ConstraintIn n m (different t u) = (t.index < n) × (u.index < n)
ConstraintIn n m (relation k A B C) = (A.index < m) × (B.index < m) × (C.index < m)
ConstraintIn n m (negation k A B C w) = ((A.index < m) × (B.index < m) × (C.index < m)) × (w.index < n)
ConstraintIn n m (exactly A es) = (A.index < m) × Each (λ e. e.index < n) es
ConstraintIn n m (interval A i j es) = (A.index < m) × Each (λ e. e.index < n) es

abbrev pub sum_below : ℕ → (ℕ → ℕ) → ℕ
sum_below zero f = 0
sum_below (suc n) f = f n + sum_below n f

-- 1 where it is undecided whether the class of root h is in set number A
abbrev pub undecided : Branch → ℕ → ℕ → ℕ
undecided b h A = cond (inside b (term h) (set_var A) || outside b (term h) (set_var A)) 0 1

-- a root counts for its class and for each of m sets that is undecided of it
abbrev pub weight : ℕ → Branch → ℕ → ℕ
weight m b t = cond (eqb (root_at b t) t) (suc (sum_below m (undecided b t))) 0

-- classes plus undecided facts, of n terms and m sets
abbrev pub measure : ℕ → ℕ → Branch → ℕ
measure n m b = sum_below n (weight m b)

-- The assignment check (document 01: the hand check): question 14, a test of each constraint, and the lowest that fails.
use Rattle.std.specs.Prelude.{Bool, true, false, ◌&&◌, not, cond, List, [], ◌∷◌, map, ℕ, zero, suc, ◌*◌, length, get_or, take, drop, leb, eqb, ℤ, pos}
use Rattle.std.proofs.Math.Option.{Option, none, some}
use Rattle.calculus.specs.Lists.{all, any}
use Rattle.calculus.specs.Terms.{Term, SetVar}
use Rattle.calculus.specs.Relations.{Relation, holds_at, denies}
use Rattle.calculus.specs.Meaning.{Constraint, member, nonmember, same, different, relation, negation, exactly, interval, Valuation}
use Rattle.calculus.specs.Problem.{Problem, set_count, Assignment}
use Rattle.calculus.specs.Reading.{Parsed, parsed, refused, ◌>>=◌, ask, words, ascending, eq_z}
use Rattle.calculus.specs.Encoding.{Handed}

-- ---- question 14: a number for each variable, then members for each set, and no more

unfoldable pub count : List ℕ → Parsed (ℕ × List ℕ)
count [] = refused 14
count (b ∷ bs) = parsed (b, bs)

unfoldable pub numbers : ℕ → List ℕ → Parsed (List ℤ × List ℕ)
numbers n bs = cond (leb (2 * n) (length bs)) (parsed (words (take (2 * n) bs), drop (2 * n) bs)) (refused 14)

abbrev pub member_lists : ℕ → List ℕ → Parsed (List (List ℤ) × List ℕ)
member_lists zero bs = parsed ([], bs)
member_lists (suc s) bs = do
  (n, r₁) ← count bs
  (xs, r₂) ← numbers n r₁
  _ ← ask 14 (ascending xs)
  (xss, r₃) ← member_lists s r₂
  parsed (xs ∷ xss, r₃)

unfoldable pub read_assignment : Problem → List ℕ → Parsed Handed
read_assignment prob bs = do
  (n, r₁) ← count bs
  _ ← ask 14 (eqb n (length prob.variables))
  (xs, r₂) ← numbers n r₁
  (xss, r₃) ← member_lists (set_count prob) r₂
  _ ← ask 14 (eqb (length r₃) 0)
  parsed (record { numbers = xs; sets = xss })

-- what was handed in, as an assignment
abbrev pub assignment_of : Handed → Assignment
assignment_of g = record { number = λ i. get_or g.numbers i (pos 0); members = λ A. get_or g.sets A.index [] }

-- ---- the tests

-- membership as a test
abbrev pub has : List ℤ → ℤ → Bool
has l x = any (eq_z x) l

-- a relation is tested at the members of its sets: elsewhere it holds
abbrev pub relates? : Relation → List ℤ → List ℤ → List ℤ → Bool
relates? k l m r =
    let t : ℤ → Bool = λ x. holds_at k (has l x) (has m x) (has r x) in
    all t l && all t m && all t r

abbrev pub exactly? : Valuation → SetVar → List Term → Bool
exactly? v A es = all (has (map v.num es)) (v.members A) && all (λ e. has (v.members A) (v.num e)) es

abbrev pub holds? : Valuation → Constraint → Bool
holds? v (member t A) = has (v.members A) (v.num t)
holds? v (nonmember t A) = not (has (v.members A) (v.num t))
holds? v (same t u) = eq_z (v.num t) (v.num u)
holds? v (different t u) = not (eq_z (v.num t) (v.num u))
holds? v (relation k A B C) = relates? k (v.members A) (v.members B) (v.members C)
holds? v (negation k A B C w) = not (relates? (denies k) (v.members A) (v.members B) (v.members C))
holds? v (exactly A es) = exactly? v A es
holds? v (interval A i j es) = exactly? v A es

-- the lowest constraint that fails, counted from i
abbrev pub lowest : Valuation → ℕ → List Constraint → Option ℕ
lowest v i [] = none
lowest v i (l ∷ ls) = elim (holds? v l) [ true ↦ lowest v (suc i) ls | false ↦ some i ]

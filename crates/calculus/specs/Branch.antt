-- A branch: classes of terms, and what is known of each class.
use Rattle.std.specs.Prelude.{Bool, true, false, ◌&&◌, ◌||◌, not, cond, List, [], ◌∷◌, ℕ, zero, suc, ◌^◌, min, max, get_or, set, replicate, eqb}
use Rattle.std.proofs.Math.Option.{Option, none, some}
use Rattle.std.specs.Int.Bits.{bit_and, bit_or}
use Rattle.calculus.specs.Lists.{up_from, any, bit}
use Rattle.calculus.specs.Terms.{Term, SetVar, term}

-- By term number: the parent (document 01: the term it was joined to), itself if none; and for a root the sets that its class is in, and is out of, as masks
pub record Branch : Type 0 where
  pub parents : List ℕ
  pub insides : List ℕ
  pub outsides : List ℕ

-- at the start each of n terms is its own class and nothing is known
unfoldable pub start : ℕ → Branch
start n = record { parents = up_from 0 n; insides = replicate n 0; outsides = replicate n 0 }

-- f steps from term number t to its parent's
abbrev pub walk : ℕ → List ℕ → ℕ → ℕ
walk zero ps t = t
walk (suc f) ps t = walk f ps (get_or ps t t)

-- numbers fall on the way, so t steps are enough
unfoldable pub root_at : Branch → ℕ → ℕ
root_at b t = walk t b.parents t

-- the root (document 01: head) of t's class
abbrev pub root : Branch → Term → Term
root b t = term (root_at b t.index)

-- the class of root h is known to be in A, or out of A
unfoldable pub inside : Branch → Term → SetVar → Bool
inside b h A = bit (get_or b.insides h.index 0) A.index

unfoldable pub outside : Branch → Term → SetVar → Bool
outside b h A = bit (get_or b.outsides h.index 0) A.index

-- what a branch can know: t is in A, t is out of A, t and u are one class
pub data Fact : Type 0 where
  In Out : (t : Term) (A : SetVar) → Fact
  Same : (t u : Term) → Fact

abbrev pub known : Branch → Fact → Bool
known b (In t A) = inside b (root b t) A
known b (Out t A) = outside b (root b t) A
known b (Same t u) = eqb (root_at b t.index) (root_at b u.index)

-- with the class of root h in A, or out of A
unfoldable pub add_inside : Branch → Term → SetVar → Branch
add_inside b h A = record { parents = b.parents; insides = set b.insides h.index (bit_or (get_or b.insides h.index 0) (2 ^ A.index)); outsides = b.outsides }

unfoldable pub add_outside : Branch → Term → SetVar → Branch
add_outside b h A = record { parents = b.parents; insides = b.insides; outsides = set b.outsides h.index (bit_or (get_or b.outsides h.index 0) (2 ^ A.index)) }

-- with the class of root hi united with that of root lo, and their facts
unfoldable pub merge : Branch → Term → Term → Branch
merge b lo hi = record {
  parents = set b.parents hi.index lo.index;
  insides = set b.insides lo.index (bit_or (get_or b.insides lo.index 0) (get_or b.insides hi.index 0));
  outsides = set b.outsides lo.index (bit_or (get_or b.outsides lo.index 0) (get_or b.outsides hi.index 0));
}

-- a conflict (document 01: a contradiction): the class of root h is both in and out of some set
unfoldable pub torn : Branch → Term → Bool
torn b h = not (eqb (bit_and (get_or b.insides h.index 0) (get_or b.outsides h.index 0)) 0)

-- or two constants would be in one class: the class of root h holds one of the constants
abbrev pub owns : List Term → Branch → Term → Bool
owns constants b h = any (λ (i : Term). eqb (root_at b i.index) h.index) constants

abbrev pub conflict_if : Bool → Branch → Option Branch
conflict_if true b = none
conflict_if false b = some b

-- the classes of two roots merged, into the lower
abbrev pub merge_roots : List Term → Branch → Term → Term → Option Branch
merge_roots constants b lo hi = conflict_if ((owns constants b lo && owns constants b hi) || torn (merge b lo hi) lo) (merge b lo hi)

-- asserting a fact (document 01: joining, noting): the branch as it then is, or none if it conflicts
unfoldable pub assert : List Term → Branch → Fact → Option Branch
assert constants b (In t A) = conflict_if (known b (Out t A)) (add_inside b (root b t) A)
assert constants b (Out t A) = conflict_if (known b (In t A)) (add_outside b (root b t) A)
assert constants b (Same t u) = cond (eqb (root_at b t.index) (root_at b u.index)) (some b)
    (merge_roots constants b (term (min (root_at b t.index) (root_at b u.index))) (term (max (root_at b t.index) (root_at b u.index))))

abbrev pub assert_all : List Term → Branch → List Fact → Option Branch
assert_all constants b [] = some b
assert_all constants b (f ∷ fs) = elim (assert constants b f) [ none ↦ none | some c ↦ assert_all constants c fs ]

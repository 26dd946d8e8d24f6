-- The children of a step by number. Some numbers have none: the branch that a conflict leaves out, and a class of entries that stood before.
use Rattle.std.specs.Prelude.{cond, List, [], ℕ, length, get_or, take, eqb}
use Rattle.std.proofs.Math.Option.{Option, none}
use Rattle.calculus.specs.Lists.{any}
use Rattle.calculus.specs.Terms.{Term, term}
use Rattle.calculus.specs.Meaning.{Constraint}
use Rattle.calculus.specs.Branch.{Branch, root_at, root, Same, assert, assert_all}
use Rattle.places.specs.Places.{move_at, entries_of}

-- how many numbers rule j has: the splits 7 and 12 two, rule 20 one for each entry, any other one
unfoldable pub slots_of : Constraint → ℕ → ℕ
slots_of l j = cond (eqb j 20) (length (entries_of l)) (cond (eqb j 7) 2 (cond (eqb j 12) 2 1))

-- rule 20 at root p, entry c: none if its class is an earlier entry's
abbrev pub class_child : List Term → Branch → List Term → ℕ → ℕ → Option Branch
class_child constants b es p c =
    cond (any (λ (e : Term). eqb (root_at b e.index) (root_at b (get_or es c (term 0)).index)) (take c es)) none
    (assert constants b (Same (term p) (root b (get_or es c (term 0)))))

-- child c of rule j of a constraint at position p; rule 4 has none
unfoldable pub child_of : List Term → Branch → Constraint → ℕ → ℕ → ℕ → Option Branch
child_of constants b l j p c = cond (eqb j 20) (class_child constants b (entries_of l) p c) (cond (eqb j 4) none (assert_all constants b (get_or (move_at b l j p).1.alternatives c [])))

-- The solved forms of a problem as branches: what the proofs speak of before a record is written.
use mathlib.Core.Path.{◌≡◌}
use mathlib.Core.Bool.{true}
use mathlib.Core.List.{List, [], ◌∷◌, map}
use Prim.Native.Nat.{ℕ, suc, ◌+◌, ◌*◌, ◌<◌}
use lib.IntN.{ℤ}
use Rattle.calculus.specs.Lists.{keep, Each}
use Rattle.calculus.specs.Terms.{Term, SetVar, term}
use Rattle.calculus.specs.Meaning.{Constraint, ◌∈◌, Valuation, Holds}
use Rattle.calculus.specs.Branch.{Branch, start, root_at, root, inside, outside}
use Rattle.calculus.specs.Search.{roots_of}
use Rattle.calculus.specs.Run.{Event, formed, stepped, log}
use Rattle.calculus.specs.Problem.{Problem, constant_count, term_count, set_count, constant_terms, Assignment, values}
use Rattle.calculus.specs.Forms.{class_value}

abbrev pub forms_of : List Event → List Branch
forms_of [] = []
forms_of (formed b ∷ es) = b ∷ forms_of es
forms_of (stepped r ∷ es) = forms_of es

-- of n terms, with constants k among them, m sets and these constraints
abbrev pub forms : ℕ → List Term → ℕ → List Constraint → List Branch
forms n k m ls = forms_of (log n k ls (n * suc m) (start n))

abbrev pub problem_forms : Problem → List Branch
problem_forms prob = forms (term_count prob) (constant_terms prob) (set_count prob) prob.constraints

-- a branch's merges and facts are true of a valuation
pub record AgreesBranch (n : ℕ) (v : Valuation) (b : Branch) : Type 0 where
  pub merges : (t : ℕ) → t < n → v.num (term t) ≡ v.num (term (root_at b t))
  pub insides : (t : ℕ) (A : SetVar) → t < n → inside b (term (root_at b t)) A ≡ true → v.num (term t) ∈ v.members A
  pub outsides : (t : ℕ) (A : SetVar) → t < n → outside b (term (root_at b t)) A ≡ true → ¬ (v.num (term t) ∈ v.members A)

abbrev pub SatisfiesBranch : Problem → Assignment → Branch → Type 0
SatisfiesBranch prob g b = (witness : Term → ℤ) × AgreesBranch (term_count prob) (values prob g witness) b × Each (Holds (values prob g witness)) prob.constraints

-- the model, read off the branch
abbrev pub branch_number : Problem → Branch → Term → ℤ
branch_number prob b t = class_value prob (root b) (root b t)

abbrev pub branch_model : Problem → Branch → Assignment
branch_model prob b = record { number = λ i. branch_number prob b (term (constant_count prob + i)); members = λ A. map (class_value prob (root b)) (keep (λ (h : Term). inside b h A) (roots_of (term_count prob) b)) }

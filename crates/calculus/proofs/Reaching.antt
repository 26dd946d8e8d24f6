-- A run's branches are those that asserting leads to.
use mathlib.Core.Path.{◌≡◌, sym, ◌∙◌}
use mathlib.Core.List.{List}
use Prim.Native.Nat.{ℕ}
use borrow.Author.Tests.{eqb-true}
use Rattle.calculus.specs.Branch.{Branch, start, root_at}
use Rattle.calculus.specs.Problem.{Problem, term_count, set_count, constant_terms}
use Rattle.calculus.specs.Reading.{parsed, read}
use Rattle.calculus.specs.Order.{Reached, begun, asserted, PathTo, begin, onward}
use Rattle.calculus.specs.Demands.{Reaches}
use Rattle.calculus.proofs.Bools.{clash}
use Rattle.calculus.proofs.Start.{start_root, start_inside, start_outside}
use Rattle.calculus.proofs.Stepping.{step_keeps}
use Rattle.calculus.proofs.ConstraintLaws.{constraints_within}
use Rattle.calculus.proofs.AssertSpec.{reached_fit}
use Rattle.calculus.proofs.ReadValid.{read_valid}
use Rattle.calculus.proofs.FirstPlace.{first_place}
use Rattle.calculus.proofs.WorkOrder.{some_each}
use Rattle.calculus.proofs.AtNumber.{same_index}

pub reaches : Reaches
reaches = (
  (λ n t u A. (
    (λ p. clash p (start_inside n (root_at (start n) t.index) A)),
    (λ p. clash p (start_outside n (root_at (start n) t.index) A)),
    (λ p. same_index (sym (start_root n t.index) ∙ eqb-true (root_at (start n) t.index) (root_at (start n) u.index) p ∙ start_root n u.index)),
  )),
  (λ bytes prob q d b p. go bytes prob q d b p),
)
  where
    go : (bytes : List ℕ) (prob : Problem) → read bytes ≡ parsed prob → (d : ℕ) (b : Branch) → PathTo prob d b → Reached (term_count prob) (constant_terms prob) (set_count prob) b
    go bytes prob q d b begin = begun
    go bytes prob q d b (onward {d = c} {b = a} {r = r} {cs = cs} p e s) =
        let R = go bytes prob q c a p in
        some_each (Reached (term_count prob) (constant_terms prob) (set_count prob)) b cs
        (step_keeps (term_count prob) (constant_terms prob) (set_count prob) prob.constraints (constraints_within prob (read_valid bytes prob q)) a (reached_fit (term_count prob) (constant_terms prob) (set_count prob) a R)
        (Reached (term_count prob) (constant_terms prob) (set_count prob)) (λ f l x y k z. asserted f k l z) R r cs (((first_place prob a).1 r cs).1 e)) s

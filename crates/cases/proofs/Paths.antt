-- The runs of C1, C2 and C3 in the order of work, with the lengths of their paths: 5 to the branch that rule 4 closes, 4 to the form, through the split's second child, and 4 to where C2 is spent.
use mathlib.Core.Path.{◌≡◌, refl}
use mathlib.Core.List.{List, [], ◌∷◌}
use Prim.Native.Nat.{ℕ, ◌≤◌}
use native.Mathlib.Omega.{arith}
use lib.IntN.{pos}
use lib.ListN.{get_or}
use Rattle.calculus.specs.Lists.{here, there}
use Rattle.calculus.specs.Terms.{term, set_var}
use Rattle.calculus.specs.Meaning.{member, different, interval}
use Rattle.calculus.specs.Problem.{Problem}
use Rattle.calculus.specs.Branch.{Branch, start, assert, root_at, inside, outside, add_inside, add_outside, merge, torn}
use Rattle.calculus.specs.Search.{solved, step, next}
use Rattle.calculus.specs.Run.{next_of}
use Rattle.calculus.specs.Calls.{Verdict, FORMS, SPENT, NOROOM}
use Rattle.calculus.specs.Order.{Recorded, Solved, StepOf, PathTo, begin, onward, Progress, unbegun, with_form, with_step, Works, all_worked, form_listed, no_room, spending, closing, stepping}
use Rattle.calculus.proofs.FirstPlace.{first_place}
use Rattle.calculus.proofs.RecordLaws.{records}

-- constants 3 and 4; x in A, A = [3, 4], x ≠ 3
abbrev c1 : Problem
c1 = record { constants = pos 3 ∷ pos 4 ∷ []; variables = 120 ∷ []; sets = 65 ∷ []; witnesses = 0; constraints = member (term 2) (set_var 0) ∷ interval (set_var 0) (term 0) (term 1) (term 0 ∷ term 1 ∷ []) ∷ different (term 2) (term 0) ∷ [] }

-- child k of a branch
abbrev child : ℕ → Branch → Branch
child k b = elim (next_of c1 b) [ solved ↦ b | step r cs ↦ get_or cs k b ]

-- the branches of the run: the start; x in A; 3 in A; 4 in A; then x merged with 3, or with 4
abbrev b₀ : Branch
b₀ = start 3

abbrev b₁ : Branch
b₁ = child 0 b₀

abbrev b₂ : Branch
b₂ = child 0 b₁

abbrev b₃ : Branch
b₃ = child 0 b₂

abbrev b₄ : Branch
b₄ = child 0 b₃

abbrev b₅ : Branch
b₅ = child 1 b₃

abbrev form : List ℕ
form = 0 ∷ 1 ∷ 0 ∷ 1 ∷ 1 ∷ 0 ∷ 1 ∷ 1 ∷ 0 ∷ []

step_is : (b : Branch) (r : List ℕ) (cs : List Branch) → next_of c1 b ≡ step r cs → StepOf c1 b r cs
step_is b r cs e = ((first_place c1 b).1 r cs).0 e

step₁ : StepOf c1 b₀ (1 ∷ 0 ∷ 2 ∷ 1 ∷ []) (b₁ ∷ [])
unfolding next start assert root_at inside outside add_inside add_outside merge torn
step₁ = step_is b₀ _ _ refl

step₂ : StepOf c1 b₁ (19 ∷ 1 ∷ 0 ∷ 1 ∷ []) (b₂ ∷ [])
unfolding next start assert root_at inside outside add_inside add_outside merge torn
step₂ = step_is b₁ _ _ refl

step₃ : StepOf c1 b₂ (19 ∷ 1 ∷ 1 ∷ 1 ∷ []) (b₃ ∷ [])
unfolding next start assert root_at inside outside add_inside add_outside merge torn
step₃ = step_is b₂ _ _ refl

step₄ : StepOf c1 b₃ (20 ∷ 1 ∷ 2 ∷ 2 ∷ []) (b₄ ∷ b₅ ∷ [])
unfolding next start assert root_at inside outside add_inside add_outside merge torn
step₄ = step_is b₃ _ _ refl

step₅ : StepOf c1 b₄ (4 ∷ 2 ∷ 0 ∷ 0 ∷ []) []
unfolding next start assert root_at inside outside add_inside add_outside merge torn
step₅ = step_is b₄ _ _ refl

is_form : Solved c1 b₅
unfolding next start assert root_at inside outside add_inside add_outside merge torn
is_form = (first_place c1 b₅).0.0 refl

its_record : Recorded 3 b₅ form
unfolding next start assert root_at inside outside add_inside add_outside merge torn
its_record = (records 3 b₅ form).1 refl

path₃ : PathTo c1 3 b₃
path₃ = onward (onward (onward begin step₁ (here refl)) step₂ (here refl)) step₃ (here refl)

-- the path to the form
pub path_to_form : PathTo c1 4 b₅
path_to_form = onward path₃ step₄ (there (here refl))

-- what was done after each step
abbrev s₁ : Progress
s₁ = with_step unbegun (1 ∷ 0 ∷ 2 ∷ 1 ∷ [])

abbrev s₂ : Progress
s₂ = with_step s₁ (19 ∷ 1 ∷ 0 ∷ 1 ∷ [])

abbrev s₃ : Progress
s₃ = with_step s₂ (19 ∷ 1 ∷ 1 ∷ 1 ∷ [])

abbrev s₄ : Progress
s₄ = with_step s₃ (20 ∷ 1 ∷ 2 ∷ 2 ∷ [])

abbrev s₅ : Progress
s₅ = with_step s₄ (4 ∷ 2 ∷ 0 ∷ 0 ∷ [])

-- the four steps before the split's children, with a budget of four or more
first_steps : (budget room : ℕ) (v : Verdict) (e : Progress) (ps : List ℕ) → 4 ≤ budget → Works c1 budget room ((4, b₄) ∷ (4, b₅) ∷ []) s₄ v e ps → Works c1 budget room ((0, b₀) ∷ []) unbegun v e ps
first_steps budget room v e ps l w =
    stepping {s = unbegun} begin step₁ (λ q. omega (arith, q))
    (stepping {s = s₁} (onward begin step₁ (here refl)) step₂ (λ q. omega (arith, q))
    (stepping {s = s₂} (onward (onward begin step₁ (here refl)) step₂ (here refl)) step₃ (λ q. omega (arith, q))
    (stepping {s = s₃} path₃ step₄ (λ q. omega (arith, q)) w)))

-- C1: the whole run
pub run : Works c1 5 9 ((0, b₀) ∷ []) unbegun FORMS (record { steps = 5; forms = 1; records = form; trace = 1 ∷ 0 ∷ 2 ∷ 1 ∷ 19 ∷ 1 ∷ 0 ∷ 1 ∷ 19 ∷ 1 ∷ 1 ∷ 1 ∷ 20 ∷ 1 ∷ 2 ∷ 2 ∷ 4 ∷ 2 ∷ 0 ∷ 0 ∷ [] }) (5 ∷ 4 ∷ [])
run = first_steps 5 9 _ _ _ (omega arith)
    (closing {s = s₄} (onward path₃ step₄ (here refl)) step₅ (λ e. omega (arith, e))
    (form_listed {s = s₅} path_to_form is_form its_record (omega arith)
    (all_worked {s = with_form s₅ form} (λ e. omega (arith, e)))))

-- C2: SPENT in the split's first child, 4 steps from the start
pub spent : Works c1 4 9 ((0, b₀) ∷ []) unbegun SPENT (record { steps = 4; forms = 0; records = []; trace = 1 ∷ 0 ∷ 2 ∷ 1 ∷ 19 ∷ 1 ∷ 0 ∷ 1 ∷ 19 ∷ 1 ∷ 1 ∷ 1 ∷ 20 ∷ 1 ∷ 2 ∷ 2 ∷ [] }) (4 ∷ [])
spent = first_steps 4 9 _ _ _ (omega arith) (spending {s = s₄} (onward path₃ step₄ (here refl)) step₅ refl)

-- C3: NO ROOM at the form, 4 steps from the start, after the closed branch
pub no_room_left : Works c1 5 8 ((0, b₀) ∷ []) unbegun NOROOM (record { steps = 5; forms = 0; records = []; trace = 1 ∷ 0 ∷ 2 ∷ 1 ∷ 19 ∷ 1 ∷ 0 ∷ 1 ∷ 19 ∷ 1 ∷ 1 ∷ 1 ∷ 20 ∷ 1 ∷ 2 ∷ 2 ∷ 4 ∷ 2 ∷ 0 ∷ 0 ∷ [] }) (5 ∷ 4 ∷ [])
no_room_left = first_steps 5 8 _ _ _ (omega arith)
    (closing {s = s₄} (onward path₃ step₄ (here refl)) step₅ (λ e. omega (arith, e))
    (no_room {s = s₅} path_to_form is_form its_record (omega arith)))

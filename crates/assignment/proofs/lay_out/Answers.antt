-- Each refusal rests on reading being refused there, the last return on nothing being left.
use Rattle.std.proofs.Common.{ℕ, List, ◌≤◌, arith, refl, sym, ◌∙◌}
use Rattle.std.specs.Borrow.{Bor}
use borrow.Author.Tests.{eqb-true, eqb-false}
use Rattle.std.proofs.lemmas.List.{map-set, length-map}
use Rattle.assignment.proofs.Layouts.{no_count, other_count, no_values, start_stands, no_set, set_stands, left_over, all_stand, unwritten, written, where_true}
use Rattle.assignment.specs.Laid.{Lays}
use Rattle.assignment.proofs.lay_out.Goals as goal

pub returns-in_err-count : goal.returns-in_err-count
returns-in_err-count c = rw c.from_residual.ensures (no_count _ _ _ c.in_err-count.ensures.cases)

pub returns-then-count-variables : goal.returns-then-count-variables
returns-then-count-variables c = rw c.in_ok-count.ensures.cases.0 (other_count _ _ _ _ c.if-count-variables.true)

pub returns-in_err-values : goal.returns-in_err-values
returns-in_err-values c =
    rw (c.from_residual-in_err-values.ensures, c.in_ok-count.ensures.cases.0) (no_values _ _ _ _ c.if-count-variables.false c.in_err-values.ensures.cases)

pub loop-part-init : goal.loop-part-init
loop-part-init c =
    let x = c.in_ok-values.ensures.cases in
    start_stands _ _ _ _ _ _ _ _ c.in_ok-count.ensures.cases.0 c.if-count-variables.false x.0 x.1 x.2 (unwritten (λ m. m.now) _ c.args.sets 8 c.requires)

pub returns-in_err-part : goal.returns-in_err-part
returns-in_err-part c = rw c.from_residual-in_err-part.ensures (no_set c.loop-part.invariant.so_far (omega (arith, c.loop-part.invariant.so_far.long, length-map {A = Bor (List ℕ)} {B = List ℕ})) c.in_err-part.ensures)

pub loop-part-preserved : goal.loop-part-preserved
loop-part-preserved c =
    let v = c.in_ok-part in
    rw (map-set (λ m. m.now) c.loop-part.part-items c.loop-part.part-index v.field-0-0) (set_stands c.loop-part.invariant (omega (arith, c.loop-part.invariant.so_far.long, length-map {A = Bor (List ℕ)} {B = List ℕ})) _ _ v.ensures)

pub returns : goal.returns
returns c =
    let v = c.loop-part.invariant in
    let over : c.args.sets ≤ c.loop-part.part-index = omega (arith, v.so_far.long, length-map {A = Bor (List ℕ)} {B = List ℕ}) in
    rw c.then_some.ensures
    (where_true (Lays c.args.bytes.now c.args.variables c.args.sets) _ _
    (λ t. all_stand v over _ refl (written (λ m. m.now) _ c.args.sets 8 c.requires c.loop-part.part-items refl v.so_far.long) (eqb-true _ 0 (sym c.is_empty.ensures ∙ t)))
    (λ t. left_over v.so_far over (eqb-false _ 0 (sym c.is_empty.ensures ∙ t))))

-- Each return is what reading gives there: a refusal by the first question that is answered "no", or the table where none is.
use Rattle.std.proofs.Common.{arith, refl}
use Rattle.std.proofs.lemmas.Result.{err_from_is_err_and}
use Rattle.calculus.proofs.ReadValid.{read_long}
use Rattle.problem.proofs.Reading.{Three, three, constants_refused, variables_refused, sets_refused, no_constraint_count, many_constraints, constraint_refused, left_over, many_terms, accepted, opens}
use Rattle.problem.proofs.read.Goals as goal
use Rattle.problem.proofs.read.Goals.{In_ok-sets}

-- what the three sections tell
sections : (c : In_ok-sets) → Three c.args.bytes.now c.in_ok-constants.constants.now c.in_ok-variables.variables.now c.in_ok-sets.sets.now c.in_ok-sets.rest.now
sections c = three c.args.bytes.now c.if-bytes-gt-MOST_BYTES.false _ c.in_ok-constants.ensures _ c.in_ok-variables.ensures c.type_inv.bytes _ c.in_ok-sets.ensures

pub returns-then-bytes-gt-MOST_BYTES : goal.returns-then-bytes-gt-MOST_BYTES
returns-then-bytes-gt-MOST_BYTES c = rw (read_long c.args.bytes.now c.if-bytes-gt-MOST_BYTES.true) refl

pub returns-in_err-constants : goal.returns-in_err-constants
returns-in_err-constants c =
    let p = err_from_is_err_and c.from_residual.result c.from_residual.ensures.1 in
    rw (p.1, p.2, constants_refused c.args.bytes.now c.if-bytes-gt-MOST_BYTES.false _ c.in_err-constants.ensures) refl

pub returns-in_err-variables : goal.returns-in_err-variables
returns-in_err-variables c =
    let p = err_from_is_err_and c.from_residual-in_err-variables.result c.from_residual-in_err-variables.ensures.1 in
    rw (p.1, p.2, variables_refused c.args.bytes.now c.if-bytes-gt-MOST_BYTES.false _ c.in_ok-constants.ensures _ c.in_err-variables.ensures) refl

pub returns-in_err-sets : goal.returns-in_err-sets
returns-in_err-sets c =
    let p = err_from_is_err_and c.from_residual-in_err-sets.result c.from_residual-in_err-sets.ensures.1 in
    rw (p.1, p.2, sets_refused c.args.bytes.now c.if-bytes-gt-MOST_BYTES.false _ c.in_ok-constants.ensures _ c.in_ok-variables.ensures _ c.in_err-sets.ensures) refl

pub returns-in_default : goal.returns-in_default
returns-in_default c =
    let t = sections (goal.at.returns-in_default c).In_ok-sets in
    rw (no_constraint_count c.args.bytes.now _ _ _ _ t c.in_default.ensures.cases) refl

pub returns-then-m-gt-MOST_CONSTRAINTS : goal.returns-then-m-gt-MOST_CONSTRAINTS
returns-then-m-gt-MOST_CONSTRAINTS c =
    let t = sections (goal.at.returns-then-m-gt-MOST_CONSTRAINTS c).In_ok-sets in
    rw (many_constraints c.args.bytes.now _ _ _ _ t _ _ c.in-Some.ensures.cases.0 c.if-m-gt-MOST_CONSTRAINTS.true) refl

pub overflow_sub-bytes : goal.overflow_sub-bytes
overflow_sub-bytes c =
    let t = sections (goal.at.overflow_sub-bytes c).In_ok-sets in
    omega (arith, t.bytes, c.in-Some.ensures.cases.1)

pub invariant_of-names : goal.invariant_of-names
invariant_of-names c =
    let t = sections (goal.at.invariant_of-names c).In_ok-sets in
    record { rising = t.rising; few_terms = omega (arith, t.even, t.few_constants, t.few_variables) }

pub constraints_at-requires : goal.constraints_at-requires
constraints_at-requires c =
    let t = sections (goal.at.constraints_at-requires c).In_ok-sets in
    (omega (arith, t.bytes, c.in-Some.ensures.cases.1), omega arith, omega (arith, t.even))

pub returns-in_err-found : goal.returns-in_err-found
returns-in_err-found c =
    let t = sections (goal.at.returns-in_err-found c).In_ok-sets in
    let p = err_from_is_err_and c.from_residual-in_err-found.result c.from_residual-in_err-found.ensures.1 in
    rw (p.1, p.2, constraint_refused c.args.bytes.now _ _ _ _ t _ _ c.in-Some.ensures.cases.0 c.if-m-gt-MOST_CONSTRAINTS.false _ c.in_err-found.ensures) refl

pub returns-then-found-rest : goal.returns-then-found-rest
returns-then-found-rest c =
    let t = sections (goal.at.returns-then-found-rest c).In_ok-sets in
    rw (left_over c.args.bytes.now _ _ _ _ t _ _ c.in-Some.ensures.cases.0 c.if-m-gt-MOST_CONSTRAINTS.false _ c.in_ok-found.ensures c.if-found-rest.true) refl

pub returns-then-found-gt-MOST_TERMS : goal.returns-then-found-gt-MOST_TERMS
returns-then-found-gt-MOST_TERMS c =
    let t = sections (goal.at.returns-then-found-gt-MOST_TERMS c).In_ok-sets in
    rw (many_terms c.args.bytes.now _ _ _ _ t _ _ c.in-Some.ensures.cases.0 c.if-m-gt-MOST_CONSTRAINTS.false _ c.in_ok-found.ensures c.if-found-rest.false c.if-found-gt-MOST_TERMS.true) refl

pub overflow_cast-table : goal.overflow_cast-table
overflow_cast-table c =
    let t = sections (goal.at.overflow_cast-table c).In_ok-sets in
    omega (arith, t.even, t.few_constants)

pub overflow_cast-table-2 : goal.overflow_cast-table-2
overflow_cast-table-2 c =
    let t = sections (goal.at.overflow_cast-table-2 c).In_ok-sets in
    omega (arith, t.few_variables)

pub overflow_cast-table-3 : goal.overflow_cast-table-3
overflow_cast-table-3 c =
    let t = sections (goal.at.overflow_cast-table-3 c).In_ok-sets in
    omega (arith, t.few_sets)

pub invariant_of-result : goal.invariant_of-result
invariant_of-result c =
    let t = sections (goal.at.invariant_of-result c).In_ok-sets in
    let a = accepted c.args.bytes.now _ _ _ _ t _ _ c.in-Some.ensures.cases.0 c.if-m-gt-MOST_CONSTRAINTS.false _ c.in_ok-found.ensures c.if-found-rest.false c.if-found-gt-MOST_TERMS.false in
    record { opened = opens c.args.bytes.now a.0 _ a.1 a.2 }

pub returns : goal.returns
returns c =
    let t = sections (goal.at.returns c).In_ok-sets in
    let a = accepted c.args.bytes.now _ _ _ _ t _ _ c.in-Some.ensures.cases.0 c.if-m-gt-MOST_CONSTRAINTS.false _ c.in_ok-found.ensures c.if-found-rest.false c.if-found-gt-MOST_TERMS.false in
    rw a.1 (refl, a.2)

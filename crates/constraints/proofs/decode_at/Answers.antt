-- Each arm is the constraint of its kind over the bytes that follow the kind byte.
use Rattle.std.proofs.Common.{arith, refl}
use mathlib.Core.Logic.{inl, inr}
use Rattle.problem.proofs.Access.{stands_low}
use Rattle.constraints.proofs.Decoding.{begin, kind_known, operands, third_operand, kind_is, decodes, decodes_list, decodes_end, decodes_interval}
use Rattle.constraints.proofs.decode_at.Goals as goal

pub slice_bounds-line-count : goal.slice_bounds-line-count
slice_bounds-line-count c = omega (arith, stands_low _ _ _ c.requires.0)

pub slice_bounds-line-start : goal.slice_bounds-line-start
slice_bounds-line-start c = omega (arith, stands_low _ _ _ c.requires.0)

pub bounds-line-0 : goal.bounds-line-0
bounds-line-0 c = omega (arith, operands (begin c.requires))

pub unreachable-requires : goal.unreachable-requires
unreachable-requires c = kind_known (begin c.requires) c.in_default.ensures.1

pub bounds-line-1 : goal.bounds-line-1
bounds-line-1 c = omega (arith, operands (begin c.requires))

pub bounds-line-2 : goal.bounds-line-2
bounds-line-2 c = operands (begin c.requires)

pub bounds-line-3 : goal.bounds-line-3
bounds-line-3 c = third_operand (begin c.requires) c.in-Ok.ensures c.in-Union.is (inl refl)

pub bounds-line-3-in-Intersection : goal.bounds-line-3-in-Intersection
bounds-line-3-in-Intersection c = third_operand (begin c.requires) c.in-Ok.ensures c.in-Intersection.is (inr (inl refl))

pub bounds-line-3-in-Interval : goal.bounds-line-3-in-Interval
bounds-line-3-in-Interval c = third_operand (begin c.requires) c.in-Ok.ensures c.in-Interval.is (inr (inr refl))

pub entries-requires : goal.entries-requires
entries-requires c = (c.requires.0, kind_is (begin c.requires) c.in-Ok.ensures c.in-Exactly.is)

pub interval-entries-requires : goal.interval-entries-requires
interval-entries-requires c = decodes_end (begin c.requires) c.in-Ok.ensures c.in-Interval.is

pub returns-in-Member : goal.returns-in-Member
returns-in-Member c = decodes (begin c.requires) c.in-Ok.ensures c.in-Member.is refl (omega arith)

pub returns-in-Nonmember : goal.returns-in-Nonmember
returns-in-Nonmember c = decodes (begin c.requires) c.in-Ok.ensures c.in-Nonmember.is refl (omega arith)

pub returns-in-Same : goal.returns-in-Same
returns-in-Same c = decodes (begin c.requires) c.in-Ok.ensures c.in-Same.is refl (omega arith)

pub returns-in-Different : goal.returns-in-Different
returns-in-Different c = decodes (begin c.requires) c.in-Ok.ensures c.in-Different.is refl (omega arith)

pub returns-in-Equal : goal.returns-in-Equal
returns-in-Equal c = decodes (begin c.requires) c.in-Ok.ensures c.in-Equal.is refl (omega arith)

pub returns-in-Unequal : goal.returns-in-Unequal
returns-in-Unequal c = decodes (begin c.requires) c.in-Ok.ensures c.in-Unequal.is refl (omega arith)

pub returns-in-Union : goal.returns-in-Union
returns-in-Union c = decodes (begin c.requires) c.in-Ok.ensures c.in-Union.is refl (omega arith)

pub returns-in-Disjoint : goal.returns-in-Disjoint
returns-in-Disjoint c = decodes (begin c.requires) c.in-Ok.ensures c.in-Disjoint.is refl (omega arith)

pub returns-in-Subset : goal.returns-in-Subset
returns-in-Subset c = decodes (begin c.requires) c.in-Ok.ensures c.in-Subset.is refl (omega arith)

pub returns-in-Intersection : goal.returns-in-Intersection
returns-in-Intersection c = decodes (begin c.requires) c.in-Ok.ensures c.in-Intersection.is refl (omega arith)

pub returns-in-Exactly : goal.returns-in-Exactly
returns-in-Exactly c = decodes_list (begin c.requires) c.in-Ok.ensures c.in-Exactly.is c.entries.ensures.0 c.entries.ensures.1

pub returns-in-Interval : goal.returns-in-Interval
returns-in-Interval c = decodes_interval (begin c.requires) c.in-Ok.ensures c.in-Interval.is c.interval-entries.ensures.0 c.interval-entries.ensures.1

-- The bytes after a list's set are its count and its entries.
use Rattle.std.proofs.Common.{arith, rules}
use lib.ListN.{length-take}
use Rattle.std.proofs.lemmas.List.{take_rest}
use Rattle.problem.proofs.Access.{stands_low, list_counted, list_there, list_read_at}
use Rattle.problem.proofs.accepted.entries.Goals as goal

pub slice_bounds-line-count : goal.slice_bounds-line-count
slice_bounds-line-count c = omega (arith, stands_low _ _ _ c.requires.0)

pub slice_bounds-line-start : goal.slice_bounds-line-start
slice_bounds-line-start c = omega (arith, stands_low _ _ _ c.requires.0)

pub bounds-line-2 : goal.bounds-line-2
bounds-line-2 c = omega (arith, list_counted _ _ _ _ c.requires.0 (take_rest c.args.bytes.now c.args.at) c.requires.1)

pub slice_bounds-result-end : goal.slice_bounds-result-end
slice_bounds-result-end c = omega (arith, list_there _ _ _ _ c.requires.0 (take_rest c.args.bytes.now c.args.at) c.requires.1)

pub returns : goal.returns
returns c = (list_read_at _ _ _ _ c.requires.0 (take_rest c.args.bytes.now c.args.at) c.requires.1, search (rules, length-take))

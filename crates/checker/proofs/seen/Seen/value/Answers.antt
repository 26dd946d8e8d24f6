-- A constant's two bytes stand in the problem.
use Rattle.std.proofs.Common.{sym, ◌∙◌}
use borrow.Author.Tests.{lt-ltb}
use Rattle.problem.proofs.Access.{constant_read}
use Rattle.checker.proofs.seen.Seen.value.Goals as goal

pub returns-then-t-constants : goal.returns-then-t-constants
returns-then-t-constants c =
    let s = c.args.self.now in
    let l = c.if-t-constants.true in
    rw (lt-ltb c.args.t.0 s.problem.table.constants l) (c.constant.ensures.0 ∙ sym (constant_read s.problem.bytes.now s.problem.table c.args.t.0 s.problem.opened l).1, c.constant.ensures.1)

-- There is room, since each member has at most 7 bytes; after the last term all members are written.
use Rattle.std.proofs.Common.{◌≡◌, arith}
use Rattle.calculus.specs.Problem.{term_count}
use Rattle.listing_lines.specs.Writing.{problem_in}
use Rattle.text.proofs.Texts.{says_nothing, says_more}
use Rattle.listing_lines.proofs.Members.{no_members, all_members, member_step}
use Rattle.listing_lines.proofs.Values.{known}
use Rattle.listing_lines.proofs.form.Form.say_members.Goals as goal

pub loop-t-init : goal.loop-t-init
loop-t-init c = (omega arith, rw (no_members _ _ _) (says_nothing _))

pub say_member-requires : goal.say_member-requires
say_member-requires c = (c.loop-t-test.true, c.requires.0, omega (arith, known c.args.self.now))

pub loop-t-preserved : goal.loop-t-preserved
loop-t-preserved c = (omega arith, member_step _ _ _ _ (omega arith) c.loop-t.invariant.1 c.say_member.ensures.says)

pub say-requires-2 : goal.say-requires-2
say-requires-2 c = omega (arith, known c.args.self.now)

pub returns-clause-says : goal.returns-clause-says
returns-clause-says c =
    let f = c.args.self.now in
    let e : c.loop-t.t ≡ term_count (problem_in f.problem.bytes.now) = omega (arith, known f) in
    rw (all_members _ _ _, ← e) (says_more (omega arith) c.say.ensures.says (says_more (omega arith) c.loop-t.invariant.1 c.say-2.ensures.says))

pub returns-clause-short : goal.returns-clause-short
returns-clause-short c = omega (arith, known c.args.self.now)

-- Each piece of the line stands right after the one before.
use Rattle.std.proofs.Common.{◌≤◌, length, arith}
use Rattle.text.proofs.Texts.{says_more}
use Rattle.listing_lines.proofs.Headings.{forms_short, name_short}
use Rattle.listing_lines.proofs.say_heading.Goals as goal

pub returns-in-Refused : goal.returns-in-Refused
returns-in-Refused c = rw c.in-Refused.is (record { says = says_more (omega arith) c.say.ensures.says (says_more (omega arith) c.decimal.ensures.says c.say-in-Refused.ensures.says) })

pub returns-in-Ended : goal.returns-in-Ended
returns-in-Ended c =
    let s = rw c.in-Ended.is at c.requires.0 in
    let n : length c.name_of.result.now ≤ 7 = rw c.name_of.ensures (name_short _) in
    let f = forms_short c.in-Ended.forms (omega (arith, s)) in
    let x = says_more (omega (arith, n, f)) c.decimal-in-Ended-2.ensures.says c.say-in-Ended-3.ensures.says in
    let y = says_more (omega (arith, n, f)) c.say-in-Ended-2.ensures.says x in
    let z = says_more (omega (arith, n)) c.decimal-in-Ended.ensures.says y in
    rw (c.in-Ended.is, ← c.name_of.ensures) (record { says = says_more (omega arith) c.say-in-Ended.ensures.says z })

-- Each arm says which word it makes (IsWord, in FitLaws); that such a word fits is `fits_right`.
use Rattle.branch.specs.Held.{root_of}
use Rattle.fits.proofs.FitLaws.{fits_right, forced_word_is, divided_word_is, denied_word_is}
use Rattle.fits.proofs.fitting.Goals as goal

pub returns-then-rule-eq12 : goal.returns-then-rule-eq12
returns-then-rule-eq12 c = fits_right c.in-Related.is c.requires.1 _ _ c.requires.0 _ (divided_word_is _ _ _ _ c.if-rule-eq12.true _ c.split_of.ensures c.divided.ensures)

pub returns-in-Member : goal.returns-in-Member
returns-in-Member c = fits_right c.in-Member.is c.requires.1 _ _ c.requires.0 _ (cc)

pub returns-in-Nonmember : goal.returns-in-Nonmember
returns-in-Nonmember c = fits_right c.in-Nonmember.is c.requires.1 _ _ c.requires.0 _ (cc)

pub returns-in-Same : goal.returns-in-Same
returns-in-Same c = fits_right c.in-Same.is c.requires.1 _ _ c.requires.0 _ (cc)

pub returns-in-Different : goal.returns-in-Different
returns-in-Different c = fits_right c.in-Different.is c.requires.1 _ _ c.requires.0 _ c.together.ensures

pub returns-else-rule-eq12 : goal.returns-else-rule-eq12
returns-else-rule-eq12 c = fits_right c.in-Related.is c.requires.1 _ _ c.requires.0 _ (forced_word_is _ _ _ _ c.if-rule-eq12.false _ c.row_of.ensures c.forced.ensures)

pub returns-in-Negated : goal.returns-in-Negated
returns-in-Negated c = fits_right c.in-Negated.is c.requires.1 _ _ c.requires.0 _ (denied_word_is c.in-Negated.is c.args.b.now.rows _ (root_of c.args.b.now.parents c.in-Negated.w.0) _ c.denial_of.ensures c.denied.ensures)

pub returns-in-Listed : goal.returns-in-Listed
returns-in-Listed c = fits_right c.in-Listed.is c.requires.1 _ _ c.requires.0 _ c.by_entries.ensures

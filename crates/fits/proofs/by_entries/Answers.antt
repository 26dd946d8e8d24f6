-- Rule 20 by the roots of all entries.
use Rattle.fits.proofs.Listed.{by_entries_20}
use Rattle.fits.proofs.by_entries.Goals as goal

pub returns : goal.returns
returns c = rw c.unshared.ensures (by_entries_20 _ _ _ _ _ c.requires.1 c.if-rule-eq19.false _ c.entry_roots.ensures)

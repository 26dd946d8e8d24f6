-- A parent that is another term is lower.
use Rattle.branch.proofs.+walk.Given as goal

abbrev pub decreases-walk : goal.decreases-walk
decreases-walk l = l.t

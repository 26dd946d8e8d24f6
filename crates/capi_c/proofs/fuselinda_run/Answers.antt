-- What capi's function promises is what is promised here. Written out, so that a wrong call is refused for what differs.
use Rattle.capi_c.proofs.fuselinda_run.Goals as goal

pub returns : goal.returns
returns c = c.fuselinda_run.ensures

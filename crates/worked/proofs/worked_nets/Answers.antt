use Rattle.worked.proofs.Computing.{worked_nets}
use Rattle.worked.proofs.worked_nets.Goals as goal

pub returns : goal.returns
returns c = worked_nets

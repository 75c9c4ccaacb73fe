use Rattle.house.proofs.Judging.{judges_steps, takes_steps}
use Rattle.house.proofs.house.Goals as goal

pub returns : goal.returns
returns c = record { judges = judges_steps; takes = takes_steps }

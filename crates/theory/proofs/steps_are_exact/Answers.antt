use Rattle.theory.proofs.Exact.{steps_are_exact}
use Rattle.theory.proofs.steps_are_exact.Goals as goal

pub returns : goal.returns
returns c = steps_are_exact

use Rattle.theory.proofs.Lawful.{steps_are_lawful}
use Rattle.theory.proofs.steps_are_lawful.Goals as goal

pub returns : goal.returns
returns c = steps_are_lawful

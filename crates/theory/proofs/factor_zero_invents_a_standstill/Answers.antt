use Rattle.theory.proofs.Mistakes.{factor_zero_invents_a_standstill}
use Rattle.theory.proofs.factor_zero_invents_a_standstill.Goals as goal

pub returns : goal.returns
returns c = factor_zero_invents_a_standstill

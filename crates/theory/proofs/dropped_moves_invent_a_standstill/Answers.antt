use Rattle.theory.proofs.Mistakes.{dropped_moves_invent_a_standstill}
use Rattle.theory.proofs.dropped_moves_invent_a_standstill.Goals as goal

pub returns : goal.returns
returns c = dropped_moves_invent_a_standstill

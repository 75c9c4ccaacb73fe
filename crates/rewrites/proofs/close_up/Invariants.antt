use Rattle.std.proofs.Common.{false, get_or}
use Rattle.rewrites.proofs.Closing.{Turned}
use Rattle.rewrites.proofs.close_up.Given as goal

abbrev pub invariant-loop-t : goal.invariant-loop-t
invariant-loop-t l = Turned (λ t. get_or l.keep t false) l.initial.sheet l.sheet l.kept l.t

use Rattle.puffinwire.proofs.Sets.{Gathers}
use Rattle.puffinwire.proofs.set_of.Given as goal

abbrev pub invariant-loop-flag : goal.invariant-loop-flag
invariant-loop-flag l = Gathers l.set l.flag-iterator.iter.rest.now l.flags

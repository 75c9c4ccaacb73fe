use Rattle.moves.specs.Columns.{Added}
use Rattle.moves.proofs.add_parts.Given as goal

abbrev pub invariant-loop-part : goal.invariant-loop-part
invariant-loop-part l = Added l.initial.sheet l.sheet l.part l.p l.q

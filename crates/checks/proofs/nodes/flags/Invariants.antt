use Rattle.std.proofs.Common.{◌≡◌, ◌≤◌}
use Rattle.net.specs.States.{view}
use Rattle.checks.proofs.Flagging.{Flagged}
use Rattle.checks.proofs.nodes.flags.Given as goal

abbrev pub invariant-loop-i : goal.invariant-loop-i
invariant-loop-i g l =
    (l.i-iterator.end ≡ g.T.Of.Nodes.count (view l.net))
    × ((l.i-iterator.start ≤ l.i-iterator.end) × Flagged (g.T.Test.holds l.test (view l.net)) l.flags l.i-iterator.start)

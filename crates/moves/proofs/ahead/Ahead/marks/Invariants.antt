use Rattle.std.proofs.Common.{◌≡◌, ◌≤◌}
use Rattle.net.specs.States.{view}
use Rattle.moves.proofs.Marks.{Counted}
use Rattle.moves.proofs.ahead.Ahead.marks.Given as goal

abbrev pub invariant-loop-p : goal.invariant-loop-p
invariant-loop-p l =
    (l.p-iterator.end ≡ 64) × (l.p-iterator.start ≤ 64) × Counted (view l.net) l.fn.self.t l.fn.self.k l.marks l.all l.p-iterator.start

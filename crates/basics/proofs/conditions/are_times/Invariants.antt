use Rattle.std.proofs.Common.{◌≡◌, ◌*◌, ◌==◌, ◌≤◌}
use Rattle.net.specs.States.{view}
use Rattle.checks.specs.Alone.{weight}
use Rattle.theory.specs.Tests.{every}
use Rattle.basics.proofs.conditions.are_times.Given as goal

abbrev pub invariant-loop-p : goal.invariant-loop-p
invariant-loop-p l =
    (l.p-iterator.end ≡ 64) × (l.p-iterator.start ≤ 64)
    × (l.all ≡ every l.p-iterator.start (λ p. weight l.fn.side (view l.net) l.t p == (l.k * weight l.fn.side (view l.net) l.u p)))

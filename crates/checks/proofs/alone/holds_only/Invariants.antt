use Rattle.std.proofs.Common.{◌≡◌, ◌≤◌, ◌==◌, not, nat_eq}
use Rattle.std.specs.Prelude.{slice_index}
use Rattle.theory.specs.Tests.{◌⇒◌, every}
use Rattle.checks.proofs.alone.holds_only.Given as goal

abbrev pub invariant-loop-q : goal.invariant-loop-q
invariant-loop-q l =
    (l.q-iterator.end ≡ 64) × (l.q-iterator.start ≤ 64) × (l.all ≡ every l.q-iterator.start (λ q. not (q == l.p) ⇒ nat_eq (slice_index l.row q) 0))

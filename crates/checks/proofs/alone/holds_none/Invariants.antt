use Rattle.std.proofs.Common.{◌≡◌, false, nat_eq}
use Rattle.std.specs.Prelude.{slice_index, slice_index_or}
use Rattle.theory.specs.Tests.{◌⇒◌, every}
use Rattle.checks.proofs.alone.holds_none.Given as goal

abbrev pub invariant-loop-q : goal.invariant-loop-q
invariant-loop-q l = l.all ≡ every l.q (λ q. slice_index_or l.flags q false ⇒ nat_eq (slice_index l.row q) 0)

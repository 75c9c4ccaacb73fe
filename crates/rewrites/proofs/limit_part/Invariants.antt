use Rattle.std.proofs.Common.{false, get_or}
use Rattle.rewrites.proofs.Limiting.{Looked}
use Rattle.rewrites.proofs.limit_part.Given as goal

abbrev pub invariant-loop-p : goal.invariant-loop-p
invariant-loop-p l = Looked (λ p. get_or l.stays p false) l.initial.part l.part l.p

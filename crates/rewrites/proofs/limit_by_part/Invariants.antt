use Rattle.std.proofs.Common.{◌≡◌, false, get_or, length}
use Rattle.rewrites.specs.Rows.{Limited}
use Rattle.rewrites.proofs.limit_by_part.Given as goal

abbrev pub invariant-loop-part : goal.invariant-loop-part
invariant-loop-part l = Limited l.initial.sheet l.sheet (λ p. get_or l.stays p false) l.part × (length l.sheet ≡ 12352)

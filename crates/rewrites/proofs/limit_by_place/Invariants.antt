use Rattle.std.proofs.Common.{◌≡◌, ◌+◌, ◌*◌, length}
use Rattle.rewrites.specs.Rows.{Limited}
use Rattle.rewrites.proofs.Leaving.{left}
use Rattle.rewrites.proofs.limit_by_place.Given as goal

abbrev pub invariant-loop-p : goal.invariant-loop-p
invariant-loop-p l = Limited l.initial.sheet l.sheet (left l.stays l.p) (1 + 2 * l.n) × (length l.sheet ≡ 12352)

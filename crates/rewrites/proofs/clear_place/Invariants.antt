use Rattle.std.proofs.Common.{◌≡◌, eqb, not, length}
use Rattle.rewrites.specs.Rows.{Limited}
use Rattle.rewrites.proofs.clear_place.Given as goal

abbrev pub invariant-loop-part : goal.invariant-loop-part
invariant-loop-part l = Limited l.initial.sheet l.sheet (λ q. not (eqb q l.p)) l.part × (length l.sheet ≡ 12352)

use Rattle.std.proofs.Common.{◌≡◌, ℕ, ◌+◌, ◌<◌, ◌≤◌, length}
use Rattle.std.specs.Prelude.{slice_index}
use Rattle.rewrites.proofs.move_down.Given as goal

abbrev pub invariant-loop-i : goal.invariant-loop-i
invariant-loop-i l =
    ((k : ℕ) → k < l.i → slice_index l.part k ≡ slice_index l.initial.part (k + 128)) × ((k : ℕ) → l.i ≤ k → slice_index l.part k ≡ slice_index l.initial.part k) × (length l.part ≡ length l.initial.part)

use Rattle.std.proofs.Common.{◌≡◌, ◌-◌, ◌≤◌, true, length, drop}
use Rattle.net.specs.States.{sized}
use Rattle.net.specs.Views.{drafted, SameSheet}
use Rattle.stream.specs.Streams.{read_on}
use Rattle.stream.proofs.fill.Given as goal

abbrev pub invariant-loop-c : goal.invariant-loop-c
invariant-loop-c l =
    (l.at.byte ≤ length l.bytes) × (l.at.count ≤ l.at.byte) × (sized (drafted l.draft) ≡ true)
    × (read_on (length l.bytes - l.at.count) (drafted l.draft) (drop l.at.byte l.bytes) l.at.byte l.at.count
    ≡ read_on (length l.bytes) (drafted l.initial.draft) l.bytes 0 0)
    × SameSheet l.draft.net l.initial.draft.net

abbrev pub decreases-loop-c : goal.decreases-loop-c
decreases-loop-c l = length l.bytes - l.at.byte

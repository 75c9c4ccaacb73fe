use Rattle.std.proofs.Common.{◌≡◌, ◌-◌, ◌≤◌, true, length, drop}
use Rattle.net.specs.States.{sized}
use Rattle.net.specs.Views.{SameSheet}
use Rattle.session.specs.Views.{opened}
use Rattle.session.specs.Feeds.{meaning, fed_from}
use Rattle.session.proofs.session.Session.take_steps.Given as goal

abbrev pub invariant-loop-at : goal.invariant-loop-at
invariant-loop-at g l =
    (l.at.byte ≤ length l.bytes) × (l.at.count ≤ l.at.byte) × (sized (opened l.self) ≡ true)
    × (fed_from (meaning g.B.Book.width_of g.B.Book.taken) (length l.bytes - l.at.count) (opened l.self) (drop l.at.byte l.bytes) l.at.byte l.at.count
    ≡ fed_from (meaning g.B.Book.width_of g.B.Book.taken) (length l.bytes) (opened l.initial.self) l.bytes 0 0)
    × SameSheet l.self.net l.initial.self.net

abbrev pub decreases-loop-at : goal.decreases-loop-at
decreases-loop-at g l = length l.bytes - l.at.byte

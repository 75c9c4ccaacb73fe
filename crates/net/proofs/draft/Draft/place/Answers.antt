use Rattle.std.proofs.Common.{arith}
use Rattle.net.specs.States.{view}
use Rattle.net.specs.Drafts.{place}
use Rattle.net.proofs.Keeps.{answered_sound}
use Rattle.net.proofs.draft.Draft.place.Goals as goal

pub invariant_of-self : goal.invariant_of-self
invariant_of-self c = record { sound = answered_sound (place c.args.mark (omega arith) c.args.flag) _ (view c.place.new.self) (view c.args.self.now.net) c.place.ensures.exact c.args.self.now.sound }

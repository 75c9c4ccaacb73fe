use Rattle.net.specs.States.{view}
use Rattle.net.specs.Drafts.{arc_in}
use Rattle.net.proofs.Keeps.{answered_sound}
use Rattle.net.proofs.draft.Draft.arc_in.Goals as goal

pub invariant_of-self : goal.invariant_of-self
invariant_of-self c = record { sound = answered_sound (arc_in c.args.t c.args.p c.args.weight) _ (view c.arc.new.self) (view c.args.self.now.net) c.arc.ensures.exact c.args.self.now.sound }

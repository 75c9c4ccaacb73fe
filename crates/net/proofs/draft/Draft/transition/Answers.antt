use Rattle.net.specs.States.{view}
use Rattle.net.specs.Drafts.{transition}
use Rattle.net.proofs.Keeps.{answered_sound}
use Rattle.net.proofs.draft.Draft.transition.Goals as goal

pub invariant_of-self : goal.invariant_of-self
invariant_of-self c = record { sound = answered_sound transition _ (view c.transition.new.self) (view c.args.self.now.net) c.transition.ensures.exact c.args.self.now.sound }

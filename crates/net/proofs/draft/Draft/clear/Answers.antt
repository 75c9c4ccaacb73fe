use Rattle.net.specs.States.{view}
use Rattle.net.specs.Drafts.{clear}
use Rattle.net.proofs.Keeps.{answered_sound}
use Rattle.net.proofs.draft.Draft.clear.Goals as goal

pub invariant_of-self : goal.invariant_of-self
invariant_of-self c = record { sound = answered_sound clear _ (view c.clear.new.self) (view c.args.self.now.net) c.clear.ensures.exact c.args.self.now.sound }

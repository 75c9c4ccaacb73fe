use Rattle.net.specs.States.{view}
use Rattle.net.specs.Drafts.{question}
use Rattle.net.proofs.Keeps.{answered_sound}
use Rattle.net.proofs.draft.Draft.question.Goals as goal

pub invariant_of-self : goal.invariant_of-self
invariant_of-self c = record { sound = answered_sound (question c.args.number) _ (view c.ask.new.self) (view c.args.self.now.net) c.ask.ensures.exact c.args.self.now.sound }

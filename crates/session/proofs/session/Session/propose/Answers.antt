use Rattle.std.proofs.Common.{sym, ◌∙◌}
use Rattle.net.specs.States.{view}
use Rattle.session.proofs.Sounds.{placed_ok, measured_sized, answered_sound}
use Rattle.session.proofs.session.Session.propose.Goals as goal

pub invariant_of-self : goal.invariant_of-self
invariant_of-self g c =
    let before = view c.args.self.now.net in
    let right = placed_ok c.check_size.result c.at_place.result c.origin.result tt c.at_place.ensures c.in_ok-at_place.was in
    record {
      sound =
          answered_sound before (measured_sized before (sym c.check_size.ensures ∙ right)) _ (λ t. g.met.B.Book.keeps before t _) _
          (view c.take.new.net) c.take.ensures.exact c.args.self.now.sound;
    }

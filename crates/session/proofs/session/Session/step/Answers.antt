use Rattle.std.proofs.Common.{rules, sym, ◌∙◌}
use Rattle.net.specs.States.{view}
use Rattle.session.specs.Feeds.{meaning}
use Rattle.session.proofs.Sounds.{placed_ok, with_place_ok, answered_sound, answered_sized}
use Rattle.session.proofs.Feeds.{front_by, step_taken}
use Rattle.session.proofs.session.Session.step.Goals as goal

pub invariant_of-self : goal.invariant_of-self
invariant_of-self g c =
    let before = view c.args.self.now.net in
    record {
      sound =
          answered_sound before c.requires _ (λ t. g.met.B.Book.keeps before t _) _ (view c.take.new.net) c.take.ensures.exact
          c.args.self.now.sound;
    }

pub returns : goal.returns
returns g c =
    let before = view c.args.self.now.net in
    let last = view c.take.new.net in
    let n = c.in_ok-length.length in
    let there = placed_ok c.front.result c.at_place.result c.origin.result n c.at_place.ensures c.in_ok-length.was in
    let took = with_place_ok c.take.result c.by_book.result c.args.at tt c.by_book.ensures c.in_ok-by_book.was in
    record {
      exact =
          step_taken (meaning g.B.Book.width_of g.B.Book.taken) last before c.args.bytes.now n c.args.at.byte c.args.at.count c.take.result
          (sym (front_by g.B.Book.width_of c.args.bytes.now c.byte_at.result c.width.result c.width.ensures c.byte_at.ensures)
          ∙ sym c.front.ensures.value ∙ there)
          c.take.ensures.exact took;
      size = answered_sized before c.requires _ (λ t. g.met.B.Book.keeps before t _) _ last c.take.ensures.exact c.args.self.now.sound;
      lent = search rules;
    }

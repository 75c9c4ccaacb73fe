use Rattle.std.proofs.Common.{length, sym, subst, rules}
use Rattle.session.specs.Views.{opened}
use Rattle.session.specs.Feeds.{meaning, fed, FeedAnswered, PlaceWithin}
use Rattle.session.proofs.Faithful.{faithful}
use Rattle.session.proofs.Places.{fed_within}
use Rattle.session.proofs.session.Session.feed.Goals as goal

pub returns-in_err-at_place : goal.returns-in_err-at_place
returns-in_err-at_place g c =
    let m = meaning g.B.Book.width_of g.B.Book.taken in
    let e : FeedAnswered c.from_residual.result (opened c.args.self.now) (fed m (opened c.args.self.now) c.args.bytes.now) = search rules in
    record {
      exact = e;
      within = subst (λ r. PlaceWithin r (length c.args.bytes.now)) (sym e.answer) (fed_within m (opened c.args.self.now) c.args.bytes.now);
      faithful = faithful m g.met.B.Book.keeps;
      lent = search rules;
    }

pub returns : goal.returns
returns g c =
    let m = meaning g.B.Book.width_of g.B.Book.taken in
    let e : FeedAnswered c.take_steps.result (opened c.take_steps.new.self) (fed m (opened c.args.self.now) c.args.bytes.now) = search rules in
    record {
      exact = e;
      within = subst (λ r. PlaceWithin r (length c.args.bytes.now)) (sym e.answer) (fed_within m (opened c.args.self.now) c.args.bytes.now);
      faithful = faithful m g.met.B.Book.keeps;
      lent = search rules;
    }

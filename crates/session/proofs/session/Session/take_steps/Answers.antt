use Rattle.std.proofs.Common.{rules, ◌∙◌}
use Rattle.std.proofs.lemmas.Result.{err_from_is_err_and}
use Rattle.session.specs.Views.{opened}
use Rattle.session.specs.Feeds.{meaning}
use Rattle.session.proofs.Feeds.{feed_again, feed_stops, feed_ends}
use Rattle.session.proofs.session.Session.take_steps.Goals as goal

pub returns-in_err-used-clause-exact : goal.returns-in_err-used-clause-exact
returns-in_err-used-clause-exact g c =
    let m = meaning g.B.Book.width_of g.B.Book.taken in
    let p = err_from_is_err_and c.from_residual.result c.from_residual.ensures.1 in
    let q = feed_stops m c.args.bytes.now (opened c.loop-at.self) c.loop-at.at.byte c.loop-at.at.count _ c.loop-at-test.true c.loop-at.invariant.1
    c.loop-at.invariant.3 (opened c.step.new.self) _ c.in_err-used.ensures.exact in
    record { answer = p.1 ∙ rw p.2 q.answer; state = q.state }

pub loop-at-preserved : goal.loop-at-preserved
loop-at-preserved g c =
    let m = meaning g.B.Book.width_of g.B.Book.taken in
    let q = feed_again m c.args.bytes.now (opened c.loop-at.self) c.loop-at.at.byte c.loop-at.at.count _ c.loop-at-test.true c.loop-at.invariant.1
    c.loop-at.invariant.3 (opened c.step.new.self) c.in_ok-used.used c.in_ok-used.ensures.exact in
    (q.0, q.1, c.in_ok-used.ensures.size, q.2, search rules)

pub returns-clause-exact : goal.returns-clause-exact
returns-clause-exact g c =
    feed_ends (meaning g.B.Book.width_of g.B.Book.taken) c.args.bytes.now (opened c.loop-at.self) c.loop-at.at.byte c.loop-at.at.count _
    c.loop-at-test.false c.loop-at.invariant.3

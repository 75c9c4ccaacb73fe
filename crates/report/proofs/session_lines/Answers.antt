use Rattle.std.proofs.Common.{◌∙◌}
use Rattle.session.specs.Views.{opened}
use Rattle.session.specs.Feeds.{fed}
use Rattle.report.specs.Lines.{house}
use Rattle.report.proofs.Ends.{all_lines}
use Rattle.report.proofs.session_lines.Goals as goal

pub returns : goal.returns
returns c =
    let k = c.feed-said.ensures.exact in
    all_lines _ _ _ c.args.used c.feed-said.result _ _ (fed house (opened c.args.session.now) c.args.rest.now)
    c.in_ok-lines.ensures c.in_ok-place_lines.ensures c.in_ok-arc_lines.ensures k.answer
    (c.net.ensures ∙ k.state) (c.net-2.ensures ∙ k.state)

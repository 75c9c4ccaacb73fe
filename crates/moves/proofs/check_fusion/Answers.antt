use Rattle.std.proofs.Common.{◌≡◌, true, false, sym, ◌∙◌, rules}
use Rattle.net.specs.States.{view}
use Rattle.theory.specs.Rewrites.{fusing}
use Rattle.theory.specs.Steps.{in_limits?}
use Rattle.moves.proofs.Fusing.{fusion_limits}
use Rattle.moves.proofs.check_fusion.Goals as goal

pub returns-then-not-fits : goal.returns-then-not-fits
returns-then-not-fits c =
    let e : in_limits? (fusing c.args.fusion.p c.args.fusion.q (view c.args.net.now)) ≡ false =
    fusion_limits (view c.args.net.now) c.args.fusion.p c.args.fusion.q c.args.fusion.a c.args.fusion.b c.args.net.now.shape.few
    (sym c.carries_both_ways.ensures ∙ c.if-not-carries_both_ways.false)
    c.fits.result c.fits.ensures ∙ c.if-not-fits.true in
    search (rules, e)

pub returns : goal.returns
returns c =
    let e : in_limits? (fusing c.args.fusion.p c.args.fusion.q (view c.args.net.now)) ≡ true =
    fusion_limits (view c.args.net.now) c.args.fusion.p c.args.fusion.q c.args.fusion.a c.args.fusion.b c.args.net.now.shape.few
    (sym c.carries_both_ways.ensures ∙ c.if-not-carries_both_ways.false)
    c.fits.result c.fits.ensures ∙ c.if-not-fits.false in
    search (rules, e)

use Rattle.std.proofs.Common.{ap, ◌∙◌}
use Rattle.std.proofs.lemmas.List.{take_all}
use Rattle.report.specs.Texts.{printed}
use Rattle.report.proofs.Printing.{printed_more}
use Rattle.report.proofs.print.Goals as goal

pub loop-line-preserved : goal.loop-line-preserved
loop-line-preserved c = printed_more c.args.lines.now c.loop-line.line-index _ _ _ c.loop-line-test.true c.loop-line.invariant c.in_ok-print_line.ensures

pub returns : goal.returns
returns c = c.loop-line.invariant ∙ ap printed (take_all c.loop-line.line-index c.args.lines.now c.loop-line-test.false)

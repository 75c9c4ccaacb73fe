use Rattle.std.proofs.Common.{◌≡◌, take, string_bytes}
use Rattle.report.specs.Texts.{printed}
use Rattle.report.proofs.print.Given as goal

abbrev pub invariant-loop-line : goal.invariant-loop-line
invariant-loop-line l = string_bytes l.out ≡ printed (take l.line-index l.lines)

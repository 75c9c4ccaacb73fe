use Rattle.std.proofs.Common.{◌∙◌}
use Rattle.net.specs.States.{view}
use Rattle.theory.specs.Tests.{member}
use Rattle.sets.proofs.Flagging.{falls_same}
use Rattle.sets.proofs.conditions.is_sufficient.Goals as goal

pub returns : goal.returns
returns c = c.fall_outside.ensures ∙ falls_same (view c.args.net.now) _ _ c.flags_outside.ensures (member c.args.set.now)

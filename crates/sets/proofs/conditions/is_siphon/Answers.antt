use Rattle.std.proofs.Common.{◌∙◌}
use Rattle.net.specs.States.{view}
use Rattle.sets.proofs.Flagging.{siphon_same}
use Rattle.sets.proofs.conditions.is_siphon.Goals as goal

pub returns : goal.returns
returns c = c.is_flagged_siphon.ensures ∙ siphon_same (view c.args.net.now) _ _ c.flags_of.ensures

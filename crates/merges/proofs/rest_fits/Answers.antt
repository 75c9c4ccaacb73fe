use Rattle.net.specs.States.{view}
use Rattle.merges.proofs.Limits.{rest_within}
use Rattle.merges.proofs.rest_fits.Goals as goal

pub returns : goal.returns
returns c = rest_within (view c.args.net.now) c.marks_fit.ensures (c.args.net.now.tidy c.requires) c.args.p

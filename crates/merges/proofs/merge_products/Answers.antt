use Rattle.std.proofs.Common.{rules}
use Rattle.net.specs.States.{view}
use Rattle.merges.proofs.Limits.{answered_limit}
use Rattle.merges.proofs.merge_products.Goals as goal

pub returns-clause-exact : goal.returns-clause-exact
returns-clause-exact c =
    answered_limit (view c.args.net.now) c.args.kind c.args.p c.rest_fits.ensures c.requires.size c.requires.counts c.merge.result (view c.merge.new.net)
    c.map_err.result c.merge.ensures.exact (λ e. search rules) (λ e d. search rules)

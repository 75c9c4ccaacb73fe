use Rattle.std.proofs.Common.{rules}
use Rattle.net.specs.States.{view}
use Rattle.rewrites.proofs.Keeping.{keeping_answered}
use Rattle.rewrites.proofs.keep_where.Goals as goal

pub returns-clause-exact : goal.returns-clause-exact
returns-clause-exact g c =
    keeping_answered _ (g.T.Test.holds c.args.test.now (view c.args.net.now))
    (view c.args.net.now) (view c.keep_transitions.new.net) c.keep_transitions.result (λ i. search (rules, c.flags-keep.ensures)) c.keep_transitions.ensures.exact

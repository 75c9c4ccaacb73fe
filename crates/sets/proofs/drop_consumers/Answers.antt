use Rattle.std.proofs.Common.{subst}
use Rattle.net.specs.Looks.{Leaves}
use Rattle.net.specs.States.{State, view}
use Rattle.sets.proofs.Flagging.{kept_same}
use Rattle.sets.proofs.drop_consumers.Goals as goal

pub returns-clause-exact : goal.returns-clause-exact
returns-clause-exact c =
    subst (λ (t : State). Leaves c.keep_where.result (view c.keep_where.new.net) (view c.args.net.now) t)
    (kept_same (view c.args.net.now) _ _ c.flags_of-flags.ensures) c.keep_where.ensures.exact

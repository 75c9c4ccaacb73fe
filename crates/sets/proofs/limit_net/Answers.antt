use Rattle.std.proofs.Common.{subst}
use Rattle.net.specs.Looks.{Leaves}
use Rattle.net.specs.States.{State, view}
use Rattle.theory.specs.Tests.{member}
use Rattle.sets.proofs.Flagging.{kept_same}
use Rattle.sets.proofs.Limiting.{limited_twice}
use Rattle.sets.proofs.limit_net.Goals as goal

pub returns-clause-exact : goal.returns-clause-exact
returns-clause-exact c =
    let kept =
    subst (λ (t : State). Leaves c.keep_where.result (view c.keep_where.new.net) (view c.args.net.now) t)
    (kept_same (view c.args.net.now) _ _ c.flags_outside-outside.ensures) c.keep_where.ensures.exact in
    limited_twice (member c.args.set.now) (view c.args.net.now) (view c.keep_where.new.net) (view c.limit_places.new.net) c.args.net.now.shape.few
    c.keep_where.result c.limit_places.result kept c.in_ok-keep_where.was c.limit_places.ensures.exact

use Rattle.std.proofs.Common.{◌≡◌, ◌∙◌, rules}
use Rattle.net.specs.States.{view}
use Rattle.merges.proofs.Alone.{feeder_apart, feeder_alone}
use Rattle.merges.proofs.conditions.is_free_feeder.Goals as goal

pub returns-then-touches_only : goal.returns-then-touches_only
returns-then-touches_only c =
    let e : c.spares_support.result ≡ feeder_apart (view c.args.net.now) c.args.p c.args.h = search rules in
    e ∙ feeder_alone (view c.args.net.now) c.args.p c.args.h

pub returns-else-touches_only : goal.returns-else-touches_only
returns-else-touches_only c =
    let e : c.if-given-eq1.value ≡ feeder_apart (view c.args.net.now) c.args.p c.args.h = search rules in
    e ∙ feeder_alone (view c.args.net.now) c.args.p c.args.h

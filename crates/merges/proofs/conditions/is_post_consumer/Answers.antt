use Rattle.std.proofs.Common.{◌≡◌, ◌∙◌, rules}
use Rattle.net.specs.States.{view}
use Rattle.merges.proofs.Alone.{consumer_apart, consumer_alone}
use Rattle.merges.proofs.conditions.is_post_consumer.Goals as goal

pub returns-then-touches_only : goal.returns-then-touches_only
returns-then-touches_only c =
    let e : c.spares_support.result ≡ consumer_apart (view c.args.net.now) c.args.p c.args.f = search rules in
    e ∙ consumer_alone (view c.args.net.now) c.args.p c.args.f

pub returns-else-touches_only : goal.returns-else-touches_only
returns-else-touches_only c =
    let e : c.touches_only.result ≡ consumer_apart (view c.args.net.now) c.args.p c.args.f = search rules in
    e ∙ consumer_alone (view c.args.net.now) c.args.p c.args.f

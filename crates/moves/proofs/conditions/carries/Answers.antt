use Rattle.std.proofs.Common.{◌≡◌, ◌∙◌, rules}
use Rattle.net.specs.States.{view}
use Rattle.moves.proofs.Carrying.{carries_apart, carries_both}
use Rattle.moves.proofs.conditions.carries.Goals as goal

pub returns-then-touches_only : goal.returns-then-touches_only
returns-then-touches_only c =
    let e : c.touches_only-then-touches_only.result ≡ carries_apart (view c.args.net.now) c.args.a c.args.p c.args.q = search rules in
    e ∙ carries_both (view c.args.net.now) c.args.a c.args.p c.args.q

pub returns-else-touches_only : goal.returns-else-touches_only
returns-else-touches_only c =
    let e : c.if-put_of-eq1.value ≡ carries_apart (view c.args.net.now) c.args.a c.args.p c.args.q = search rules in
    e ∙ carries_both (view c.args.net.now) c.args.a c.args.p c.args.q

use Rattle.std.proofs.Common.{rules, tests, refl}
use Rattle.std.proofs.lemmas.Iterator.{YieldsList-from_range}
use Rattle.std.proofs.lemmas.Iterator.Search.{all_from_yields_List}
use Rattle.net.specs.States.{view}
use Rattle.theory.specs.Tests.{every, composed_at?}
use Rattle.basics.proofs.conditions.is_composed.Goals as goal

pub returns : goal.returns
unfolding every
returns c =
    let ta = c.weights_of-takes_t.ensures.sized c.requires in
    let tb = c.weights_of-puts_t.ensures.sized c.requires in
    let ua = c.weights_of-takes_u.ensures.sized c.requires in
    let ub = c.weights_of-puts_u.ensures.sized c.requires in
    let va = c.weights_of-takes_v.ensures.sized c.requires in
    let vb = c.weights_of-puts_v.ensures.sized c.requires in
    all_from_yields_List (composed_at? (view c.args.net.now) c.args.t c.args.u c.args.v) _ _ c.all.result c.all.ensures.ran
    (YieldsList-from_range 0 64 64 (search rules) refl) (λ x r q k. search (rules, tests, ta, tb, ua, ub, va, vb))

use Rattle.std.proofs.Common.{rules, subst}
use Rattle.puffinwire.proofs.Sets.{Gathers, starts, grows, room, gathered}
use Rattle.puffinwire.proofs.set_of.Goals as goal

pub loop-flag-init : goal.loop-flag-init
loop-flag-init c = starts _ _ (search rules)

pub overflow_mul-set : goal.overflow_mul-set
overflow_mul-set c =
    let r = room _ _ _ c.in-Some.flag.now c.told-flags (subst (λ left. Gathers c.loop-flag.set left c.args.flags.now) c.in-Some.ensures.steps c.loop-flag.invariant) in
    search (rules, r)

pub overflow_add-set : goal.overflow_add-set
overflow_add-set c =
    let r = room _ _ _ c.in-Some.flag.now c.told-flags (subst (λ left. Gathers c.loop-flag.set left c.args.flags.now) c.in-Some.ensures.steps c.loop-flag.invariant) in
    search (rules, r)

pub loop-flag-preserved : goal.loop-flag-preserved
loop-flag-preserved c =
    let g = grows _ _ _ c.in-Some.flag.now (subst (λ left. Gathers c.loop-flag.set left c.args.flags.now) c.in-Some.ensures.steps c.loop-flag.invariant) in
    rw c.from.ensures g

pub returns : goal.returns
returns c = gathered _ _ _ (search rules) c.loop-flag.invariant

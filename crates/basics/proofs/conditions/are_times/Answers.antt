use Rattle.std.proofs.Common.{◌≡◌, ◌*◌, ◌==◌, ℕ, Bool, arith}
use Rattle.net.specs.declared.net.Side.{Side}
use Rattle.net.specs.States.{State, view}
use Rattle.checks.specs.Alone.{weight}
use Rattle.checks.proofs.Asking.{every_none, every_more, every_done}
use Rattle.basics.proofs.conditions.are_times.Goals as goal

abbrev times_at : Side → State → (t u k p : ℕ) → Bool
times_at d s t u k p = weight d s t p == (k * weight d s u p)

pub loop-p-init : goal.loop-p-init
loop-p-init c =
    let e : c.into_iter-p-iterator.result.start ≡ 0 = cc in
    (cc, omega (arith, e), every_none (times_at c.args.side (view c.args.net.now) c.args.t c.args.u c.args.k) _ e)

pub loop-p-preserved : goal.loop-p-preserved
loop-p-preserved c =
    let s = c.in-Some.ensures.steps in
    let a = c.weights_of-weights.ensures.sized c.requires c.loop-p.p-iterator.start in
    let b = c.weights_of-of.ensures.sized c.requires c.loop-p.p-iterator.start in
    let f = times_at c.args.side (view c.args.net.now) c.args.t c.args.u c.args.k in
    ((cc), omega (arith, s.0, s.1.0, s.1.2, c.loop-p.invariant.0), every_more f c.loop-p.p-iterator.start _ _ _ s.1.2 c.loop-p.invariant.2 (cc))

pub returns : goal.returns
returns c =
    let s = c.in-None.ensures.steps in
    every_done (times_at c.args.side (view c.args.net.now) c.args.t c.args.u c.args.k) c.loop-p.p-iterator.start 64 _
    (omega (arith, s.1.0, c.loop-p.invariant.0, c.loop-p.invariant.1)) c.loop-p.invariant.2

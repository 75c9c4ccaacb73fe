use Rattle.std.proofs.Common.{◌≡◌, ◌+◌, ◌*◌, arith}
use Rattle.net.specs.States.{view}
use Rattle.theory.specs.Tests.{mark_ahead}
use Rattle.moves.proofs.Marks.{counted_none, counted_more, counted_fit, counted_marks}
use Rattle.moves.proofs.ahead.Ahead.marks.Goals as goal

pub loop-p-init : goal.loop-p-init
loop-p-init c =
    let e : c.into_iter-p-iterator.result.start ≡ 0 = cc in
    (cc, omega (arith, e), counted_none (view c.args.net.now) c.args.self.t c.args.self.k _ e)

pub loop-p-preserved : goal.loop-p-preserved
loop-p-preserved c =
    let s = c.in-Some.ensures.steps in
    let p = c.loop-p.p-iterator.start in
    let a = c.marks_of-before.ensures.sized c.requires p in
    let b = c.weights_of-takes.ensures.sized c.requires p in
    let d = c.weights_of-puts.ensures.sized c.requires p in
    let i : c.from.result ≡ p = cc in
    let sum : c.saturating_sub-rest.result + c.from-k.result * c.number_in-in-loop-p-2.result ≡ mark_ahead (view c.args.net.now) c.args.self.t c.args.self.k p = cc in (
      (cc),
      omega (arith, s.0, s.1.0, s.1.2, c.loop-p.invariant.0),
      counted_more (view c.args.net.now) c.args.self.t c.args.self.k c.loop-p.marks c.loop-p.all p _ c.from.result _ _ s.1.2 i (omega (arith, s.1.0, c.loop-p.invariant.0))
          (rw (sum) at c.overflowing_add-mark.ensures.value) (rw (sum) at c.overflowing_add-mark.ensures.overflow) c.loop-p.invariant.2,
    )

pub returns-clause-fit : goal.returns-clause-fit
returns-clause-fit c =
    let s = c.in-None.ensures.steps in
    rw c.then_some.ensures
    (counted_fit (view c.args.net.now) c.args.self.t c.args.self.k c.loop-p.marks c.loop-p.all c.loop-p.p-iterator.start
    (omega (arith, s.1.0, c.loop-p.invariant.0, c.loop-p.invariant.1)) c.loop-p.invariant.2)

pub returns-clause-marks : goal.returns-clause-marks
returns-clause-marks c =
    let s = c.in-None.ensures.steps in
    rw c.then_some.ensures
    (counted_marks (view c.args.net.now) c.args.self.t c.args.self.k c.loop-p.marks c.loop-p.all c.loop-p.p-iterator.start
    (omega (arith, s.1.0, c.loop-p.invariant.0, c.loop-p.invariant.1)) c.loop-p.invariant.2)

use Rattle.std.proofs.Common.{◌≡◌, ◌<◌, arith}
use Rattle.net.specs.States.{view}
use Rattle.checks.proofs.Flagging.{flagged_none, flagged_more}
use Rattle.checks.proofs.nodes.flags.Goals as goal

pub loop-i-init : goal.loop-i-init
loop-i-init g c =
    let e : c.into_iter-i-iterator.result.start ≡ 0 = cc in
    let n : c.into_iter-i-iterator.result.end ≡ g.T.Of.Nodes.count (view c.args.net.now) = cc in
    (n, (omega arith, flagged_none (g.T.Test.holds c.args.test.now (view c.args.net.now)) c.into_iter-i-iterator.result.start e))

pub loop-i-preserved : goal.loop-i-preserved
loop-i-preserved g c =
    let s = c.in-Some.ensures.steps in
    let few : c.loop-i.i-iterator.start < 96 = omega (arith, s.1.0, c.loop-i.invariant.0, g.met.T.Of.Nodes.few c.args.net.now) in
    let i : c.from.result ≡ c.loop-i.i-iterator.start = cc in
    let b : c.test.result ≡ g.T.Test.holds c.args.test.now (view c.args.net.now) c.from.result = cc in (
      (cc),
      (
        omega (arith, s.0, s.1.0, s.1.2),
        flagged_more (g.T.Test.holds c.args.test.now (view c.args.net.now)) c.loop-i.flags c.loop-i.i-iterator.start c.from.result c.test.result c.next.new.self.start
            i b s.1.2 few c.loop-i.invariant.1.1,
      ),
    )

pub returns : goal.returns
returns g c =
    let s = c.in-None.ensures.steps in
    let e : c.loop-i.i-iterator.start ≡ g.T.Of.Nodes.count (view c.args.net.now) = omega (arith, s.1.0, c.loop-i.invariant.0, c.loop-i.invariant.1.0) in
    λ i. let f = c.loop-i.invariant.1.1.flags i in cc

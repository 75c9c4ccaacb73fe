use Rattle.std.proofs.Common.{rules, tests, ◌≡◌, ◌==◌, List, ℕ, Bool, not, nat_eq, arith}
use Rattle.std.specs.Prelude.{slice_index}
use Rattle.theory.specs.Tests.{◌⇒◌}
use Rattle.checks.proofs.Asking.{every_none, every_more, every_done}
use Rattle.checks.proofs.alone.holds_only.Goals as goal

abbrev only_at : List ℕ → (p q : ℕ) → Bool
only_at row p q = not (q == p) ⇒ nat_eq (slice_index row q) 0

pub loop-q-init : goal.loop-q-init
loop-q-init c =
    let e : c.into_iter-q-iterator.result.start ≡ 0 = cc in
    (cc, omega (arith, e), every_none (only_at c.args.row.now c.args.p) _ e)

pub loop-q-preserved : goal.loop-q-preserved
loop-q-preserved c =
    let s = c.in-Some.ensures.steps in
    ((cc), omega (arith, s.0, s.1.0, s.1.2, c.loop-q.invariant.0), every_more (only_at c.args.row.now c.args.p) c.loop-q.q-iterator.start _ _ _ s.1.2 c.loop-q.invariant.2 (search (rules, tests)))

pub returns : goal.returns
returns c =
    let s = c.in-None.ensures.steps in
    every_done (only_at c.args.row.now c.args.p) c.loop-q.q-iterator.start 64 _ (omega (arith, s.1.0, c.loop-q.invariant.0, c.loop-q.invariant.1)) c.loop-q.invariant.2

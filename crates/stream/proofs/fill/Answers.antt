use Rattle.std.proofs.Common.{◌≡◌, rules, ◌+◌, ap, ◌∙◌}
use Rattle.std.proofs.lemmas.Result.{err_from_is_err_and}
use Rattle.net.specs.Views.{drafted}
use Rattle.stream.specs.Streams.{size}
use Rattle.stream.proofs.Filling.{fill_again, fill_ends, fill_stops}
use Rattle.stream.proofs.fill.Goals as goal

pub returns-in_err-c-clause-exact : goal.returns-in_err-c-clause-exact
returns-in_err-c-clause-exact c =
    let i = c.loop-c.invariant in
    let p = err_from_is_err_and c.from_residual.result c.from_residual.ensures.1 in
    rw (p.1, p.2)
    (fill_stops c.args.bytes.now (drafted c.loop-c.draft) (drafted c.step.new.draft) c.loop-c.at.byte c.loop-c.at.count _
    i.3 i.0 i.1 c.in_err-c.field-0.0 i.2 c.in_err-c.ensures.exact)

pub returns-in-End-clause-exact : goal.returns-in-End-clause-exact
returns-in-End-clause-exact c =
    let i = c.loop-c.invariant in
    let e : c.behind-at.result.byte ≡ c.loop-c.at.byte + 2 = c.behind-at.ensures.byte ∙ ap (λ k. c.loop-c.at.byte + size k) c.in-End.is in
    rw e
    (fill_ends c.args.bytes.now (drafted c.loop-c.draft) (drafted c.step.new.draft) c.loop-c.at.byte c.loop-c.at.count _
    i.3 i.0 i.1 c.in-End.field-0 (rw c.in-End.is at c.in_ok-c.ensures.exact))

pub loop-c-preserved : goal.loop-c-preserved
loop-c-preserved c =
    let i = c.loop-c.invariant in
    let q = fill_again c.args.bytes.now (drafted c.loop-c.draft) (drafted c.step.new.draft) c.loop-c.at.byte c.loop-c.at.count _
    i.3 i.0 i.1 c.in_ok-c.c c.in_ok-c.ensures.exact _ _ c.behind-at.ensures.byte c.behind-at.ensures.count c.in_default.not-End in
    (q.0, q.1, q.2, q.3, search rules)

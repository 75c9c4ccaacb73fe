use Rattle.std.proofs.Common.{◌∷◌}
use Rattle.std.proofs.lemmas.Result.{err_from_is_err_and}
use Rattle.net.specs.Refusals.{◌unless◌}
use Rattle.net.specs.States.{view}
use Rattle.theory.specs.declared.refusal.Refusal.TheVariants.{Arcs}
use Rattle.theory.specs.Rewrites.{post_merging}
use Rattle.theory.specs.Tests.{post_consumers?, post_weights?}
use Rattle.merges.specs.Merges.{first_lines, last_lines}
use Rattle.merges.proofs.Judging.{first_refused}
use Rattle.merges.proofs.check_post.Goals as goal

pub returns-in_err-check_place : goal.returns-in_err-check_place
returns-in_err-check_place c =
    let e = err_from_is_err_and c.from_residual.result c.from_residual.ensures.1 in
    first_refused (first_lines (view c.args.net.now) c.args.p)
    (Arcs unless post_consumers? (view c.args.net.now) c.args.p ∷ Arcs unless post_weights? (view c.args.net.now) c.args.p
    ∷ last_lines (view c.args.net.now) c.args.p (post_merging c.args.p (view c.args.net.now)))
    c.from_residual.result e.0 _ e.1 e.2 c.in_err-check_place.ensures

use Rattle.std.proofs.lemmas.Result.{err_from_is_err_and}
use Rattle.net.specs.States.{view}
use Rattle.theory.specs.Rewrites.{post_merging}
use Rattle.merges.specs.Merges.{post_lines, limit_line}
use Rattle.merges.proofs.Judging.{answered_early, answered_late}
use Rattle.merges.proofs.merge_post.Goals as goal

pub returns-in_err-check_post-clause-exact : goal.returns-in_err-check_post-clause-exact
returns-in_err-check_post-clause-exact c =
    let s = view c.args.net.now in
    let e = err_from_is_err_and c.from_residual.result c.from_residual.ensures.1 in
    answered_early (post_lines s c.args.p) (limit_line (post_merging c.args.p s)) s (post_merging c.args.p s) c.from_residual.result e.0 _ e.1 e.2
    c.in_err-check_post.ensures

pub returns-clause-exact : goal.returns-clause-exact
returns-clause-exact c =
    let s = view c.args.net.now in
    answered_late (post_lines s c.args.p) (limit_line (post_merging c.args.p s)) s (view c.merge_products.new.net) (post_merging c.args.p s) c.merge_products.result
    c.in_ok-check_post.ensures c.merge_products.ensures.exact

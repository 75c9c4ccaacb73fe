use Rattle.std.proofs.lemmas.Result.{err_from_is_err_and}
use Rattle.net.specs.States.{view}
use Rattle.theory.specs.Rewrites.{pre_merging}
use Rattle.merges.specs.Merges.{free_lines, limit_line}
use Rattle.merges.proofs.Judging.{answered_early, answered_late}
use Rattle.merges.proofs.merge_free.Goals as goal

pub returns-in_err-check_free-clause-exact : goal.returns-in_err-check_free-clause-exact
returns-in_err-check_free-clause-exact c =
    let s = view c.args.net.now in
    let e = err_from_is_err_and c.from_residual.result c.from_residual.ensures.1 in
    answered_early (free_lines s c.args.p) (limit_line (pre_merging c.args.p s)) s (pre_merging c.args.p s) c.from_residual.result e.0 _ e.1 e.2
    c.in_err-check_free.ensures

pub returns-clause-exact : goal.returns-clause-exact
returns-clause-exact c =
    let s = view c.args.net.now in
    answered_late (free_lines s c.args.p) (limit_line (pre_merging c.args.p s)) s (view c.merge_products.new.net) (pre_merging c.args.p s) c.merge_products.result
    c.in_ok-check_free.ensures c.merge_products.ensures.exact

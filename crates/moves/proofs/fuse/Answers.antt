use Rattle.std.proofs.Common.{Err, sym, ap, ◌∙◌}
use Rattle.std.proofs.lemmas.Result.{err_from_is_err_and}
use Rattle.net.specs.States.{view}
use Rattle.net.proofs.Tables.{passed}
use Rattle.theory.specs.Rewrites.{fusing}
use Rattle.theory.specs.Steps.{table, fuse_places}
use Rattle.moves.proofs.Leaving.{left_next}
use Rattle.moves.proofs.Fusing.{fusion_passed}
use Rattle.moves.proofs.fuse.Goals as goal

pub returns-in_err-check_fusion-clause-answer : goal.returns-in_err-check_fusion-clause-answer
returns-in_err-check_fusion-clause-answer c =
    let e = err_from_is_err_and c.from_residual.result c.from_residual.ensures.1 in
    e.1 ∙ ap (λ r. Err r) e.2 ∙ c.in_err-check_fusion.ensures

pub fuse_net-requires-clause-sums : goal.fuse_net-requires-clause-sums
fuse_net-requires-clause-sums c =
    let s = view c.args.net.now in
    let x = c.args.fusion in
    fusion_passed s x.p x.q x.a x.b c.args.net.now.shape.few (passed (table s (fuse_places x.p x.q x.a x.b)) tt tt (sym c.in_ok-check_fusion.ensures)).0

pub returns-clause-taken : goal.returns-clause-taken
returns-clause-taken c =
    let s = view c.args.net.now in
    let x = c.args.fusion in
    left_next s c.requires c.fuse_net.result (view c.fuse_net.new.net) (fusing x.p x.q s) c.fuse_net.ensures.exact

use Rattle.std.proofs.Common.{sym, ◌∙◌}
use Rattle.std.proofs.lemmas.Result.{err_from_is_err_and}
use Rattle.net.specs.Looks.{sheet_checks}
use Rattle.net.specs.States.{view}
use Rattle.net.proofs.Tables.{passed}
use Rattle.theory.specs.Steps.{table, next}
use Rattle.books.specs.House.{plain}
use Rattle.books.proofs.Owning.{bytes_refused, read_own, step_done, step_refused}
use Rattle.products.proofs.Replacing.{answered}
use Rattle.merges.proofs.Judging.{table_passed, table_refused}
use Rattle.merges.proofs.MergesBook.take.Goals as goal

pub returns-in_err-step-clause-exact : goal.returns-in_err-step-clause-exact
returns-in_err-step-clause-exact c =
    let p = err_from_is_err_and c.from_residual-in_err-step.result c.from_residual-in_err-step.ensures.1 in
    let q = bytes_refused 0x2a 0x2c (view c.args.net.now) c.args.step.now c.in_ok-check_size.ensures _ c.in_err-step.ensures in
    record { answer = p.1 ∙ rw p.2 q.answer; state = q.state }

pub merge_by-requires-clause-own : goal.merge_by-requires-clause-own
merge_by-requires-clause-own c = read_own 0x2a 0x2c c.args.step.now (plain c.in_ok-step.step) c.in_ok-step.ensures

pub returns-in_err-merge_by-clause-exact : goal.returns-in_err-merge_by-clause-exact
returns-in_err-merge_by-clause-exact c =
    let s = view c.args.net.now in
    let x = plain c.in_ok-step.step in
    let p = err_from_is_err_and c.from_residual-in_err-merge_by.result c.from_residual-in_err-merge_by.ensures.1 in
    let r = table_refused (table s x) s (view c.merge_by.new.net) (next s x) c.merge_by.result c.merge_by.ensures.exact _ c.in_err-merge_by.was in
    let q = step_refused 0x2a 0x2c s c.args.step.now c.in_ok-check_size.ensures x c.in_ok-step.ensures _ r.0 in
    record { answer = p.1 ∙ rw p.2 q.answer; state = r.1 ∙ q.state }

pub returns-clause-exact : goal.returns-clause-exact
returns-clause-exact c =
    let s = view c.args.net.now in
    let x = plain c.in_ok-step.step in
    let r = table_passed (table s x) s (view c.merge_by.new.net) (next s x) c.merge_by.result c.merge_by.ensures.exact c.in_ok-merge_by.was in
    let sized = (passed (sheet_checks s) tt tt (sym c.in_ok-check_size.ensures)).0.0 in
    step_done 0x2a 0x2c s c.args.step.now c.in_ok-check_size.ensures x c.in_ok-step.ensures _ (view c.merge_by.new.net) r.0
    (answered s (view c.merge_by.new.net) (next s x) sized r.1)

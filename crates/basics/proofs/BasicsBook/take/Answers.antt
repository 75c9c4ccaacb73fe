use Rattle.std.proofs.Common.{sym, ◌∙◌}
use Rattle.std.proofs.lemmas.Result.{err_from_is_err_and}
use Rattle.net.specs.States.{view}
use Rattle.net.proofs.Tables.{passed}
use Rattle.theory.specs.Steps.{table}
use Rattle.books.specs.House.{plain}
use Rattle.books.proofs.Owning.{bytes_refused, read_own, step_done, step_refused}
use Rattle.basics.proofs.BasicsBook.take.Goals as goal

pub returns-in_err-step-clause-exact : goal.returns-in_err-step-clause-exact
returns-in_err-step-clause-exact c =
    let p = err_from_is_err_and c.from_residual-in_err-step.result c.from_residual-in_err-step.ensures.1 in
    let q = bytes_refused 0x20 0x27 (view c.args.net.now) c.args.step.now c.in_ok-check_size.ensures _ c.in_err-step.ensures in
    record { answer = p.1 ∙ rw p.2 q.answer; state = q.state }

pub check-requires-clause-own : goal.check-requires-clause-own
check-requires-clause-own c = read_own 0x20 0x27 c.args.step.now (plain c.in_ok-step.step) c.in_ok-step.ensures

pub returns-in_err-check-clause-exact : goal.returns-in_err-check-clause-exact
returns-in_err-check-clause-exact c =
    let p = err_from_is_err_and c.from_residual-in_err-check.result c.from_residual-in_err-check.ensures.1 in
    let q = step_refused 0x20 0x27 (view c.args.net.now) c.args.step.now c.in_ok-check_size.ensures (plain c.in_ok-step.step) c.in_ok-step.ensures _ c.in_err-check.ensures in
    record { answer = p.1 ∙ rw p.2 q.answer; state = q.state }

pub rewrite-requires-clause-own : goal.rewrite-requires-clause-own
rewrite-requires-clause-own c = read_own 0x20 0x27 c.args.step.now (plain c.in_ok-step.step) c.in_ok-step.ensures

pub rewrite-requires-clause-passes : goal.rewrite-requires-clause-passes
rewrite-requires-clause-passes c = (passed (table (view c.args.net.now) (plain c.in_ok-step.step)) tt tt (sym c.in_ok-check.ensures)).0

pub returns-clause-exact : goal.returns-clause-exact
returns-clause-exact c =
    step_done 0x20 0x27 (view c.args.net.now) c.args.step.now c.in_ok-check_size.ensures (plain c.in_ok-step.step) c.in_ok-step.ensures
    c.rewrite.result (view c.rewrite.new.net) c.in_ok-check.ensures c.rewrite.ensures.exact

use Rattle.std.proofs.Common.{Ok, refl, sym, ◌∙◌}
use Rattle.std.proofs.lemmas.Result.{err_from_is_err_and}
use Rattle.net.specs.States.{view}
use Rattle.theory.specs.Steps.{next}
use Rattle.books.specs.House.{plain}
use Rattle.books.proofs.Owning.{bytes_refused, read_own, step_done, step_refused}
use Rattle.moves.proofs.Leaving.{asked_size, size_asked}
use Rattle.moves.proofs.MovesBook.take.Goals as goal

pub returns-in_err-step-clause-exact : goal.returns-in_err-step-clause-exact
returns-in_err-step-clause-exact c =
    let p = err_from_is_err_and c.from_residual-in_err-step.result c.from_residual-in_err-step.ensures.1 in
    let q = bytes_refused 0x2d 0x2e (view c.args.net.now) c.args.step.now c.in_ok-check_size.ensures _ c.in_err-step.ensures in
    record { answer = p.1 ∙ rw p.2 q.answer; state = q.state }

pub move_by-requires-clause-own : goal.move_by-requires-clause-own
move_by-requires-clause-own c = read_own 0x2d 0x2e c.args.step.now (plain c.in_ok-step.step) c.in_ok-step.ensures

pub returns-in_err-move_by-clause-exact : goal.returns-in_err-move_by-clause-exact
returns-in_err-move_by-clause-exact c =
    let p = err_from_is_err_and c.from_residual-in_err-move_by.result c.from_residual-in_err-move_by.ensures.1 in
    let q = step_refused 0x2d 0x2e (view c.args.net.now) c.args.step.now c.in_ok-check_size.ensures (plain c.in_ok-step.step) c.in_ok-step.ensures _ c.in_err-move_by.ensures.answer in
    record { answer = p.1 ∙ rw p.2 q.answer; state = c.in_err-move_by.ensures.same ∙ q.state }

pub returns-clause-exact : goal.returns-clause-exact
returns-clause-exact c =
    let s = view c.args.net.now in
    let x = plain c.in_ok-step.step in
    let t = view c.move_by.new.net in
    step_done 0x2d 0x2e s c.args.step.now c.in_ok-check_size.ensures x c.in_ok-step.ensures (Ok tt) t c.in_ok-move_by.ensures.answer
    (size_asked s (next s x) t (Ok tt) (asked_size s (sym c.in_ok-check_size.ensures)) (refl, c.in_ok-move_by.ensures.taken))

use Rattle.std.proofs.Common.{◌∙◌, get_or, sym, refl}
use Rattle.net.specs.Looks.{sheet_checks}
use Rattle.net.specs.States.{view, rows}
use Rattle.rewrites.proofs.Marking.{length_rows_in, marked_tidy, marked_all}
use Rattle.rewrites.proofs.Sized.{size, answered, rewritten_is}
use Rattle.rewrites.proofs.marks.write_marks.Goals as goal

pub invariant_of-net : goal.invariant_of-net
invariant_of-net c =
    record {
      tidy = λ e.
          marked_tidy c.args.net.now.shape.transitions c.args.net.now.sheet.now c.args.marks.now c.mark_rows.new.sheet
          (c.args.net.now.tidy (size (view c.args.net.now) (sym c.check_size.ensures ∙ c.in_ok-check_size.was))) c.mark_rows.ensures.size
          c.mark_rows.ensures.front c.mark_rows.ensures.rows;
    }

pub returns-clause-exact : goal.returns-clause-exact
returns-clause-exact c =
    let s = view c.args.net.now in
    let n = c.args.net.now.shape.transitions in
    let asked = sym c.check_size.ensures ∙ c.in_ok-check_size.was in
    answered s (sheet_checks s) asked _ _
    (rewritten_is s c.mark_rows.new.sheet n (λ p. get_or c.args.marks.now p 0) (rows s) s.standing s.standing
    (marked_all n s.sheet c.args.marks.now c.mark_rows.new.sheet (c.args.net.now.tidy (size s asked)) c.mark_rows.ensures.size c.mark_rows.ensures.front
    c.mark_rows.ensures.rows) (sym (length_rows_in s.sheet n)) refl)

use Rattle.std.proofs.Common.{◌-◌, ◌∙◌, length, drop, get_or, sym, ap, arith}
use Rattle.std.proofs.lemmas.List.{get_or-append_right, get_or-drop, length-take-le}
use Rattle.rewrites.proofs.marks.mark_rows.Goals as goal

pub slice_bounds-copy_from_slice-end-2 : goal.slice_bounds-copy_from_slice-end-2
slice_bounds-copy_from_slice-end-2 c = sym (length-take-le 64 c.args.sheet.now (omega (arith, c.requires)))

pub copy_from_slice-requires : goal.copy_from_slice-requires
copy_from_slice-requires c = length-take-le 64 c.args.sheet.now (omega (arith, c.requires)) ∙ sym c.told-marks

pub returns-clause-rows : goal.returns-clause-rows
returns-clause-rows c = λ i h.
    get_or-append_right c.copy_from_slice.new.self (drop 64 c.args.sheet.now) 64 i 0 (ap length c.copy_from_slice.ensures.after ∙ c.told-marks) h
    ∙ get_or-drop 64 c.args.sheet.now (i - 64) 0 ∙ ap (λ j. get_or c.args.sheet.now j 0) (omega arith)

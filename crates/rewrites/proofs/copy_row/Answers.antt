use Rattle.std.proofs.Common.{◌+◌, ◌-◌, ◌*◌, ◌∙◌, drop, sym, arith}
use Rattle.std.proofs.lemmas.List.{length-take-le, length-drop}
use Rattle.rewrites.proofs.Copying.{copied_row, copied_after}
use Rattle.rewrites.proofs.copy_row.Goals as goal

pub slice_bounds-copy_from_slice-end-then-to-from-2 : goal.slice_bounds-copy_from_slice-end-then-to-from-2
slice_bounds-copy_from_slice-end-then-to-from-2 c = sym (length-take-le 128 c.split_at_mut-front.result.1.now (omega arith))

pub copy_from_slice-requires : goal.copy_from_slice-requires
copy_from_slice-requires c =
    let a = c.row_at-then-to-from.result.start in
    let k = c.row_at-then-to-from.result.end - c.row_at-then-to-from.result.start in
    length-take-le k (drop a c.split_at_mut-front.result.0.now) (omega (arith, length-drop a c.split_at_mut-front.result.0.now))
    ∙ omega (arith, length-take-le 128 c.split_at_mut-front.result.1.now (omega arith))

pub returns-then-to-from-clause-row : goal.returns-then-to-from-clause-row
returns-then-to-from-clause-row c = λ j h.
    copied_row c.args.sheet.now c.split_at_mut-front.result.0.now c.split_at_mut-front.result.1.now c.copy_from_slice.new.self c.row_at.result.start
    c.row_at-then-to-from.result.start (c.row_at-then-to-from.result.end - c.row_at-then-to-from.result.start)
    c.split_at_mut-front.ensures.front c.split_at_mut-front.ensures.back c.copy_from_slice.ensures.after (omega arith) (omega arith) (omega arith) j
    (64 + 128 * c.args.to + j) (64 + 128 * c.args.from + j) h (omega arith) (omega arith)

pub returns-then-to-from-clause-after : goal.returns-then-to-from-clause-after
returns-then-to-from-clause-after c = λ i h.
    copied_after c.args.sheet.now c.split_at_mut-front.result.0.now c.split_at_mut-front.result.1.now c.copy_from_slice.new.self c.row_at.result.start
    c.row_at-then-to-from.result.start (c.row_at-then-to-from.result.end - c.row_at-then-to-from.result.start)
    c.split_at_mut-front.ensures.front c.split_at_mut-front.ensures.back c.copy_from_slice.ensures.after (omega arith) (omega arith) (omega arith) i (omega arith)

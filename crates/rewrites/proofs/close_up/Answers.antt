use Rattle.std.proofs.Common.{rules, ◌≡◌, false, length, get_or, refl, subst, arith}
use Rattle.theory.specs.Tests.{those}
use Rattle.rewrites.specs.Rows.{Closed}
use Rattle.rewrites.proofs.Closing.{closed_none, turned_kept, turned_left}
use Rattle.rewrites.proofs.close_up.Goals as goal
use Rattle.rewrites.proofs.close_up.Goals.{then-keep-t, else-keep-t}

pub loop-t-init : goal.loop-t-init
loop-t-init c = (closed_none c.args.sheet.now, refl, omega arith, c.requires.0)

pub copy_row-requires : goal.copy_row-requires
copy_row-requires c = (c.loop-t.invariant.3, (omega (arith, c.requires.1, c.loop-t-test.true), c.loop-t.invariant.2))

pub overflow_add-kept : goal.overflow_add-kept
overflow_add-kept c = omega (arith, c.requires.1, c.loop-t-test.true, c.loop-t.invariant.2)

pub loop-t-preserved : goal.loop-t-preserved
loop-t-preserved c =
    elim c.if-keep-t.branch [
      | then-keep-t w ↦ rw (w.sheet-is, w.kept-is) (turned_kept (λ t. get_or c.args.keep.now t false) c.args.sheet.now c.loop-t.sheet w.copy_row.new.sheet c.loop-t.kept c.loop-t.t c.loop-t.invariant (search rules) w.copy_row.ensures.row w.copy_row.ensures.before w.copy_row.ensures.after w.copy_row.ensures.size)
      | else-keep-t w ↦ rw (w.sheet-is, w.kept-is) (turned_left (λ t. get_or c.args.keep.now t false) c.args.sheet.now c.loop-t.sheet c.loop-t.kept c.loop-t.t c.loop-t.invariant (search rules))
    ]

pub returns-clause-closed : goal.returns-clause-closed
returns-clause-closed c =
    subst (λ n. Closed c.args.sheet.now c.loop-t.sheet (those (λ t. get_or c.args.keep.now t false) n)) (omega arith) c.loop-t.invariant.0

pub returns-clause-count : goal.returns-clause-count
returns-clause-count c =
    subst (λ n. c.loop-t.kept ≡ length (those (λ t. get_or c.args.keep.now t false) n)) (omega arith) c.loop-t.invariant.1

use Rattle.std.proofs.Common.{length, sym, ap}
use Rattle.rewrites.proofs.Closing.{kept_same, kept_none}
use Rattle.rewrites.proofs.Those.{those_same, those_none}
use Rattle.rewrites.proofs.keep_row.Goals as goal

pub returns-then-t-n-clause-kept : goal.returns-then-t-n-clause-kept
returns-then-t-n-clause-kept c =
    kept_none c.args.sheet.now c.wipe_rows.new.sheet c.args.t c.args.n c.if-t-n.true c.wipe_rows.ensures.before c.wipe_rows.ensures.wiped
    c.wipe_rows.ensures.after

pub returns-then-t-n-clause-count : goal.returns-then-t-n-clause-count
returns-then-t-n-clause-count c = ap length (sym (those_none c.args.t c.args.n c.if-t-n.true))

pub returns-clause-kept : goal.returns-clause-kept
returns-clause-kept c =
    kept_same c.args.sheet.now c.copy_row.new.sheet c.wipe_rows-2.new.sheet c.args.t c.args.n c.if-t-n.false c.copy_row.ensures.row
    c.copy_row.ensures.before c.copy_row.ensures.after c.wipe_rows-2.ensures.before c.wipe_rows-2.ensures.wiped c.wipe_rows-2.ensures.after

pub returns-clause-count : goal.returns-clause-count
returns-clause-count c = ap length (sym (those_same c.args.t c.args.n c.if-t-n.false))

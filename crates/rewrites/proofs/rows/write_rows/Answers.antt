use Rattle.std.proofs.Common.{◌∙◌, arith}
use Rattle.rewrites.proofs.Appending.{appended_at, written_few}
use Rattle.rewrites.proofs.rows.write_rows.Goals as goal

pub returns-clause-appended : goal.returns-clause-appended
returns-clause-appended c =
    appended_at c.args.sheet.now c.write_weights.new.numbers c.args.rows.now c.args.n c.row_at-from.result.start _ c.told-rows c.requires.0 c.requires.1
    c.row_at-from.ensures.0 (omega (arith, c.as_flattened-weights.ensures.len)) (c.write_weights.ensures.copied ∙ c.as_flattened-weights.ensures.value)
    (omega arith)

pub returns-clause-few : goal.returns-clause-few
returns-clause-few c = λ i l h.
    written_few c.args.sheet.now c.write_weights.new.numbers c.row_at-from.result.start _ i c.write_weights.ensures.few (omega arith) (omega arith)
    (omega (arith, c.as_flattened-weights.ensures.len)) (omega arith)

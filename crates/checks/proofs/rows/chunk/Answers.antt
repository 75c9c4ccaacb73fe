use Rattle.std.proofs.Common.{refl}
use Rattle.checks.proofs.Lending.{none_whole, chunk_whole}
use Rattle.checks.proofs.rows.chunk.Goals as goal

pub returns-then-sheet-from : goal.returns-then-sheet-from
returns-then-sheet-from c = λ p. none_whole c.args.sheet.now c.args.from p c.if-sheet-from.true

pub returns : goal.returns
returns c =
    let x = c.first_chunk.ensures.cases in
    let y = rw c.unwrap.ensures at x in
    chunk_whole c.args.sheet.now c.unwrap.result.now _ c.args.from c.if-sheet-from.false refl y.same

use Rattle.std.proofs.Common.{◌≡◌, ℕ, ◌+◌, ◌*◌, ◌<◌, ◌∙◌, get_or, arith, refl}
use Rattle.products.proofs.Numbers.{row_numbers, chunk_at}
use Rattle.products.proofs.weights.row_of.Goals as goal

read : (c : goal.After-unwrap) (j : ℕ) → j < 128 → get_or c.unwrap.result.now j 0 ≡ get_or c.args.net.now.sheet.now (64 + 128 * c.args.t + j) 0
read c j l =
    let x = c.first_chunk.ensures.cases in
    let y = rw c.unwrap.ensures at x in
    chunk_at c.args.net.now.sheet.now c.unwrap.result.now c.base.result _ c.args.t j c.requires.0 c.requires.1 c.base.ensures refl y.same l

pub returns-clause-numbers : goal.returns-clause-numbers
returns-clause-numbers c = λ j l. read c j l ∙ row_numbers c.args.net.now.sheet.now c.args.t j l

pub returns-clause-few : goal.returns-clause-few
returns-clause-few c = λ j l. omega (arith, read c j l, (c.args.net.now.tidy c.requires.0).weights (64 + 128 * c.args.t + j) (omega arith))

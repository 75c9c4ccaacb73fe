use Rattle.std.proofs.Common.{◌≡◌, ◌+◌, ◌*◌, subst, sym, rules}
use Rattle.moves.specs.Columns.{SumsFit, Added}
use Rattle.moves.proofs.add_place.Goals as goal

pub add_parts-requires-clause-sums : goal.add_parts-requires-clause-sums
add_parts-requires-clause-sums c =
    let e : c.in_ok-sheet.sheet.now ≡ c.args.sheet.now = search rules in
    subst (λ xs. SumsFit xs c.args.n c.args.p c.args.q) (sym e) c.requires.sums

pub returns-clause-added : goal.returns-clause-added
returns-clause-added c =
    let e : c.in_ok-sheet.sheet.now ≡ c.args.sheet.now = search rules in
    subst (λ xs. Added xs c.add_parts.new.sheet (1 + 2 * c.args.n) c.args.p c.args.q) e c.add_parts.ensures

use Rattle.std.proofs.Common.{ap, sym, leb, ◌∙◌, cond, Some, None}
use Rattle.std.specs.List.{list_all}
use Rattle.net.specs.States.{view}
use Rattle.products.specs.Products.{pair_row}
use Rattle.products.proofs.Fitting.{numbers_fit}
use Rattle.products.proofs.pairs.Pair.row.Goals as goal

pub returns : goal.returns
returns c =
    let e = numbers_fit (pair_row c.args.self (view c.args.net.now)) in
    rw (sym e) (c.limited.ensures ∙ ap (λ xs. cond (list_all (λ w. leb w 65535) xs) (Some xs) None) c.wide_row.ensures)

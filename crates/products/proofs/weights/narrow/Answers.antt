use Rattle.std.proofs.Common.{rules, ◌∙◌, get_or, sym, arith}
use Rattle.std.proofs.lemmas.List.{ext_get_or}
use Rattle.checks.proofs.Made.{made}
use Rattle.products.proofs.weights.narrow.Goals as goal

pub returns : goal.returns
returns c =
    ext_get_or 0 c.from_fn.result c.args.row.now (c.from_fn.ensures.items.long ∙ sym c.told-row)
    (λ j h. made (λ k. get_or c.args.row.now k 0) (λ k y q e. search rules) c.from_fn.result 128 c.from_fn.ensures.items j 0 (omega (arith, c.from_fn.ensures.items.long)))

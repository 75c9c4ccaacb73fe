use Rattle.std.proofs.Common.{◌∙◌, sym, arith}
use Rattle.net.specs.States.{view}
use Rattle.products.specs.Products.{Roomy}
use Rattle.products.proofs.Allowing.{allowed_pairs}
use Rattle.products.proofs.merge.Goals as goal

pub merge_within-requires : goal.merge_within-requires
merge_within-requires c =
    let s = view c.args.net.now in
    let roomy : Roomy c.args.kind c.args.p s = sym (sym (c.check_room.ensures c.args.kind) ∙ c.in_ok-check_room.was) in
    (c.tally_of-tally.ensures, roomy, allowed_pairs c.args.kind c.args.p s roomy, omega arith)

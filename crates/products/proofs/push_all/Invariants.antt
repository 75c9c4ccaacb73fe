use Rattle.std.proofs.Common.{◌≡◌, map, take, true}
use Rattle.net.specs.States.{view}
use Rattle.theory.specs.Tests.{consumers}
use Rattle.theory.specs.Rewrites.{crossed}
use Rattle.products.specs.Products.{product_row, numbers, feeders_fit?}
use Rattle.products.proofs.push_all.Given as goal

abbrev pub invariant-loop-i : goal.invariant-loop-i
invariant-loop-i g l =
    (feeders_fit? l.kind (view l.net) l.fn.p (take l.i l.feeding) (consumers (view l.net) l.fn.p) ≡ true)
    × (l.rows.items ≡ map numbers (crossed (product_row l.kind (view l.net) l.fn.p) (take l.i l.feeding) (consumers (view l.net) l.fn.p)))

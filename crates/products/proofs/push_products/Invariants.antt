use Rattle.std.proofs.Common.{◌≡◌, ◌++◌, map, take, true}
use Rattle.net.specs.States.{view}
use Rattle.products.specs.Products.{product_row, numbers, consumers_fit?}
use Rattle.products.proofs.push_products.Given as goal

abbrev pub invariant-loop-i : goal.invariant-loop-i
invariant-loop-i g l =
    (consumers_fit? l.kind (view l.net) l.fn.p l.h (take l.i l.consuming) ≡ true)
    × (l.rows.items ≡ l.initial.rows.items ++ map (λ f. numbers (product_row l.kind (view l.net) l.fn.p l.h f)) (take l.i l.consuming))

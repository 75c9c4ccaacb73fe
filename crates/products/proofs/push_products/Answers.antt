use Rattle.std.proofs.Common.{get_or, length, ap, arith}
use Rattle.net.specs.States.{view}
use Rattle.theory.specs.Tests.{consumer?}
use Rattle.rewrites.proofs.Those.{those_at}
use Rattle.products.proofs.push_products.Goals as goal

pub row-requires : goal.row-requires
row-requires g c =
    let at = those_at (consumer? (view c.args.net.now) c.args.p) c.args.net.now.shape.transitions c.loop-i.i 0 (omega (arith, ap length c.requires.2)) in
    (c.requires.0, c.requires.1, omega (arith, at.1, ap (λ l. get_or l c.loop-i.i 0) c.requires.2, c.args.net.now.shape.few))

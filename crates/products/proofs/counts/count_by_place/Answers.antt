use Rattle.std.proofs.Common.{◌≡◌, ◌∙◌, length, ap, refl, arith}
use Rattle.net.specs.States.{view}
use Rattle.theory.specs.Tests.{those, feeder?, consumer?}
use Rattle.products.specs.Products.{apart?}
use Rattle.products.proofs.Crossing.{counted_more, merged_count}
use Rattle.products.proofs.counts.count_by_place.Goals as goal

pub loop-t-preserved : goal.loop-t-preserved
loop-t-preserved c =
    let s = view c.args.net.now in
    let p = c.args.p in
    let t = c.loop-t.t in (
      counted_more (feeder? s p) t c.loop-t.feeders c.from-feeders.result (feeder? s p t) c.loop-t.invariant.0 (cc) refl,
      counted_more (consumer? s p) t c.loop-t.consumers c.from-consumers.result (consumer? s p t) c.loop-t.invariant.1 (cc) refl,
      counted_more (apart? s p) t c.loop-t.rest c.from-rest.result (apart? s p t) c.loop-t.invariant.2 (cc) refl,
    )

pub returns-clause-after : goal.returns-clause-after
returns-clause-after c = λ product.
    let s = view c.args.net.now in
    let whole : c.loop-t.t ≡ c.args.net.now.shape.transitions = omega arith in
    merged_count product c.args.p s c.loop-t.rest _ (c.loop-t.invariant.2.0 ∙ ap (λ n. length (those (apart? s c.args.p) n)) whole) refl

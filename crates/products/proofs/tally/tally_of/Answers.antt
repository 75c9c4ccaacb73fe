use Rattle.std.proofs.Common.{◌≡◌, ◌∙◌, length, ap, refl, arith}
use Rattle.net.specs.States.{view}
use Rattle.theory.specs.Tests.{those, feeder?, consumer?}
use Rattle.rewrites.proofs.Those.{those_more}
use Rattle.products.specs.Products.{apart?}
use Rattle.products.proofs.Crossing.{at_most, counted_more, merged_count}
use Rattle.products.proofs.tally.tally_of.Goals as goal

pub push_where-requires : goal.push_where-requires
push_where-requires c =
    omega (arith, ap length c.loop-t.invariant.0, at_most (feeder? (view c.args.net.now) c.args.p) c.loop-t.t, c.args.net.now.shape.few)

pub push_where-requires-in-loop-t : goal.push_where-requires-in-loop-t
push_where-requires-in-loop-t c =
    omega (arith, ap length c.loop-t.invariant.1, at_most (consumer? (view c.args.net.now) c.args.p) c.loop-t.t, c.args.net.now.shape.few)

pub loop-t-preserved : goal.loop-t-preserved
loop-t-preserved c =
    let s = view c.args.net.now in
    let p = c.args.p in
    let t = c.loop-t.t in
    let feeding = those_more (feeder? s p) t in
    let consuming = those_more (consumer? s p) t in (
      (cc),
      (cc),
      counted_more (apart? s p) t c.loop-t.rest c.from-rest.result (apart? s p t) c.loop-t.invariant.2 (cc) refl,
    )

pub returns : goal.returns
returns c =
    let s = view c.args.net.now in
    let whole : c.loop-t.t ≡ c.args.net.now.shape.transitions = omega arith in
    record {
      feeding = c.loop-t.invariant.0 ∙ ap (those (feeder? s c.args.p)) whole;
      consuming = c.loop-t.invariant.1 ∙ ap (those (consumer? s c.args.p)) whole;
      few = omega (arith, c.loop-t.invariant.2.1, c.args.net.now.shape.few);
      after = λ product.
          merged_count product c.args.p s c.loop-t.rest _ (c.loop-t.invariant.2.0 ∙ ap (λ n. length (those (apart? s c.args.p) n)) whole) refl;
    }

use Rattle.std.proofs.Common.{length-set, ◌≡◌, ◌+◌, ◌*◌, ◌<◌, ◌≤◌, ◌∙◌, length, get_or, ap, arith}
use Rattle.std.proofs.lemmas.Bool.{le-ltb}
use Rattle.products.specs.Products.{post_number}
use Rattle.products.proofs.Numbers.{put_outside, written_below, written_above}
use Rattle.products.proofs.weights.post_row.Goals as goal

pub loop-j-preserved : goal.loop-j-preserved
loop-j-preserved c =
    let h = get_or c.args.feeder.now c.loop-j.j 0 in
    let f = get_or c.args.consumer.now c.loop-j.j 0 in
    let late : 64 ≤ c.loop-j.j = omega arith in
    let whole : c.loop-j.j < length c.loop-j.row = omega arith in
    let sum : get_or c.loop-j.row c.loop-j.j 0 + c.args.factor * f ≡ post_number h f c.args.p c.args.factor c.loop-j.j =
    rw (le-ltb c.loop-j.j 64 late)
    (ap (λ n. n + c.args.factor * f) (c.loop-j.invariant.1 c.loop-j.j (omega arith) ∙ c.outside-row.ensures c.loop-j.j ∙ put_outside h c.args.p c.loop-j.j late (omega arith))) in (
      written_below c.loop-j.row (λ k. post_number (get_or c.args.feeder.now k 0) (get_or c.args.consumer.now k 0) c.args.p c.args.factor k) c.loop-j.j
          (get_or c.loop-j.row c.loop-j.j 0 + c.args.factor * f) whole c.loop-j.invariant.0 sum,
      λ k l.
          written_above c.loop-j.row (λ n. n) c.loop-j.j (get_or c.loop-j.row c.loop-j.j 0 + c.args.factor * f) whole k l ∙ c.loop-j.invariant.1 k (omega arith),
      length-set c.loop-j.row c.loop-j.j _ ∙ c.loop-j.invariant.2,
    )

use Rattle.std.proofs.Common.{length-set, ◌≡◌, ◌+◌, ◌<◌, ◌∙◌, length, get_or, ap, arith, add_comm, cond, eqb}
use Rattle.std.proofs.lemmas.Bool.{lt-ltb}
use Rattle.products.specs.Products.{pre_number}
use Rattle.products.proofs.Numbers.{take_outside, written_below, written_above}
use Rattle.products.proofs.weights.pre_row.Goals as goal

pub loop-j-preserved : goal.loop-j-preserved
loop-j-preserved c =
    let h = get_or c.args.feeder.now c.loop-j.j 0 in
    let f = get_or c.args.consumer.now c.loop-j.j 0 in
    let early : c.loop-j.j < 64 = omega arith in
    let whole : c.loop-j.j < length c.loop-j.row = omega arith in
    let sum : get_or c.loop-j.row c.loop-j.j 0 + h ≡ pre_number h f c.args.p c.loop-j.j =
    rw (lt-ltb c.loop-j.j 64 early)
    (ap (λ n. n + h) (c.loop-j.invariant.1 c.loop-j.j (omega arith) ∙ c.outside-row.ensures c.loop-j.j ∙ take_outside f c.args.p c.loop-j.j early)
    ∙ add_comm (cond (eqb c.loop-j.j c.args.p) 0 f) h) in (
      written_below c.loop-j.row (λ k. pre_number (get_or c.args.feeder.now k 0) (get_or c.args.consumer.now k 0) c.args.p k) c.loop-j.j
          (get_or c.loop-j.row c.loop-j.j 0 + h) whole c.loop-j.invariant.0 sum,
      λ k l.
          written_above c.loop-j.row (λ n. n) c.loop-j.j (get_or c.loop-j.row c.loop-j.j 0 + h) whole k l ∙ c.loop-j.invariant.1 k (omega arith),
      length-set c.loop-j.row c.loop-j.j _ ∙ c.loop-j.invariant.2,
    )

use Rattle.std.proofs.Common.{◌≡◌, ◌||◌, true, false, sym, ap, ◌∙◌}
use Rattle.net.specs.States.{view}
use Rattle.theory.specs.Tests.{one_consumer?, all_equal?}
use Rattle.merges.proofs.Weights.{one_by_first, all_by_first}
use Rattle.merges.proofs.conditions.are_post_weights.Goals as goal

pub returns-then-has_one_consumer : goal.returns-then-has_one_consumer
returns-then-has_one_consumer c =
    let s = view c.args.net.now in
    let f = c.first_consumer-f in
    let w = c.take_of-weight in
    let one : one_consumer? s c.args.p ≡ true =
    sym (c.has_one_consumer.ensures ∙ one_by_first s c.args.p f.result w.result f.ensures w.ensures) ∙ c.if-has_one_consumer.true in
    c.if-has_one_consumer.true ∙ sym (ap (λ b. b || all_equal? s c.args.p) one)

pub returns-else-has_one_consumer : goal.returns-else-has_one_consumer
returns-else-has_one_consumer c =
    let s = view c.args.net.now in
    let f = c.first_consumer-f in
    let w = c.take_of-weight in
    let none : one_consumer? s c.args.p ≡ false =
    sym (c.has_one_consumer.ensures ∙ one_by_first s c.args.p f.result w.result f.ensures w.ensures) ∙ c.if-has_one_consumer.false in
    c.have_weight.ensures ∙ all_by_first s c.args.p f.result w.result f.ensures w.ensures ∙ sym (ap (λ b. b || all_equal? s c.args.p) none)

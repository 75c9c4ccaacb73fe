use Rattle.std.proofs.Common.{◌≡◌, ◌∙◌, get_or, ap, sym, arith}
use Rattle.std.proofs.lemmas.List.{ext_get_or}
use Rattle.net.proofs.Writes.{after_set}
use Rattle.rewrites.proofs.rows.write_weights.Goals as goal

copied : goal.returns-clause-copied
copied c =
    ext_get_or 0 c.loop-i.numbers c.args.weights.now (c.loop-i.auto.numbers ∙ c.requires)
    (λ i l. c.loop-i.invariant i (omega (arith, c.loop-i.auto.numbers)))

pub loop-i-preserved : goal.loop-i-preserved
loop-i-preserved c = λ k l.
    after_set c.loop-i.numbers c.loop-i.i c.from.result k (omega (arith, c.loop-i.auto.numbers)) (λ z. z ≡ get_or c.args.weights.now k 0)
    (λ e. c.from.ensures ∙ ap (λ j. get_or c.args.weights.now j 0) (sym e)) (λ n. c.loop-i.invariant k (omega arith))

pub returns-clause-copied : goal.returns-clause-copied
returns-clause-copied c = copied c

pub returns-clause-few : goal.returns-clause-few
returns-clause-few c = λ i. omega (arith, ap (λ l. get_or l i 0) (copied c), c.type_inv.weights i)

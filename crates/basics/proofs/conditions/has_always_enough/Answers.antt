use Rattle.std.proofs.Common.{rules, tests, ◌&&◌, true, nat_le, arith, ◌∙◌}
use Rattle.std.proofs.lemmas.Iterator.{YieldsList-from_range}
use Rattle.std.proofs.lemmas.Iterator.Consumers.{fold_from_yields_List}
use Rattle.net.specs.States.{view, mark, take}
use Rattle.checks.proofs.Asking.{every_folded}
use Rattle.basics.proofs.conditions.has_always_enough.Goals as goal

pub returns : goal.returns
returns c =
    let s = view c.args.net.now in
    fold_from_yields_List _ (λ a t. a && nat_le (take s t c.args.p) (mark s c.args.p)) true c.fold.result c.fold.ensures.ran
    (YieldsList-from_range 0 s.transitions s.transitions (search rules) (omega arith)) (λ a x b q k. search (rules, tests)) ∙ every_folded _ s.transitions

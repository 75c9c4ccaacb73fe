use Rattle.std.proofs.Common.{◌≡◌, leb, take}
use Rattle.std.specs.List.{list_all}
use Rattle.products.proofs.weights.are_limited.Given as goal

abbrev pub invariant-loop-weight : goal.invariant-loop-weight
invariant-loop-weight l = l.limited ≡ list_all (λ w. leb w 65535) (take l.weight-index l.row)

use Rattle.std.proofs.Common.{◌≡◌, ◌≤◌, length}
use Rattle.net.specs.States.{view}
use Rattle.theory.specs.Tests.{those, feeder?, consumer?}
use Rattle.products.specs.Products.{apart?}
use Rattle.products.proofs.tally.tally_of.Given as goal

abbrev pub invariant-loop-t : goal.invariant-loop-t
invariant-loop-t l =
    (l.feeders.items ≡ those (feeder? (view l.net) l.p) l.t)
    × (l.consumers.items ≡ those (consumer? (view l.net) l.p) l.t)
    × ((l.rest ≡ length (those (apart? (view l.net) l.p) l.t)) × (l.rest ≤ l.t))

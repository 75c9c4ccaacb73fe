use Rattle.std.proofs.Common.{◌≡◌, ◌≤◌, length}
use Rattle.net.specs.States.{view}
use Rattle.theory.specs.Tests.{those, feeder?, consumer?}
use Rattle.products.specs.Products.{apart?}
use Rattle.products.proofs.counts.count_by_place.Given as goal

abbrev pub invariant-loop-t : goal.invariant-loop-t
invariant-loop-t l =
    ((l.feeders ≡ length (those (feeder? (view l.net) l.p) l.t)) × (l.feeders ≤ l.t))
    × ((l.consumers ≡ length (those (consumer? (view l.net) l.p) l.t)) × (l.consumers ≤ l.t))
    × ((l.rest ≡ length (those (apart? (view l.net) l.p) l.t)) × (l.rest ≤ l.t))

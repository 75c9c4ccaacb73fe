use Rattle.std.proofs.Common.{◌≡◌, ℕ, ◌<◌, ◌≤◌, get_or, length}
use Rattle.products.specs.Products.{pre_number}
use Rattle.products.proofs.weights.pre_row.Given as goal

abbrev pub invariant-loop-j : goal.invariant-loop-j
invariant-loop-j l =
    ((k : ℕ) → k < l.j → get_or l.row k 0 ≡ pre_number (get_or l.feeder k 0) (get_or l.consumer k 0) l.p k)
    × ((k : ℕ) → l.j ≤ k → get_or l.row k 0 ≡ get_or l.initial.row k 0)
    × (length l.row ≡ 128)

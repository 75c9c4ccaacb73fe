-- Three steps that look right and are not, each shown on a small net.
use Rattle.std.specs.Prelude.{◌≡◌, ℕ, Bool, true, false, cond, ◌==◌}
use Rattle.theory.specs.Nets.{Marking, Net, Reachable, SameStandstill}
use Rattle.theory.specs.Nexts.{without, post, fused}
use Rattle.theory.specs.Conditions.{Multiple, TwoSided, PostConsumers, Unmarked, Carries}

-- `w` tokens at place `p` and none elsewhere; the support that holds no place.
abbrev pub only_at : ℕ → ℕ → ℕ → ℕ
only_at p w q = cond (q == p) w 0

abbrev pub none : ℕ → ℕ
none _ = 0

abbrev pub NoSupport : ℕ → Type 0
NoSupport _ = ⊥

-- A factor of 0. `true` has no arcs and is always enabled; `false` takes from place 0, which is empty. `true` is 0 times `false`; if
-- it were dropped, the net would stand still.
abbrev pub idling_take : Bool → ℕ → ℕ
idling_take true = none
idling_take false = only_at 0 1

abbrev pub idling_net : Net
idling_net = record { Trans = Bool; take = idling_take; put = λ _. none; start = none }

abbrev pub FactorZeroInventsAStandstill : Type 0
FactorZeroInventsAStandstill =
    Multiple idling_net true false 0 × (SameStandstill NoSupport idling_net (without idling_net (λ t. t ≡ true)) → ⊥)

-- Agglomeration where one feeder gives two tokens to two different consumers. One token becomes two on place 1, and each of them
-- goes to place 2 or to place 3. All conditions but the one on weights hold; the products move both tokens together, so that one
-- on each side is no longer reachable.
pub data Splitting : Type 0 where
  split left right : Splitting

abbrev pub splitting_take : Splitting → ℕ → ℕ
splitting_take split = only_at 0 1
splitting_take left = only_at 1 1
splitting_take right = only_at 1 1

abbrev pub splitting_put : Splitting → ℕ → ℕ
splitting_put split = only_at 1 2
splitting_put left = only_at 2 1
splitting_put right = only_at 3 1

abbrev pub splitting_net : Net
splitting_net = record { Trans = Splitting; take = splitting_take; put = splitting_put; start = only_at 0 1 }

abbrev pub one_each : Marking
one_each q = cond (q == 2) 1 (only_at 3 1 q)

pub record AlmostPostAgglomerable : Type 0 where
  pub sides : TwoSided splitting_net 1
  pub consumers : PostConsumers NoSupport splitting_net 1
  pub marks : Unmarked splitting_net 1

abbrev pub SplitTokensAreLost : Type 0
SplitTokensAreLost = AlmostPostAgglomerable × Reachable splitting_net one_each × (Reachable (post splitting_net 1) one_each → ⊥)

-- Fusion that drops the two moves. One token goes from place 0 to place 1 (`true`) and back (`false`), for ever. If the places are
-- fused and the moves dropped, the net stands still.
abbrev pub swapping_take : Bool → ℕ → ℕ
swapping_take true = only_at 0 1
swapping_take false = only_at 1 1

abbrev pub swapping_put : Bool → ℕ → ℕ
swapping_put true = only_at 1 1
swapping_put false = only_at 0 1

abbrev pub swapping_net : Net
swapping_net = record { Trans = Bool; take = swapping_take; put = swapping_put; start = only_at 0 1 }

abbrev pub DroppedMovesInventAStandstill : Type 0
DroppedMovesInventAStandstill =
    Carries swapping_net true 0 1 × Carries swapping_net false 1 0
    × (SameStandstill NoSupport swapping_net (without (fused 0 1 swapping_net) (λ _. Unit {0})) → ⊥)

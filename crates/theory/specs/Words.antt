-- The conditions of each step in words, and exactness: a step is taken if and only if all its conditions hold, and then leads to
-- its next state.
use Rattle.std.specs.Prelude.{◌≡◌, ℕ, ◌*◌, ◌<◌, ◌≤◌, Bool, true, false, ◌≢◌, length, Ok}
use Rattle.net.specs.Sheets.{most_transitions, most_weight, most_mark}
use Rattle.net.specs.States.{State, stands, in_support, mark, take, put}
use Rattle.net.specs.Qualities.{Qualities}
use Rattle.theory.specs.Nets.{asks_reach, asks_standstill}
use Rattle.theory.specs.Conditions.{Dominated, Multiple, Composed, Draining, Unfed, Starved, Sourceless, NeverLoses, AlwaysEnough, Implied, Covers, Siphon, Dry, Sufficient, HoldsSupport, TwoSided, Unmarked, PostConsumers, PostWeights, FreeFeeders, FreeConsumers, PreFeeders, Ahead, Suffices, Carries}
use Rattle.theory.specs.Tests.{member, feeders, consumers}
use Rattle.theory.specs.Rewrites.{post_merging, pre_merging, firing_ahead, fusing}
use Rattle.theory.specs.Steps.{Step, drop_dominated, drop_multiple, drop_composed, drop_draining, drop_starved, keep_sourceless, remove_plentiful, remove_implied, drop_siphon, limit_to, post_agglomerate, pre_agglomerate, free_agglomerate, fire_ahead, fuse_places, next, step}
use Rattle.theory.specs.Laws.{net_of, Supports}

abbrev pub Stands : State → ℕ → Type 0
Stands s p = stands s p ≡ true

abbrev pub Outside : State → ℕ → Type 0
Outside s p = in_support s p ≡ false

abbrev pub ReachOnly : State → Type 0
ReachOnly s = asks_standstill s.question ≡ false

abbrev pub StandstillOnly : State → Type 0
StandstillOnly s = asks_reach s.question ≡ false

-- Every member of the set stands; the set has a member.
abbrev pub MembersStand : State → (ℕ → Bool) → Type 0
MembersStand s z = (p : ℕ) → z p ≡ true → Stands s p

abbrev pub HasMember : (ℕ → Bool) → Type 0
HasMember z = (p : ℕ) × (z p ≡ true)

-- All numbers of a state are within their limits.
pub record InLimits (s : State) : Type 0 where
  pub marks : (p : ℕ) → mark s p ≤ most_mark
  pub takes : (t p : ℕ) → t < s.transitions → take s t p ≤ most_weight
  pub puts : (t p : ℕ) → t < s.transitions → put s t p ≤ most_weight

-- At most 32 products, at most 96 transitions afterwards, and numbers within their limits.
pub record Mergeable (s : State) (p : ℕ) (after : State) : Type 0 where
  pub pairs : length (feeders s p) * length (consumers s p) ≤ 32
  pub rows : after.transitions ≤ most_transitions
  pub limits : InLimits after

abbrev pub Conditions : State → Step → Type 0
Conditions s (drop_dominated t u) = (a : t < s.transitions) × (b : u < s.transitions) × (t ≢ u) × Dominated (net_of s) (t, a) (u, b)
Conditions s (drop_multiple t u k) =
    (a : t < s.transitions) × (b : u < s.transitions) × (t ≢ u) × (0 < k) × Multiple (net_of s) (t, a) (u, b) k
Conditions s (drop_composed t u v) =
    (a : t < s.transitions) × (b : u < s.transitions) × (c : v < s.transitions) × (t ≢ u) × (t ≢ v)
    × Composed (net_of s) (t, a) (u, b) (v, c)
Conditions s (drop_draining t) = ReachOnly s × ((a : t < s.transitions) × Draining (Supports s) (net_of s) (t, a))
Conditions s (drop_starved t p) = (a : t < s.transitions) × Stands s p × Unfed (net_of s) p × Starved (net_of s) (t, a) p
Conditions s (keep_sourceless t) = StandstillOnly s × ((a : t < s.transitions) × Sourceless (net_of s) (t, a))
Conditions s (remove_plentiful p) = Stands s p × Outside s p × NeverLoses (net_of s) p × AlwaysEnough (net_of s) p
Conditions s (remove_implied p q k) =
    Stands s p × Stands s q × (p ≢ q) × (0 < k) × Outside s p × Implied (net_of s) p q k × Covers (net_of s) p q k
Conditions s (drop_siphon z) =
    MembersStand s (member z) × HasMember (member z) × Siphon (net_of s) (member z) × Dry (net_of s) (member z)
Conditions s (limit_to z) =
    ReachOnly s × MembersStand s (member z) × HoldsSupport (Supports s) (member z) × Sufficient (Supports s) (net_of s) (member z)
Conditions s (post_agglomerate p) =
    Stands s p × Outside s p × TwoSided (net_of s) p × PostConsumers (Supports s) (net_of s) p × PostWeights (net_of s) p
    × Unmarked (net_of s) p × Mergeable s p (post_merging p s)
Conditions s (pre_agglomerate p) =
    Stands s p × Outside s p × TwoSided (net_of s) p × FreeFeeders (Supports s) (net_of s) p × PreFeeders (net_of s) p
    × FreeConsumers (net_of s) p × Unmarked (net_of s) p × Mergeable s p (pre_merging p s)
Conditions s (free_agglomerate p) =
    ReachOnly s × Stands s p × Outside s p × TwoSided (net_of s) p × FreeFeeders (Supports s) (net_of s) p
    × FreeConsumers (net_of s) p × Unmarked (net_of s) p × Mergeable s p (pre_merging p s)
Conditions s (fire_ahead t k) =
    (a : t < s.transitions) × (0 < k)
    × ((p : ℕ) × Ahead (Supports s) (net_of s) (t, a) p × Suffices (net_of s) (t, a) k p) × InLimits (firing_ahead t k s)
Conditions s (fuse_places p q a b) =
    (c : a < s.transitions) × (d : b < s.transitions) × Stands s p × Stands s q × (p ≢ q) × Outside s p × Outside s q
    × Carries (net_of s) (a, c) p q × Carries (net_of s) (b, d) q p × InLimits (fusing p q s)

abbrev pub StepsAreExact : Type 0
StepsAreExact =
    (s t : State) (x : Step) → Qualities s
    → (step s x ≡ Ok t → Conditions s x × (t ≡ next s x)) × (Conditions s x → t ≡ next s x → step s x ≡ Ok t)

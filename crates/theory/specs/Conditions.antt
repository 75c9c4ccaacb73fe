-- The conditions of the steps, each stated once, of any net `N` and any support `S`.
-- An effect is put minus take; conditions on effects are stated as sums, so that nothing is subtracted.
use Rattle.std.specs.Prelude.{◌≡◌, ℕ, ◌+◌, ◌*◌, ◌<◌, ◌≤◌, Bool, true, false, ◌≢◌, ◌⊎◌}
use Rattle.theory.specs.Nets.{Net}
use Rattle.theory.specs.Nexts.{Feeder, Consumer}

-- `t` takes at least what `u` takes, with the same effect.
abbrev pub Dominated : (N : Net) → N.Trans → N.Trans → Type 0
Dominated N t u = (p : ℕ) → (N.take u p ≤ N.take t p) × (N.put t p + N.take u p ≡ N.put u p + N.take t p)

-- Takes and puts of `t` are `k` times those of `u`.
abbrev pub Multiple : (N : Net) → N.Trans → N.Trans → ℕ → Type 0
Multiple N t u k = (p : ℕ) → (N.take t p ≡ k * N.take u p) × (N.put t p ≡ k * N.put u p)

-- `t` does what `u` and then `v` do: `u` needs no more than `t`, `v` no more than `u` puts, and the effects add up.
abbrev pub Composed : (N : Net) → N.Trans → N.Trans → N.Trans → Type 0
Composed N t u v =
    (p : ℕ) → (N.take u p ≤ N.take t p) × (N.take v p ≤ N.put u p)
    × (N.put t p + N.take u p + N.take v p ≡ N.put u p + N.put v p + N.take t p)

-- No effect of `t` is positive, and its effect on the support is 0.
abbrev pub Draining : (S : ℕ → Type 0) (N : Net) → N.Trans → Type 0
Draining S N t = (p : ℕ) → (N.put t p ≤ N.take t p) × (S p → N.put t p ≡ N.take t p)

-- No transition puts into `p`; no transition has a positive effect at `p`.
abbrev pub Unfed : (N : Net) → ℕ → Type 0
Unfed N p = (u : N.Trans) → N.put u p ≡ 0

abbrev pub NeverGains : (N : Net) → ℕ → Type 0
NeverGains N p = (u : N.Trans) → N.put u p ≤ N.take u p

-- `t` takes more from `p` than its mark.
abbrev pub Starved : (N : Net) → N.Trans → ℕ → Type 0
Starved N t p = N.start p < N.take t p

-- `t` takes from nowhere.
abbrev pub Sourceless : (N : Net) → N.Trans → Type 0
Sourceless N t = (p : ℕ) → N.take t p ≡ 0

-- No effect at `p` is negative; no transition takes more from `p` than its mark.
abbrev pub NeverLoses : (N : Net) → ℕ → Type 0
NeverLoses N p = (t : N.Trans) → N.take t p ≤ N.put t p

abbrev pub AlwaysEnough : (N : Net) → ℕ → Type 0
AlwaysEnough N p = (t : N.Trans) → N.take t p ≤ N.start p

-- Every transition takes from `p` at most `k` times what it takes from `q`, and its effect at `p` is at least `k` times that
-- at `q`; the mark of `p` is at least `k` times that of `q`.
pub record Implied (N : Net) (p q k : ℕ) : Type 0 where
  pub asks : (t : N.Trans) → N.take t p ≤ k * N.take t q
  pub gains : (t : N.Trans) → k * N.put t q + N.take t p ≤ N.put t p + k * N.take t q

abbrev pub Covers : (N : Net) → ℕ → ℕ → ℕ → Type 0
Covers N p q k = k * N.start q ≤ N.start p

-- A siphon: each transition that puts into the set takes from it. It is dry when its marks are 0.
abbrev pub TakesFrom : (N : Net) → (ℕ → Bool) → N.Trans → Type 0
TakesFrom N z t = (r : ℕ) × (z r ≡ true) × (0 < N.take t r)

abbrev pub Siphon : (N : Net) → (ℕ → Bool) → Type 0
Siphon N z = (t : N.Trans) (q : ℕ) → z q ≡ true → 0 < N.put t q → TakesFrom N z t

abbrev pub Dry : (N : Net) → (ℕ → Bool) → Type 0
Dry N z = (q : ℕ) → z q ≡ true → N.start q ≡ 0

-- Each transition that takes from outside the set has no positive effect in the set, and effect 0 on the support.
abbrev pub TakesOutside : (N : Net) → (ℕ → Bool) → N.Trans → Type 0
TakesOutside N z t = (r : ℕ) × (z r ≡ false) × (0 < N.take t r)

pub record Sufficient (S : ℕ → Type 0) (N : Net) (z : ℕ → Bool) : Type 0 where
  pub falls : (t : N.Trans) → TakesOutside N z t → (q : ℕ) → z q ≡ true → N.put t q ≤ N.take t q
  pub still : (t : N.Trans) → TakesOutside N z t → (q : ℕ) → S q → N.put t q ≡ N.take t q

abbrev pub HoldsSupport : (S : ℕ → Type 0) → (ℕ → Bool) → Type 0
HoldsSupport S z = (q : ℕ) → S q → z q ≡ true

-- Agglomeration: `p` has a feeder and a consumer, and no transition is both.
pub record TwoSided (N : Net) (p : ℕ) : Type 0 where
  pub fed : (h : N.Trans) × Feeder N p h
  pub consumed : (f : N.Trans) × Consumer N p f
  pub apart : (t : N.Trans) → Feeder N p t → Consumer N p t → ⊥

abbrev pub Unmarked : (N : Net) → ℕ → Type 0
Unmarked N p = N.start p ≡ 0

-- Post-agglomeration, of the consumers: each takes from `p` alone and puts into no support place.
pub record PostConsumers (S : ℕ → Type 0) (N : Net) (p : ℕ) : Type 0 where
  pub alone : (f : N.Trans) → Consumer N p f → (q : ℕ) → q ≢ p → N.take f q ≡ 0
  pub hidden : (f : N.Trans) → Consumer N p f → (q : ℕ) → S q → N.put f q ≡ 0

-- Of the weights: either `p` has one consumer and every feeder's weight is a multiple of its weight, or all weights at `p` are
-- equal.
pub record OneConsumer (N : Net) (p : ℕ) : Type 0 where
  pub only : (f g : N.Trans) → Consumer N p f → Consumer N p g → f ≡ g
  pub multiple : (h f : N.Trans) → Feeder N p h → Consumer N p f → (k : ℕ) × (N.put h p ≡ k * N.take f p)

abbrev pub AllEqual : (N : Net) → ℕ → Type 0
AllEqual N p = (w : ℕ) × ((f : N.Trans) → Consumer N p f → N.take f p ≡ w) × ((h : N.Trans) → Feeder N p h → N.put h p ≡ w)

abbrev pub PostWeights : (N : Net) → ℕ → Type 0
PostWeights N p = OneConsumer N p ⊎ AllEqual N p

-- Free agglomeration, of the feeders: each puts 1 into `p` and nothing elsewhere, and takes from no support place.
pub record FreeFeeders (S : ℕ → Type 0) (N : Net) (p : ℕ) : Type 0 where
  pub gives : (h : N.Trans) → Feeder N p h → N.put h p ≡ 1
  pub alone : (h : N.Trans) → Feeder N p h → (q : ℕ) → q ≢ p → N.put h q ≡ 0
  pub hidden : (h : N.Trans) → Feeder N p h → (q : ℕ) → S q → N.take h q ≡ 0

-- Of the consumers: each takes 1 from `p`.
abbrev pub FreeConsumers : (N : Net) → ℕ → Type 0
FreeConsumers N p = (f : N.Trans) → Consumer N p f → N.take f p ≡ 1

-- Pre-agglomeration, of the feeders besides: each takes from somewhere, and each place that it takes from has it as only
-- consumer.
pub record PreFeeders (N : Net) (p : ℕ) : Type 0 where
  pub somewhere : (h : N.Trans) → Feeder N p h → (q : ℕ) × (0 < N.take h q)
  pub own : (h u : N.Trans) → Feeder N p h → (q : ℕ) → 0 < N.take h q → 0 < N.take u q → u ≡ h

-- Firing ahead: `t` takes from `p` only, is its only consumer, puts nothing into `p` and nothing into the support, and `p` is
-- outside the support; the mark of `p` suffices for `k` firings.
pub record Ahead (S : ℕ → Type 0) (N : Net) (t : N.Trans) (p : ℕ) : Type 0 where
  pub takes : 0 < N.take t p
  pub alone : (q : ℕ) → q ≢ p → N.take t q ≡ 0
  pub only : (u : N.Trans) → 0 < N.take u p → u ≡ t
  pub dry : N.put t p ≡ 0
  pub hidden : (q : ℕ) → S q → N.put t q ≡ 0
  pub outside : S p → ⊥

abbrev pub Suffices : (N : Net) → N.Trans → ℕ → ℕ → Type 0
Suffices N t k p = k * N.take t p ≤ N.start p

-- Fusion: `a` only takes 1 from `p` and puts 1 into `q`.
pub record Carries (N : Net) (a : N.Trans) (p q : ℕ) : Type 0 where
  pub takes : N.take a p ≡ 1
  pub puts : N.put a q ≡ 1
  pub no_takes : (r : ℕ) → r ≢ p → N.take a r ≡ 0
  pub no_puts : (r : ℕ) → r ≢ q → N.put a r ≡ 0

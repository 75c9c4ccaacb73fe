-- One relation for all steps: from which net to which net a step may lead, under a support and a question.
-- Each case holds the conditions of its step and its next net, up to the names and the order of the transitions.
use Rattle.std.specs.Prelude.{◌≡◌, ℕ, ◌≤◌, Bool, false, ◌≢◌}
use Rattle.net.specs.declared.net.Question.{Question}
use Rattle.theory.specs.Nets.{Net, SameNet, asks_reach, asks_standstill}
use Rattle.theory.specs.Nexts.{without, gone, limited, post, pre, fired, fused}
use Rattle.theory.specs.Conditions.{Dominated, Multiple, Composed, Draining, NeverGains, Starved, Sourceless, NeverLoses, AlwaysEnough, Implied, Covers, TakesFrom, Siphon, Dry, TakesOutside, Sufficient, HoldsSupport, TwoSided, Unmarked, PostConsumers, PostWeights, FreeFeeders, FreeConsumers, PreFeeders, Ahead, Suffices, Carries}

pub data Taken (S : ℕ → Type 0) (Q : Question) (N N' : Net) : Type 1 where
  -- a transition is dropped: it is dominated, a multiple, composed, draining, or starved
  dominated : (t u : N.Trans) → u ≢ t → Dominated N t u → SameNet (without N (λ v. v ≡ t)) N' → Taken S Q N N'
  multiple : (t u : N.Trans) (k : ℕ) → u ≢ t → 1 ≤ k → Multiple N t u k → SameNet (without N (λ v. v ≡ t)) N' → Taken S Q N N'
  composed : (t u v : N.Trans) → u ≢ t → v ≢ t → Composed N t u v → SameNet (without N (λ w. w ≡ t)) N' → Taken S Q N N'
  draining : (t : N.Trans) → asks_standstill Q ≡ false → Draining S N t → SameNet (without N (λ v. v ≡ t)) N' → Taken S Q N N'
  starved : (t : N.Trans) (p : ℕ) → NeverGains N p → Starved N t p → SameNet (without N (λ v. v ≡ t)) N' → Taken S Q N N'
  -- all other transitions are dropped beside one that is always enabled
  sourceless : (t : N.Trans) → asks_reach Q ≡ false → Sourceless N t → SameNet (without N (λ v. v ≢ t)) N' → Taken S Q N N'
  -- a place goes: it never lacks tokens, or another place ⇒ it
  plentiful : (p : ℕ) → (S p → ⊥) → NeverLoses N p → AlwaysEnough N p → SameNet (gone p N) N' → Taken S Q N N'
  implied : (p q k : ℕ) → (S p → ⊥) → q ≢ p → 1 ≤ k → Implied N p q k → Covers N p q k → SameNet (gone p N) N' → Taken S Q N N'
  -- the transitions that take from a dry siphon are dropped
  siphon : (z : ℕ → Bool) → Siphon N z → Dry N z → SameNet (without N (TakesFrom N z)) N' → Taken S Q N N'
  -- the net is limited to a set of places
  limit : (z : ℕ → Bool) → asks_standstill Q ≡ false → HoldsSupport S z → Sufficient S N z
      → SameNet (limited z (without N (TakesOutside N z))) N' → Taken S Q N N'
  -- agglomeration
  post_agglomeration : (p : ℕ) → (S p → ⊥) → TwoSided N p → PostConsumers S N p → PostWeights N p → Unmarked N p → SameNet (post N p) N'
      → Taken S Q N N'
  pre_agglomeration : (p : ℕ) → (S p → ⊥) → TwoSided N p → FreeFeeders S N p → PreFeeders N p → FreeConsumers N p → Unmarked N p
      → SameNet (pre N p) N' → Taken S Q N N'
  free_agglomeration : (p : ℕ) → asks_standstill Q ≡ false → (S p → ⊥) → TwoSided N p → FreeFeeders S N p → FreeConsumers N p → Unmarked N p
      → SameNet (pre N p) N' → Taken S Q N N'
  -- tokens are moved: by firings ahead of time, or by fusing two places
  ahead : (t : N.Trans) (k p : ℕ) → Ahead S N t p → Suffices N t k p → SameNet (fired N t k) N' → Taken S Q N N'
  fusion : (p q : ℕ) (a b : N.Trans) → (S p → ⊥) → (S q → ⊥) → q ≢ p → Carries N a p q → Carries N b q p → SameNet (fused p q N) N'
      → Taken S Q N N'

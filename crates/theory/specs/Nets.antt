-- What a net does: markings, firing, runs, reachable and dead markings, and the two questions.
-- A place is a number. A marking gives each place its tokens, a whole number without upper limit; places that do not stand
-- hold 0 and never matter.
use Rattle.std.specs.Prelude.{◌≡◌, ℕ, ◌+◌, ◌-◌, ◌≤◌, Bool, true, false, List, [], ◌∷◌}
use mathlib.Core.List.{Memᴰ}
use Rattle.net.specs.declared.net.Question.{Question}
use Rattle.net.specs.declared.net.Question.TheVariants.{Reach, Standstill, Both}

abbrev pub Marking : Type 0
Marking = ℕ → ℕ

-- Transitions with the weights that they take from each place and put there, and the start marking. The type of the
-- transitions is free, so that each rule can name its next net in its own words.
pub record Net : Type 1 where
  pub Trans : Type 0
  pub take : Trans → ℕ → ℕ
  pub put : Trans → ℕ → ℕ
  pub start : ℕ → ℕ

-- Two markings are the same at every place.
abbrev pub Same : Marking → Marking → Type 0
Same m e = (p : ℕ) → m p ≡ e p

-- A transition is enabled in a marking that has what it takes, at every place; firing adds its effects.
abbrev pub Enabled : (N : Net) → N.Trans → Marking → Type 0
Enabled N t m = (p : ℕ) → N.take t p ≤ m p

abbrev pub fire : (N : Net) → N.Trans → Marking → Marking
fire N t m p = (m p - N.take t p) + N.put t p

-- A list of firings leads from the first marking to the last.
abbrev pub Run : (N : Net) → Marking → List N.Trans → Marking → Type 0
Run N m [] e = Same m e
Run N m (t ∷ ts) e = Enabled N t m × Run N (fire N t m) ts e

abbrev pub Leads : Net → Marking → Marking → Type 0
Leads N m e = (ts : List N.Trans) × Run N m ts e

abbrev pub Reachable : Net → Marking → Type 0
Reachable N m = Leads N N.start m

-- In a dead marking no transition is enabled.
abbrev pub Dead : Net → Marking → Type 0
Dead N m = (t : N.Trans) → Enabled N t m → ⊥

-- Two markings have the same numbers on the support.
abbrev pub Agree : (ℕ → Type 0) → Marking → Marking → Type 0
Agree S m v = (p : ℕ) → S p → m p ≡ v p

-- The numbers `v` on the support are reachable; they are reachable with a dead marking.
abbrev pub Reaches : (ℕ → Type 0) → Net → Marking → Type 0
Reaches S N v = (m : Marking) × Reachable N m × Agree S m v

abbrev pub StandstillAt : (ℕ → Type 0) → Net → Marking → Type 0
StandstillAt S N v = (m : Marking) × Reachable N m × Dead N m × Agree S m v

-- Two nets give the same answers: to the question of reach, and to that of standstill, for all support numbers.
abbrev pub SameReach : (ℕ → Type 0) → Net → Net → Type 0
SameReach S N N' = (v : Marking) → (Reaches S N v → Reaches S N' v) × (Reaches S N' v → Reaches S N v)

abbrev pub SameStandstill : (ℕ → Type 0) → Net → Net → Type 0
SameStandstill S N N' = (v : Marking) → (StandstillAt S N v → StandstillAt S N' v) × (StandstillAt S N' v → StandstillAt S N v)

-- Which questions are open.
abbrev pub asks_reach : Question → Bool
asks_reach Reach = true
asks_reach Standstill = false
asks_reach Both = true

abbrev pub asks_standstill : Question → Bool
asks_standstill Reach = false
asks_standstill Standstill = true
asks_standstill Both = true

-- The law of a step: the answers are the same, as far as the questions are open.
pub record Law (S : ℕ → Type 0) (Q : Question) (N N' : Net) : Type 0 where
  pub reach : asks_reach Q ≡ true → SameReach S N N'
  pub standstill : asks_standstill Q ≡ true → SameStandstill S N N'

-- Two nets are the same but for the names and the order of their transitions.
abbrev pub SameRow : (N N' : Net) → N.Trans → N'.Trans → Type 0
SameRow N N' t t' = (p : ℕ) → (N.take t p ≡ N'.take t' p) × (N.put t p ≡ N'.put t' p)

pub record SameNet (N N' : Net) : Type 0 where
  pub begins : Same N.start N'.start
  pub there : (t : N.Trans) → (t' : N'.Trans) × SameRow N N' t t'
  pub back : (t' : N'.Trans) → (t : N.Trans) × SameRow N N' t t'

-- A finite net: its transitions can be told apart and listed, and none touches a place past the last.
pub record Finite (N : Net) : Type 0 where
  pub same : (t u : N.Trans) → Dec (t ≡ u)
  pub all : List N.Trans
  pub listed : (t : N.Trans) → Memᴰ t all
  pub places : ℕ
  pub beyond : (t : N.Trans) (p : ℕ) → places ≤ p → (N.take t p ≡ 0) × (N.put t p ≡ 0)

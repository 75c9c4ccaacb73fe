-- The fifteen steps: for each the table of its refusals, in their order, and its next state.
use Rattle.std.specs.Prelude.{ℕ, ◌*◌, Bool, not, ◌&&◌, nat_lt, nat_le, List, [], ◌∷◌, length, Result, ◌==◌}
use Rattle.net.specs.Sheets.{most_transitions, most_weight, most_mark}
use Rattle.net.specs.Refusals.{Check, ◌unless◌, judged}
use Rattle.net.specs.States.{State, stands, in_support, mark, take, put}
use Rattle.theory.specs.declared.refusal.Refusal.{Refusal}
use Rattle.theory.specs.declared.refusal.Refusal.TheVariants.{NotServed, NoTransition, NoPlace, NotDistinct, Nothing, Support, Arcs, Marks, TooManyPairs, TooManyRows, PastLimit}
use Rattle.theory.specs.Nets.{asks_reach, asks_standstill}
use Rattle.theory.specs.Tests.{every_place, every_transition, dominated?, multiple?, composed?, draining?, sourceless?, unfed?, starved?, never_loses?, always_enough?, implied?, covers?, member, siphon?, dry?, sufficient?, holds_support?, members_stand?, has_member?, feeders, consumers, two_sided?, post_consumers?, post_weights?, free_feeders?, free_consumers?, pre_feeders?, unmarked?, ahead?, suffices?, carries?}
use Rattle.theory.specs.Rewrites.{dropping, keeping_only, dropping_takers, leaving, limiting, post_merging, pre_merging, firing_ahead, fusing}

-- A step with its operands: transitions `t u v a b`, places `p q`, a factor `k`, a set of eight bytes `z`.
pub data Step : Type 0 where
  drop_dominated : (t u : ℕ) → Step
  drop_multiple : (t u k : ℕ) → Step
  drop_composed : (t u v : ℕ) → Step
  drop_draining : (t : ℕ) → Step
  drop_starved : (t p : ℕ) → Step
  keep_sourceless : (t : ℕ) → Step
  remove_plentiful : (p : ℕ) → Step
  remove_implied : (p q k : ℕ) → Step
  drop_siphon : (z : List ℕ) → Step
  limit_to : (z : List ℕ) → Step
  post_agglomerate : (p : ℕ) → Step
  pre_agglomerate : (p : ℕ) → Step
  free_agglomerate : (p : ℕ) → Step
  fire_ahead : (t k : ℕ) → Step
  fuse_places : (p q a b : ℕ) → Step

-- The number of each refusal of a step.
abbrev pub refusal_number : Refusal → ℕ
refusal_number NotServed = 13
refusal_number NoTransition = 8
refusal_number NoPlace = 9
refusal_number NotDistinct = 14
refusal_number Nothing = 15
refusal_number Support = 16
refusal_number Arcs = 17
refusal_number Marks = 18
refusal_number TooManyPairs = 19
refusal_number TooManyRows = 20
refusal_number PastLimit = 21

-- Does the transition stand?
abbrev pub there : State → ℕ → Bool
there s t = nat_lt t s.transitions

-- A step that serves reach alone, or standstill alone.
abbrev pub reach_only : State → Check Refusal
reach_only s = NotServed unless not (asks_standstill s.question)

abbrev pub standstill_only : State → Check Refusal
standstill_only s = NotServed unless not (asks_reach s.question)

-- All numbers of a state are within their limits.
abbrev pub in_limits? : State → Bool
in_limits? s =
    every_place (λ p. nat_le (mark s p) most_mark)
    && every_transition s (λ t. every_place (λ p. nat_le (take s t p) most_weight && nat_le (put s t p) most_weight))

-- The last questions of an agglomeration: pairs, transitions afterwards, limits.
abbrev pub merge_checks : State → ℕ → State → List (Check Refusal)
merge_checks s p next =
    TooManyPairs unless nat_le (length (feeders s p) * length (consumers s p)) 32
    ∷ TooManyRows unless nat_le next.transitions most_transitions
    ∷ PastLimit unless in_limits? next
    ∷ []

abbrev pub table : State → Step → List (Check Refusal)
table s (drop_dominated t u) =
    NoTransition unless (there s t && there s u) ∷ NotDistinct unless not (t == u) ∷ Arcs unless dominated? s t u ∷ []
table s (drop_multiple t u k) =
    NoTransition unless (there s t && there s u)
    ∷ NotDistinct unless not (t == u)
    ∷ Nothing unless nat_lt 0 k
    ∷ Arcs unless multiple? s t u k
    ∷ []
table s (drop_composed t u v) =
    NoTransition unless (there s t && (there s u && there s v))
    ∷ NotDistinct unless (not (t == u) && not (t == v))
    ∷ Arcs unless composed? s t u v
    ∷ []
table s (drop_draining t) = reach_only s ∷ NoTransition unless there s t ∷ Arcs unless draining? s t ∷ []
table s (drop_starved t p) =
    NoTransition unless there s t ∷ NoPlace unless stands s p ∷ Arcs unless unfed? s p ∷ Marks unless starved? s t p ∷ []
table s (keep_sourceless t) = standstill_only s ∷ NoTransition unless there s t ∷ Arcs unless sourceless? s t ∷ []
table s (remove_plentiful p) =
    NoPlace unless stands s p
    ∷ Support unless not (in_support s p)
    ∷ Arcs unless never_loses? s p
    ∷ Marks unless always_enough? s p
    ∷ []
table s (remove_implied p q k) =
    NoPlace unless (stands s p && stands s q)
    ∷ NotDistinct unless not (p == q)
    ∷ Nothing unless nat_lt 0 k
    ∷ Support unless not (in_support s p)
    ∷ Arcs unless implied? s p q k
    ∷ Marks unless covers? s p q k
    ∷ []
table s (drop_siphon z) =
    NoPlace unless members_stand? s (member z)
    ∷ Nothing unless has_member? (member z)
    ∷ Arcs unless siphon? s (member z)
    ∷ Marks unless dry? s (member z)
    ∷ []
table s (limit_to z) =
    reach_only s
    ∷ NoPlace unless members_stand? s (member z)
    ∷ Support unless holds_support? s (member z)
    ∷ Arcs unless sufficient? s (member z)
    ∷ []
table s (post_agglomerate p) =
    NoPlace unless stands s p
    ∷ Support unless not (in_support s p)
    ∷ Arcs unless two_sided? s p
    ∷ Arcs unless post_consumers? s p
    ∷ Arcs unless post_weights? s p
    ∷ Marks unless unmarked? s p
    ∷ merge_checks s p (post_merging p s)
table s (pre_agglomerate p) =
    NoPlace unless stands s p
    ∷ Support unless not (in_support s p)
    ∷ Arcs unless two_sided? s p
    ∷ Arcs unless (free_feeders? s p && pre_feeders? s p)
    ∷ Arcs unless free_consumers? s p
    ∷ Marks unless unmarked? s p
    ∷ merge_checks s p (pre_merging p s)
table s (free_agglomerate p) =
    reach_only s
    ∷ NoPlace unless stands s p
    ∷ Support unless not (in_support s p)
    ∷ Arcs unless two_sided? s p
    ∷ Arcs unless free_feeders? s p
    ∷ Arcs unless free_consumers? s p
    ∷ Marks unless unmarked? s p
    ∷ merge_checks s p (pre_merging p s)
table s (fire_ahead t k) =
    NoTransition unless there s t
    ∷ Nothing unless nat_lt 0 k
    ∷ Arcs unless ahead? s t
    ∷ Marks unless suffices? s t k
    ∷ PastLimit unless in_limits? (firing_ahead t k s)
    ∷ []
table s (fuse_places p q a b) =
    NoTransition unless (there s a && there s b)
    ∷ NoPlace unless (stands s p && stands s q)
    ∷ NotDistinct unless not (p == q)
    ∷ Support unless (not (in_support s p) && not (in_support s q))
    ∷ Arcs unless (carries? s a p q && carries? s b q p)
    ∷ PastLimit unless in_limits? (fusing p q s)
    ∷ []

abbrev pub next : State → Step → State
next s (drop_dominated t u) = dropping t s
next s (drop_multiple t u k) = dropping t s
next s (drop_composed t u v) = dropping t s
next s (drop_draining t) = dropping t s
next s (drop_starved t p) = dropping t s
next s (keep_sourceless t) = keeping_only t s
next s (remove_plentiful p) = leaving p s
next s (remove_implied p q k) = leaving p s
next s (drop_siphon z) = dropping_takers (member z) s
next s (limit_to z) = limiting (member z) s
next s (post_agglomerate p) = post_merging p s
next s (pre_agglomerate p) = pre_merging p s
next s (free_agglomerate p) = pre_merging p s
next s (fire_ahead t k) = firing_ahead t k s
next s (fuse_places p q a b) = fusing p q s

-- A step is taken when its table lets it pass, and then leads to its next state.
abbrev pub step : State → Step → Result State Refusal
step s x = judged (table s x) (next s x)

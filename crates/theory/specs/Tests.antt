-- The conditions of the steps as tests that compute, of a state. Beside each stands, in the proofs, that it says the same as the
-- condition in words of the net that the state holds.
use Rattle.std.specs.Prelude.{ℕ, ◌+◌, ◌-◌, ◌*◌, ◌/◌, ◌%◌, ◌^◌, Bool, false, cond, not, ◌&&◌, ◌||◌, nat_lt, nat_le, List, filter, Option, ◌==◌, nat_eq, slice_index}
use Rattle.std.specs.List.{range_with_len, list_all, list_any, find}
use Rattle.std.specs.Option.{unwrap_or}
use Rattle.net.specs.Sheets.{Row, most_mark, most_weight}
use Rattle.net.specs.States.{State, stands, in_support, mark, take, put}

-- The test holds of every number below `n`; of some number below `n`. These stay shut, since opened they would be counted out.
unfoldable pub every : ℕ → (ℕ → Bool) → Bool
every n f = list_all f (range_with_len 0 n)

unfoldable pub some : ℕ → (ℕ → Bool) → Bool
some n f = list_any f (range_with_len 0 n)

-- The lowest number below `n` of which the test holds, if there is one; else `n`.
unfoldable pub lowest : ℕ → (ℕ → Bool) → Option ℕ
lowest n f = find f (range_with_len 0 n)

abbrev pub first : ℕ → (ℕ → Bool) → ℕ
first n f = unwrap_or (lowest n f) n

abbrev pub every_place : (ℕ → Bool) → Bool
every_place f = every 64 f

abbrev pub some_place : (ℕ → Bool) → Bool
some_place f = some 64 f

abbrev pub every_transition : State → (ℕ → Bool) → Bool
every_transition s f = every s.transitions f

abbrev pub some_transition : State → (ℕ → Bool) → Bool
some_transition s f = some s.transitions f

infixr 25 ◌⇒◌
abbrev pub ◌⇒◌ : Bool → Bool → Bool
a ⇒ b = not a || b

-- Transitions: `t` is dominated by `u`, a multiple of it, composed of `u` and `v`, draining, or without a source.
abbrev pub dominated? : State → ℕ → ℕ → Bool
dominated? s t u = every_place (λ p. nat_le (take s u p) (take s t p) && (put s t p + take s u p) == (put s u p + take s t p))

abbrev pub multiple? : State → ℕ → ℕ → ℕ → Bool
multiple? s t u k = every_place (λ p. ((take s t p) == (k * take s u p)) && put s t p == k * put s u p)

abbrev pub composed_at? : State → ℕ → ℕ → ℕ → ℕ → Bool
composed_at? s t u v p =
    nat_le (take s u p) (take s t p)
    && (nat_le (take s v p) (put s u p) && (put s t p + take s u p + take s v p) == (put s u p + put s v p + take s t p))

abbrev pub composed? : State → ℕ → ℕ → ℕ → Bool
composed? s t u v = every_place (composed_at? s t u v)

abbrev pub draining? : State → ℕ → Bool
draining? s t = every_place (λ p. nat_le (put s t p) (take s t p) && (in_support s p ⇒ nat_eq (put s t p) (take s t p)))

abbrev pub sourceless? : State → ℕ → Bool
sourceless? s t = every_place (λ p. nat_eq (take s t p) 0)

-- Places: nothing puts into `p`, and `t` starves there; `p` never loses and always has enough; `q` ⇒ it, and the mark covers.
abbrev pub unfed? : State → ℕ → Bool
unfed? s p = every_transition s (λ u. nat_eq (put s u p) 0)

abbrev pub starved? : State → ℕ → ℕ → Bool
starved? s t p = nat_lt (mark s p) (take s t p)

abbrev pub never_loses? : State → ℕ → Bool
never_loses? s p = every_transition s (λ t. nat_le (take s t p) (put s t p))

abbrev pub always_enough? : State → ℕ → Bool
always_enough? s p = every_transition s (λ t. nat_le (take s t p) (mark s p))

abbrev pub implied? : State → ℕ → ℕ → ℕ → Bool
implied? s p q k =
    every_transition s (λ t. nat_le (take s t p) (k * take s t q) && nat_le (k * put s t q + take s t p) (put s t p + k * take s t q))

abbrev pub covers? : State → ℕ → ℕ → ℕ → Bool
covers? s p q k = nat_le (k * mark s q) (mark s p)

-- Sets of places, in eight bytes: place 8 × i + j is in the set when bit j of byte i is 1.
abbrev pub member : List ℕ → ℕ → Bool
member bs p = cond (nat_lt p 64) ((slice_index bs (p / 8) / 2 ^ (p % 8)) % 2 == 1) false

abbrev pub takes_from? : State → (ℕ → Bool) → ℕ → Bool
takes_from? s z t = some_place (λ r. z r && nat_lt 0 (take s t r))

abbrev pub puts_into? : State → (ℕ → Bool) → ℕ → Bool
puts_into? s z t = some_place (λ q. z q && nat_lt 0 (put s t q))

abbrev pub siphon? : State → (ℕ → Bool) → Bool
siphon? s z = every_transition s (λ t. puts_into? s z t ⇒ takes_from? s z t)

abbrev pub dry? : State → (ℕ → Bool) → Bool
dry? s z = every_place (λ q. z q ⇒ nat_eq (mark s q) 0)

abbrev pub outside : (ℕ → Bool) → ℕ → Bool
outside z p = not (z p)

-- In the set no positive effect, and on the support no effect.
abbrev pub falls? : State → (ℕ → Bool) → ℕ → Bool
falls? s z t = every_place (λ q. (z q ⇒ nat_le (put s t q) (take s t q)) && (in_support s q ⇒ nat_eq (put s t q) (take s t q)))

abbrev pub sufficient? : State → (ℕ → Bool) → Bool
sufficient? s z = every_transition s (λ t. takes_from? s (outside z) t ⇒ falls? s z t)

abbrev pub holds_support? : State → (ℕ → Bool) → Bool
holds_support? s z = every_place (λ q. in_support s q ⇒ z q)

abbrev pub members_stand? : State → (ℕ → Bool) → Bool
members_stand? s z = every_place (λ q. z q ⇒ stands s q)

abbrev pub has_member? : (ℕ → Bool) → Bool
has_member? z = some_place z

-- Feeders and consumers of `p`, by number and as lists, ascending.
abbrev pub feeder? : State → ℕ → ℕ → Bool
feeder? s p t = nat_lt 0 (put s t p)

abbrev pub consumer? : State → ℕ → ℕ → Bool
consumer? s p t = nat_lt 0 (take s t p)

abbrev pub those : (ℕ → Bool) → ℕ → List ℕ
those keep n = filter keep (range_with_len 0 n)

abbrev pub feeders : State → ℕ → List ℕ
feeders s p = those (feeder? s p) s.transitions

abbrev pub consumers : State → ℕ → List ℕ
consumers s p = those (consumer? s p) s.transitions

abbrev pub two_sided? : State → ℕ → Bool
two_sided? s p =
    some_transition s (feeder? s p) && (some_transition s (consumer? s p) && every_transition s (λ t. not (feeder? s p t && consumer? s p t)))

-- Post-agglomeration: the consumers' sentence, and the one on weights, by the weight of the first consumer.
abbrev pub post_consumers? : State → ℕ → Bool
post_consumers? s p =
    every_transition s (λ f. consumer? s p f ⇒ every_place (λ q. (not (q == p) ⇒ nat_eq (take s f q) 0) && (in_support s q ⇒ nat_eq (put s f q) 0)))

abbrev pub first_weight : State → ℕ → ℕ
first_weight s p = take s (first s.transitions (consumer? s p)) p

abbrev pub one_consumer? : State → ℕ → Bool
one_consumer? s p =
    every_transition s (λ f. consumer? s p f ⇒ nat_eq f (first s.transitions (consumer? s p)))
    && every_transition s (λ h. feeder? s p h ⇒ nat_eq (put s h p % first_weight s p) 0)

abbrev pub all_equal? : State → ℕ → Bool
all_equal? s p =
    every_transition s (λ t. (consumer? s p t ⇒ nat_eq (take s t p) (first_weight s p)) && (feeder? s p t ⇒ nat_eq (put s t p) (first_weight s p)))

abbrev pub post_weights? : State → ℕ → Bool
post_weights? s p = one_consumer? s p || all_equal? s p

-- Free and pre-agglomeration: the feeders' sentences, and the consumers'.
abbrev pub free_feeders? : State → ℕ → Bool
free_feeders? s p =
    every_transition s (λ h. feeder? s p h ⇒ (put s h p == 1
    && every_place (λ q. (not (q == p) ⇒ nat_eq (put s h q) 0) && (in_support s q ⇒ nat_eq (take s h q) 0))))

abbrev pub free_consumers? : State → ℕ → Bool
free_consumers? s p = every_transition s (λ f. consumer? s p f ⇒ nat_eq (take s f p) 1)

abbrev pub pre_feeders? : State → ℕ → Bool
pre_feeders? s p =
    every_transition s (λ h. feeder? s p h ⇒ (some_place (λ q. nat_lt 0 (take s h q))
    && every_place (λ q. nat_lt 0 (take s h q) ⇒ every_transition s (λ u. nat_lt 0 (take s u q) ⇒ nat_eq u h))))

abbrev pub unmarked? : State → ℕ → Bool
unmarked? s p = mark s p == 0

-- Firing ahead: `source s t` is the first place that `t` takes from.
abbrev pub source : State → ℕ → ℕ
source s t = first 64 (λ p. nat_lt 0 (take s t p))

abbrev pub ahead? : State → ℕ → Bool
ahead? s t =
    nat_lt (source s t) 64
    && (every_place (λ q. not (q == source s t) ⇒ nat_eq (take s t q) 0)
    && (every_transition s (λ u. nat_lt 0 (take s u (source s t)) ⇒ nat_eq u t)
    && (put s t (source s t) == 0
    && (every_place (λ q. in_support s q ⇒ nat_eq (put s t q) 0) && not (in_support s (source s t))))))

abbrev pub suffices? : State → ℕ → ℕ → Bool
suffices? s t k = nat_le (k * take s t (source s t)) (mark s (source s t))

-- Fusion: `a` only takes 1 from `p` and puts 1 into `q`.
abbrev pub carries? : State → ℕ → ℕ → ℕ → Bool
carries? s a p q =
    ((take s a p) == 1)
    && (put s a q == 1
    && every_place (λ r. (not (r == p) ⇒ nat_eq (take s a r) 0) && (not (r == q) ⇒ nat_eq (put s a r) 0)))

-- Limits: the numbers that a step adds up are within them: the marks after `k` firings of `t`, the sums of a fusion, the rows of
-- an agglomeration.
abbrev pub mark_ahead : State → ℕ → ℕ → ℕ → ℕ
mark_ahead s t k p = (mark s p - k * take s t p) + k * put s t p

abbrev pub ahead_fits? : State → ℕ → ℕ → Bool
ahead_fits? s t k = every_place (λ p. nat_le (mark_ahead s t k p) most_mark)

abbrev pub fusion_fits? : State → ℕ → ℕ → Bool
fusion_fits? s p q =
    nat_le (mark s p + mark s q) most_mark
    && every_transition s (λ t. nat_le (take s t p + take s t q) most_weight && nat_le (put s t p + put s t q) most_weight)

abbrev pub products_fit? : State → ℕ → (ℕ → ℕ → Row) → Bool
products_fit? s p product =
    every_transition s (λ h. feeder? s p h ⇒ every_transition s (λ f. consumer? s p f
    ⇒ every_place (λ q. nat_le ((product h f).takes q) most_weight && nat_le ((product h f).puts q) most_weight)))

-- The numbers that a step leaves as they are: the weights of a transition, those of all, and for an agglomeration the marks and the
-- weights of what neither feeds `p` nor consumes from it.
abbrev pub row_fits? : State → ℕ → Bool
row_fits? s t = every_place (λ p. nat_le (take s t p) most_weight && nat_le (put s t p) most_weight)

abbrev pub rows_fit? : State → Bool
rows_fit? s = every_transition s (row_fits? s)

abbrev pub rest_fits? : State → ℕ → Bool
rest_fits? s p =
    every_place (λ q. nat_le (mark s q) most_mark)
    && every_transition s (λ t. (not (feeder? s p t) && not (consumer? s p t)) ⇒ row_fits? s t)

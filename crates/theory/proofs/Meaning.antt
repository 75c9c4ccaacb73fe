-- Each test of a condition says the same as the condition in words.
use Rattle.std.proofs.Common.{◌≡◌, ℕ, ◌+◌, ◌*◌, ◌/◌, ◌%◌, ◌<◌, ◌≤◌, Bool, true, false, not, ◌&&◌, eqb, ltb, ◌≢◌, ◌⊎◌, List, length, sym, ap, ◌∙◌, subst, inl, inr, add-zero, mul-zero, div-add-mod', arith}
use native.Mathlib.Nat.{mul-mod_left}
use native.Mathlib.Fin
use Rattle.std.proofs.lemmas.Bool.{both_ways, cases_lt, cases_eq, le-ltb, lt-ltb, ltb-true, leb-true, le-leb, eqb-true, eq-eqb, and_parts, and_from, not-true, not_from_false, false≢true}
use Rattle.std.proofs.lemmas.List.{get_or_past}
use Rattle.net.specs.Sheets.{part, most_mark, most_weight}
use Rattle.net.specs.States.{State, stands, in_support, mark, take, put}
use Rattle.theory.specs.Nexts.{Feeder, Consumer}
use Rattle.theory.specs.Conditions.{Dominated, Multiple, Composed, Draining, Unfed, Starved, Sourceless, NeverLoses, AlwaysEnough, Implied, Covers, TakesFrom, Siphon, Dry, TakesOutside, Sufficient, HoldsSupport, TwoSided, Unmarked, PostConsumers, OneConsumer, AllEqual, PostWeights, FreeFeeders, FreeConsumers, PreFeeders, Ahead, Suffices, Carries}
use Rattle.theory.specs.Tests.{every, some, first, dominated?, multiple?, composed?, draining?, sourceless?, unfed?, starved?, never_loses?, always_enough?, implied?, covers?, member, takes_from?, puts_into?, siphon?, dry?, outside, falls?, sufficient?, holds_support?, members_stand?, has_member?, feeder?, consumer?, two_sided?, post_consumers?, first_weight, one_consumer?, all_equal?, post_weights?, free_feeders?, free_consumers?, pre_feeders?, unmarked?, source, ahead?, suffices?, carries?}
use Rattle.theory.specs.Steps.{in_limits?}
use Rattle.theory.specs.Laws.{net_of, Supports}
use Rattle.theory.specs.Words.{InLimits}
use Rattle.theory.proofs.Says.{Says, leb_says, ltb_says, eqb_says, true_says, not_says, and_says, or_says, implies_says, restated, every_says, some_says, every_at, every_from, some_at, some_from, first_holds, first_below}

-- A test of every place says something of all numbers, if that holds anyway past the last place.
pub place_says : (f : ℕ → Bool) (P : ℕ → Type 0) → ((p : ℕ) → p < 64 → Says (f p) (P p)) → ((p : ℕ) → 64 ≤ p → P p) → Says (every 64 f) ((p : ℕ) → P p)
place_says f P s past = restated (every_says 64 f P s) (λ h p. go h p (cases_lt p 64)) (λ h p _. h p)
  where
    go : ((p : ℕ) → p < 64 → P p) → (p : ℕ) → (p < 64) ⊎ (64 ≤ p) → P p
    go h p (inl l) = h p l
    go h p (inr g) = past p g

-- A test of every transition says something of the transitions of the net.
pub trans_says : (s : State) (f : ℕ → Bool) (P : (net_of s).Trans → Type 0) → ((t : ℕ) (a : t < s.transitions) → Says (f t) (P (t, a)))
    → Says (every s.transitions f) ((t : (net_of s).Trans) → P t)
trans_says s f P h = (
  λ e t. (h t.0 t.1).0 (every_at s.transitions f e t.0 t.1),
  λ k. every_from s.transitions f (λ t a. (h t a).1 (k (t, a))),
)

pub part_past : (xs : List ℕ) (b p : ℕ) → 64 ≤ p → part xs b p ≡ 0
part_past xs b p h = rw (le-ltb p 64 h)

pub weight_below : (xs : List ℕ) (b p : ℕ) → 0 < part xs b p → p < 64
weight_below xs b p l = go (cases_lt p 64)
  where
    go : (p < 64) ⊎ (64 ≤ p) → p < 64
    go (inl h) = h
    go (inr g) = absurd (omega (arith, part_past xs b p g))

module _ (s : State) where
  pub no_take : (t p : ℕ) → 64 ≤ p → take s t p ≡ 0
  no_take t p g = part_past s.sheet (64 + 128 * t) p g

  pub no_put : (t p : ℕ) → 64 ≤ p → put s t p ≡ 0
  no_put t p g = part_past s.sheet (128 + 128 * t) p g

  pub no_mark : (p : ℕ) → 64 ≤ p → mark s p ≡ 0
  no_mark p g = part_past s.sheet 0 p g

  -- What takes from a place, or puts there, does so at one of the 64.
  pub take_below : (t p : ℕ) → 0 < take s t p → p < 64
  take_below t p l = weight_below s.sheet (64 + 128 * t) p l

  pub put_below : (t p : ℕ) → 0 < put s t p → p < 64
  put_below t p l = weight_below s.sheet (128 + 128 * t) p l

  pub same_trans : {t u : (net_of s).Trans} → t.0 ≡ u.0 → t ≡ u
  same_trans e = Fin.val_path e

  supports_says : (p : ℕ) → Says (in_support s p) (Supports s p)
  supports_says p = true_says (in_support s p)

  pub dominated_says : (t u : ℕ) (a : t < s.transitions) (b : u < s.transitions) → Says (dominated? s t u) (Dominated (net_of s) (t, a) (u, b))
  dominated_says t u a b =
      place_says _ _ (λ p _. and_says (leb_says (take s u p) (take s t p)) (eqb_says (put s t p + take s u p) (put s u p + take s t p)))
      (λ p g. (omega (arith, no_take u p g), omega (arith, no_take u p g, no_take t p g, no_put t p g, no_put u p g)))

  zero_times : (k x y : ℕ) → x ≡ 0 → y ≡ 0 → x ≡ k * y
  zero_times k x y e f = e ∙ sym (ap (λ (z : ℕ). k * z) f ∙ mul-zero k)

  pub multiple_says : (t u k : ℕ) (a : t < s.transitions) (b : u < s.transitions) → Says (multiple? s t u k) (Multiple (net_of s) (t, a) (u, b) k)
  multiple_says t u k a b =
      place_says _ _ (λ p _. and_says (eqb_says (take s t p) (k * take s u p)) (eqb_says (put s t p) (k * put s u p)))
      (λ p g. (zero_times k _ _ (no_take t p g) (no_take u p g), zero_times k _ _ (no_put t p g) (no_put u p g)))

  pub composed_says : (t u v : ℕ) (a : t < s.transitions) (b : u < s.transitions) (c : v < s.transitions)
      → Says (composed? s t u v) (Composed (net_of s) (t, a) (u, b) (v, c))
  composed_says t u v a b c =
      restated
      (place_says _
      (λ p. (take s u p ≤ take s t p) × ((take s v p ≤ put s u p) × (put s t p + take s u p + take s v p ≡ put s u p + put s v p + take s t p)))
      (λ p _. and_says (leb_says (take s u p) (take s t p))
      (and_says (leb_says (take s v p) (put s u p)) (eqb_says (put s t p + take s u p + take s v p) (put s u p + put s v p + take s t p))))
      (λ p g. (
        omega (arith, no_take u p g),
        (omega (arith, no_take v p g), omega (arith, no_take u p g, no_take v p g, no_take t p g, no_put t p g, no_put u p g, no_put v p g)),
      )))
      (λ h p. let x = h p in (x.0, x.1.0, x.1.1)) (λ h p. let x = h p in (x.0, (x.1, x.2)))

  pub draining_says : (t : ℕ) (a : t < s.transitions) → Says (draining? s t) (Draining (Supports s) (net_of s) (t, a))
  draining_says t a =
      place_says _ _ (λ p _. and_says (leb_says (put s t p) (take s t p)) (implies_says (supports_says p) (eqb_says (put s t p) (take s t p))))
      (λ p g. (omega (arith, no_put t p g), λ _. no_put t p g ∙ sym (no_take t p g)))

  pub sourceless_says : (t : ℕ) (a : t < s.transitions) → Says (sourceless? s t) (Sourceless (net_of s) (t, a))
  sourceless_says t a = place_says _ _ (λ p _. eqb_says (take s t p) 0) (λ p g. no_take t p g)

  pub unfed_says : (p : ℕ) → Says (unfed? s p) (Unfed (net_of s) p)
  unfed_says p = trans_says s _ _ (λ u _. eqb_says (put s u p) 0)

  pub starved_says : (t p : ℕ) (a : t < s.transitions) → Says (starved? s t p) (Starved (net_of s) (t, a) p)
  starved_says t p a = ltb_says (mark s p) (take s t p)

  pub never_loses_says : (p : ℕ) → Says (never_loses? s p) (NeverLoses (net_of s) p)
  never_loses_says p = trans_says s _ _ (λ t _. leb_says (take s t p) (put s t p))

  pub always_enough_says : (p : ℕ) → Says (always_enough? s p) (AlwaysEnough (net_of s) p)
  always_enough_says p = trans_says s _ _ (λ t _. leb_says (take s t p) (mark s p))

  pub implied_says : (p q k : ℕ) → Says (implied? s p q k) (Implied (net_of s) p q k)
  implied_says p q k =
      restated
      (trans_says s _ (λ t. (take s t.0 p ≤ k * take s t.0 q) × (k * put s t.0 q + take s t.0 p ≤ put s t.0 p + k * take s t.0 q))
      (λ t _. and_says (leb_says (take s t p) (k * take s t q)) (leb_says (k * put s t q + take s t p) (put s t p + k * take s t q))))
      (λ h. record { asks = λ t. (h t).0; gains = λ t. (h t).1 }) (λ r t. (r.asks t, r.gains t))

  pub covers_says : (p q k : ℕ) → Says (covers? s p q k) (Covers (net_of s) p q k)
  covers_says p q k = leb_says (k * mark s q) (mark s p)

  -- Sets of places.
  abbrev Taker : (ℕ → Bool) → ℕ → Type 0
  Taker z t = (r : ℕ) × (r < 64) × ((z r ≡ true) × (0 < take s t r))

  takes_in : (z : ℕ → Bool) (t : ℕ) → Says (takes_from? s z t) (Taker z t)
  takes_in z t = some_says 64 _ _ (λ r _. and_says (true_says (z r)) (ltb_says 0 (take s t r)))

  pub takes_from_says : (z : ℕ → Bool) (t : ℕ) (a : t < s.transitions) → Says (takes_from? s z t) (TakesFrom (net_of s) z (t, a))
  takes_from_says z t a =
      restated (takes_in z t) (λ x. (x.0, x.2.0, x.2.1)) (λ x. (x.0, take_below t x.0 x.2, (x.1, x.2)))

  pub takes_outside_says : (z : ℕ → Bool) (t : ℕ) (a : t < s.transitions) → Says (takes_from? s (outside z) t) (TakesOutside (net_of s) z (t, a))
  takes_outside_says z t a =
      restated (takes_in (outside z) t) (λ x. (x.0, not-true (z x.0) x.2.0, x.2.1))
      (λ x. (x.0, take_below t x.0 x.2, (not_from_false (z x.0) x.1, x.2)))

  puts_into_says : (z : ℕ → Bool) (t : ℕ) → Says (puts_into? s z t) ((q : ℕ) × (q < 64) × ((z q ≡ true) × (0 < put s t q)))
  puts_into_says z t = some_says 64 _ _ (λ q _. and_says (true_says (z q)) (ltb_says 0 (put s t q)))

  pub siphon_says : (z : ℕ → Bool) → Says (siphon? s z) (Siphon (net_of s) z)
  siphon_says z =
      restated
      (trans_says s _ (λ t. ((q : ℕ) × (q < 64) × ((z q ≡ true) × (0 < put s t.0 q))) → TakesFrom (net_of s) z t)
      (λ t a. implies_says (puts_into_says z t) (takes_from_says z t a)))
      (λ h t q e l. h t (q, put_below t.0 q l, (e, l))) (λ h t x. h t x.0 x.2.0 x.2.1)

  pub dry_says : (z : ℕ → Bool) → Says (dry? s z) (Dry (net_of s) z)
  dry_says z = place_says _ _ (λ q _. implies_says (true_says (z q)) (eqb_says (mark s q) 0)) (λ q g _. no_mark q g)

  falls_says : (z : ℕ → Bool) (t : ℕ)
      → Says (falls? s z t) ((q : ℕ) → (z q ≡ true → put s t q ≤ take s t q) × (Supports s q → put s t q ≡ take s t q))
  falls_says z t =
      place_says _ _
      (λ q _. and_says (implies_says (true_says (z q)) (leb_says (put s t q) (take s t q)))
      (implies_says (supports_says q) (eqb_says (put s t q) (take s t q))))
      (λ q g. (λ _. omega (arith, no_put t q g), λ _. no_put t q g ∙ sym (no_take t q g)))

  pub sufficient_says : (z : ℕ → Bool) → Says (sufficient? s z) (Sufficient (Supports s) (net_of s) z)
  sufficient_says z =
      restated
      (trans_says s _
      (λ t. TakesOutside (net_of s) z t
      → (q : ℕ) → (z q ≡ true → put s t.0 q ≤ take s t.0 q) × (Supports s q → put s t.0 q ≡ take s t.0 q))
      (λ t a. implies_says (takes_outside_says z t a) (falls_says z t)))
      (λ h. record { falls = λ t x q. (h t x q).0; still = λ t x q. (h t x q).1 }) (λ r t x q. (r.falls t x q, r.still t x q))

  pub members_stand_says : (z : ℕ → Bool) → ((p : ℕ) → 64 ≤ p → z p ≡ false) → Says (members_stand? s z) ((p : ℕ) → z p ≡ true → stands s p ≡ true)
  members_stand_says z past =
      place_says _ _ (λ q _. implies_says (true_says (z q)) (true_says (stands s q))) (λ q g e. absurd (both_ways (z q) (past q g) e))

  -- The support has no place past the last.
  pub supports_below : length s.support ≡ 64 → (p : ℕ) → 64 ≤ p → Supports s p → ⊥
  supports_below l p g e = false≢true (sym (get_or_past s.support p false (omega arith)) ∙ e)

  pub holds_support_says : (z : ℕ → Bool) → length s.support ≡ 64 → Says (holds_support? s z) (HoldsSupport (Supports s) z)
  holds_support_says z l = place_says _ _ (λ q _. implies_says (supports_says q) (true_says (z q))) (λ q g e. absurd (supports_below l q g e))

  -- The neighbourhood of a place.
  feeder_says : (p t : ℕ) → Says (feeder? s p t) (0 < put s t p)
  feeder_says p t = ltb_says 0 (put s t p)

  consumer_says : (p t : ℕ) → Says (consumer? s p t) (0 < take s t p)
  consumer_says p t = ltb_says 0 (take s t p)

  some_trans : (f : ℕ → Bool) (P : (net_of s).Trans → Type 0) → ((t : ℕ) (a : t < s.transitions) → Says (f t) (P (t, a)))
      → Says (some s.transitions f) ((t : (net_of s).Trans) × P t)
  some_trans f P h = (
    λ e. let x = some_at s.transitions f e in ((x.0, x.1), (h x.0 x.1).0 x.2),
    λ x. some_from s.transitions f x.0.0 x.0.1 ((h x.0.0 x.0.1).1 x.1),
  )

  pub two_sided_says : (p : ℕ) → Says (two_sided? s p) (TwoSided (net_of s) p)
  two_sided_says p =
      restated
      (and_says (some_trans (feeder? s p) (Feeder (net_of s) p) (λ t _. feeder_says p t))
      (and_says (some_trans (consumer? s p) (Consumer (net_of s) p) (λ t _. consumer_says p t))
      (trans_says s _ (λ t. Feeder (net_of s) p t × Consumer (net_of s) p t → ⊥) (λ t _. not_says (and_says (feeder_says p t) (consumer_says p t))))))
      (λ x. record { fed = x.0; consumed = x.1.0; apart = λ t h f. x.1.1 t (h, f) })
      (λ r. (r.fed, (r.consumed, λ t x. r.apart t x.0 x.1)))

  other_says : (p q : ℕ) → Says (not (eqb q p)) (q ≢ p)
  other_says p q = not_says (eqb_says q p)

  pub post_consumers_says : (p : ℕ) → Says (post_consumers? s p) (PostConsumers (Supports s) (net_of s) p)
  post_consumers_says p =
      restated
      (trans_says s _
      (λ f. Consumer (net_of s) p f → (q : ℕ) → (q ≢ p → take s f.0 q ≡ 0) × (Supports s q → put s f.0 q ≡ 0))
      (λ f _. implies_says (consumer_says p f)
      (place_says _ _
      (λ q _. and_says (implies_says (other_says p q) (eqb_says (take s f q) 0)) (implies_says (supports_says q) (eqb_says (put s f q) 0)))
      (λ q g. (λ _. no_take f q g, λ _. no_put f q g)))))
      (λ h. record { alone = λ f c q. (h f c q).0; hidden = λ f c q. (h f c q).1 }) (λ r f c q. (r.alone f c q, r.hidden f c q))

  pub free_feeders_says : (p : ℕ) → Says (free_feeders? s p) (FreeFeeders (Supports s) (net_of s) p)
  free_feeders_says p =
      restated
      (trans_says s _
      (λ h. Feeder (net_of s) p h
      → (put s h.0 p ≡ 1) × ((q : ℕ) → (q ≢ p → put s h.0 q ≡ 0) × (Supports s q → take s h.0 q ≡ 0)))
      (λ h _. implies_says (feeder_says p h)
      (and_says (eqb_says (put s h p) 1)
      (place_says _ _
      (λ q _. and_says (implies_says (other_says p q) (eqb_says (put s h q) 0)) (implies_says (supports_says q) (eqb_says (take s h q) 0)))
      (λ q g. (λ _. no_put h q g, λ _. no_take h q g))))))
      (λ x. record { gives = λ h f. (x h f).0; alone = λ h f q. ((x h f).1 q).0; hidden = λ h f q. ((x h f).1 q).1 })
      (λ r h f. (r.gives h f, λ q. (r.alone h f q, r.hidden h f q)))

  pub free_consumers_says : (p : ℕ) → Says (free_consumers? s p) (FreeConsumers (net_of s) p)
  free_consumers_says p = trans_says s _ _ (λ f _. implies_says (consumer_says p f) (eqb_says (take s f p) 1))

  pub pre_feeders_says : (p : ℕ) → Says (pre_feeders? s p) (PreFeeders (net_of s) p)
  pre_feeders_says p =
      restated
      (trans_says s _
      (λ h. Feeder (net_of s) p h
      → ((q : ℕ) × (q < 64) × (0 < take s h.0 q))
      × ((q : ℕ) → 0 < take s h.0 q → (u : (net_of s).Trans) → 0 < take s u.0 q → u.0 ≡ h.0))
      (λ h _. implies_says (feeder_says p h)
      (and_says (some_says 64 _ _ (λ q _. ltb_says 0 (take s h q)))
      (place_says _ _
      (λ q _. implies_says (ltb_says 0 (take s h q)) (trans_says s _ _ (λ u _. implies_says (ltb_says 0 (take s u q)) (eqb_says u h))))
      (λ q g l. absurd (omega (arith, no_take h q g)))))))
      (λ x. record {
        somewhere = λ h f. let y = (x h f).0 in (y.0, y.2);
        own = λ h u f q l k. same_trans ((x h f).1 q l u k);
      })
      (λ r h f. (
        let y = r.somewhere h f in (y.0, take_below h.0 y.0 y.1, y.1),
        λ q l u k. ap (λ (t : (net_of s).Trans). t.0) (r.own h u f q l k),
      ))

  pub unmarked_says : (p : ℕ) → Says (unmarked? s p) (Unmarked (net_of s) p)
  unmarked_says p = eqb_says (mark s p) 0

  pub carries_says : (a p q : ℕ) (c : a < s.transitions) → Says (carries? s a p q) (Carries (net_of s) (a, c) p q)
  carries_says a p q c =
      restated
      (and_says (eqb_says (take s a p) 1)
      (and_says (eqb_says (put s a q) 1)
      (place_says _ (λ r. (r ≢ p → take s a r ≡ 0) × (r ≢ q → put s a r ≡ 0))
      (λ r _. and_says (implies_says (other_says p r) (eqb_says (take s a r) 0)) (implies_says (other_says q r) (eqb_says (put s a r) 0)))
      (λ r g. (λ _. no_take a r g, λ _. no_put a r g)))))
      (λ x. record { takes = x.0; puts = x.1.0; no_takes = λ r. (x.1.1 r).0; no_puts = λ r. (x.1.1 r).1 })
      (λ r. (r.takes, (r.puts, λ k. (r.no_takes k, r.no_puts k))))

  -- The weights at a place that has a consumer: those of the first consumer tell.
  module _ (p : ℕ) (T : TwoSided (net_of s) p) where
    head : (first s.transitions (consumer? s p) < s.transitions) × (consumer? s p (first s.transitions (consumer? s p)) ≡ true)
    head =
        let x = T.consumed in
        first_holds s.transitions (consumer? s p) (some_from s.transitions (consumer? s p) x.0.0 x.0.1 ((consumer_says p x.0.0).1 x.1))

    abbrev lead : (net_of s).Trans
    lead = (first s.transitions (consumer? s p), head.0)

    leads : Consumer (net_of s) p lead
    leads = (consumer_says p (first s.transitions (consumer? s p))).0 head.1

    one_consumer_says : Says (one_consumer? s p) (OneConsumer (net_of s) p)
    one_consumer_says =
        restated
        (and_says
        (trans_says s _ (λ f. Consumer (net_of s) p f → f.0 ≡ lead.0)
        (λ f _. implies_says (consumer_says p f) (eqb_says f (first s.transitions (consumer? s p)))))
        (trans_says s _ (λ h. Feeder (net_of s) p h → put s h.0 p % first_weight s p ≡ 0)
        (λ h _. implies_says (feeder_says p h) (eqb_says (put s h p % first_weight s p) 0))))
        (λ x. record {
          only = λ f g c d. same_trans (x.0 f c ∙ sym (x.0 g d));
          multiple = λ h f c d. (
            put s h.0 p / first_weight s p,
            sym (div-add-mod' (put s h.0 p) (first_weight s p))
                ∙ ap (λ (r : ℕ). (put s h.0 p / first_weight s p) * first_weight s p + r) (x.1 h c)
                ∙ add-zero _
                ∙ ap (λ (t : ℕ). (put s h.0 p / first_weight s p) * take s t p) (sym (x.0 f d)),
          );
        })
        (λ r. (
          λ f c. ap (λ (t : (net_of s).Trans). t.0) (r.only f lead c leads),
          λ h c. let m = r.multiple h lead c leads in ap (λ (n : ℕ). n % first_weight s p) m.1 ∙ mul-mod_left m.0 (first_weight s p),
        ))

    all_equal_says : Says (all_equal? s p) (AllEqual (net_of s) p)
    all_equal_says =
        restated
        (trans_says s _
        (λ t. (Consumer (net_of s) p t → take s t.0 p ≡ first_weight s p) × (Feeder (net_of s) p t → put s t.0 p ≡ first_weight s p))
        (λ t _. and_says (implies_says (consumer_says p t) (eqb_says (take s t p) (first_weight s p)))
        (implies_says (feeder_says p t) (eqb_says (put s t p) (first_weight s p)))))
        (λ x. (first_weight s p, λ f. (x f).0, λ h. (x h).1))
        (λ x t. (λ c. x.1 t c ∙ sym (x.1 lead leads), λ c. x.2 t c ∙ sym (x.1 lead leads)))

    pub post_weights_says : Says (post_weights? s p) (PostWeights (net_of s) p)
    post_weights_says = or_says one_consumer_says all_equal_says

  -- The place that a transition fires ahead from.
  module _ (t k : ℕ) (a : t < s.transitions) where
    abbrev AheadOf : ℕ → Type 0
    AheadOf p = Ahead (Supports s) (net_of s) (t, a) p

    source_is : (p : ℕ) → AheadOf p → source s t ≡ p
    source_is p r =
        let f : ℕ → Bool = λ q. ltb 0 (take s t q) in
        let x = first_holds 64 f (some_from 64 f p (take_below t p r.takes) (lt-ltb 0 (take s t p) r.takes)) in
        go (ltb-true 0 (take s t (source s t)) x.1) (cases_eq (source s t) p)
      where
        go : 0 < take s t (source s t) → (source s t ≡ p) ⊎ (source s t ≡ p → ⊥) → source s t ≡ p
        go l (inl e) = e
        go l (inr n) = absurd (omega (arith, r.alone (source s t) n))

    ahead_from : ahead? s t ≡ true → AheadOf (source s t)
    ahead_from e =
        let x = and_parts _ _ e in
        let y = and_parts _ _ x.1 in
        let z = and_parts _ _ y.1 in
        let v = and_parts _ _ z.1 in
        let w = and_parts _ _ v.1 in
        let f : ℕ → Bool = λ q. ltb 0 (take s t q) in
        record {
          takes = ltb-true 0 _ (first_holds 64 f (first_below 64 f (ltb-true _ 64 x.0))).1;
          alone =
              (place_says _ (λ q. q ≢ source s t → take s t q ≡ 0) (λ q _. implies_says (other_says (source s t) q) (eqb_says (take s t q) 0))
              (λ q g _. no_take t q g)).0 y.0;
          only = λ u l.
              same_trans ((trans_says s _ (λ v. 0 < take s v.0 (source s t) → v.0 ≡ t)
              (λ v _. implies_says (ltb_says 0 (take s v (source s t))) (eqb_says v t))).0 z.0 u l);
          dry = eqb-true _ _ v.0;
          hidden =
              (place_says _ (λ q. Supports s q → put s t q ≡ 0) (λ q _. implies_says (supports_says q) (eqb_says (put s t q) 0))
              (λ q g _. no_put t q g)).0 w.0;
          outside = λ h. both_ways (in_support s (source s t)) (not-true _ w.1) h;
        }

    ahead_to : AheadOf (source s t) → ahead? s t ≡ true
    ahead_to r =
        and_from _ _ (lt-ltb _ 64 (take_below t (source s t) r.takes))
        (and_from _ _
        ((place_says _ (λ q. q ≢ source s t → take s t q ≡ 0) (λ q _. implies_says (other_says (source s t) q) (eqb_says (take s t q) 0))
        (λ q g _. no_take t q g)).1 r.alone)
        (and_from _ _
        ((trans_says s _ (λ v. 0 < take s v.0 (source s t) → v.0 ≡ t)
        (λ v _. implies_says (ltb_says 0 (take s v (source s t))) (eqb_says v t))).1 (λ u l. ap (λ (v : (net_of s).Trans). v.0) (r.only u l)))
        (and_from _ _ (eq-eqb _ _ r.dry)
        (and_from _ _
        ((place_says _ (λ q. Supports s q → put s t q ≡ 0) (λ q _. implies_says (supports_says q) (eqb_says (put s t q) 0))
        (λ q g _. no_put t q g)).1 r.hidden)
        ((not_says (supports_says (source s t))).1 r.outside)))))

    pub ahead_says : Says (ahead? s t && suffices? s t k) ((p : ℕ) × AheadOf p × Suffices (net_of s) (t, a) k p)
    ahead_says = (
      λ e. let x = and_parts (ahead? s t) (suffices? s t k) e in (source s t, ahead_from x.0, leb-true _ _ x.1),
      λ x. let i = source_is x.0 x.1 in
          and_from (ahead? s t) (suffices? s t k) (ahead_to (subst AheadOf (sym i) x.1))
          (le-leb _ _ (subst (λ (p : ℕ). k * take s t p ≤ mark s p) (sym i) x.2)),
    )

-- The numbers of a state are in their limits.
pub in_limits_says : (s : State) → Says (in_limits? s) (InLimits s)
in_limits_says s =
    restated
    (and_says (place_says _ (λ p. mark s p ≤ most_mark) (λ p _. leb_says (mark s p) most_mark) (λ p g. omega (arith, no_mark s p g)))
    (trans_says s _ (λ t. (p : ℕ) → (take s t.0 p ≤ most_weight) × (put s t.0 p ≤ most_weight))
    (λ t _. place_says _ _ (λ p _. and_says (leb_says (take s t p) most_weight) (leb_says (put s t p) most_weight))
    (λ p g. (omega (arith, no_take s t p g), omega (arith, no_put s t p g))))))
    (λ x. record { marks = x.0; takes = λ t p a. (x.1 (t, a) p).0; puts = λ t p a. (x.1 (t, a) p).1 })
    (λ r. (r.marks, λ t p. (r.takes t.0 p t.1, r.puts t.0 p t.1)))

-- Members of a set of eight bytes.
pub member_below : (bs : List ℕ) (p : ℕ) → 64 ≤ p → member bs p ≡ false
member_below bs p g = rw (le-ltb p 64 g)

pub has_member_says : (bs : List ℕ) → Says (has_member? (member bs)) ((p : ℕ) × (member bs p ≡ true))
has_member_says bs =
    restated (some_says 64 _ (λ p. member bs p ≡ true) (λ p _. true_says (member bs p))) (λ x. (x.0, x.2))
    (λ x. (x.0, go x.0 x.1 (cases_lt x.0 64), x.1))
  where
    go : (p : ℕ) → member bs p ≡ true → (p < 64) ⊎ (64 ≤ p) → p < 64
    go p e (inl l) = l
    go p e (inr g) = absurd (both_ways (member bs p) (member_below bs p g) e)

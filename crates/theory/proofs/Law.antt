-- The law of every step that may be taken from a finite net.
use Rattle.std.proofs.Common.{◌≡◌, ℕ, zero, suc, ◌<◌, ◌≤◌, Bool, true, false, ◌⊎◌, subst, inl, inr, arith}
use native.Mathlib.Decide.{dec_lt}
use mathlib.Core.Bool.{Bool-discrete}
use Rattle.std.proofs.lemmas.Bool.{cases_eq, cases_lt, both_ways}
use Rattle.net.specs.declared.net.Question.{Question}
use Rattle.theory.specs.Nets.{Marking, Net, Enabled, SameReach, SameStandstill, asks_reach, asks_standstill, Law, SameNet, Finite}
use Rattle.theory.specs.Taken.{Taken, dominated, multiple, composed, draining, starved, sourceless, plentiful, implied, siphon, limit, post_agglomeration, pre_agglomeration, free_agglomeration, ahead, fusion}
use Rattle.theory.proofs.Runs.{SameAnswers, same_net_answers, reach_trans, standstill_trans}
use Rattle.theory.proofs.Drops.{dominated_answers, multiple_answers, composed_answers, draining_reach, starved_answers, sourceless_standstill, siphon_answers}
use Rattle.theory.proofs.Places.{plentiful_answers, implied_answers}
use Rattle.theory.proofs.Post.{post_answers}
use Rattle.theory.proofs.Pre.{free_reach, pre_standstill}
use Rattle.theory.proofs.Advance.{ahead_answers}
use Rattle.theory.proofs.Fuse.{fusion_answers}
use Rattle.theory.proofs.Limit.{limited_reach}

-- Two decisions together.
both : {A B : Type 0} → Dec A → Dec B → Dec (A × B)
both (yes a) (yes b) = yes (a, b)
both (yes a) (no n) = no (λ x. n x.1)
both (no n) b = no (λ x. n x.0)

-- A search below `n` decides whether there is a place, if each place is decided.
some_below : (n : ℕ) (P : ℕ → Type 0) → ((p : ℕ) → Dec (P p)) → Dec ((p : ℕ) × (p < n) × P p)
some_below zero P d = no (λ x. omega (arith, x.1))
some_below (suc n) P d = go (d n) (some_below n P d)
  where
    go : Dec (P n) → Dec ((p : ℕ) × (p < n) × P p) → Dec ((p : ℕ) × (p < suc n) × P p)
    go (yes a) b = yes (n, omega arith, a)
    go (no a) (yes b) = yes (b.0, omega (arith, b.1), b.2)
    go (no a) (no b) = no (λ x. last x.0 x.1 x.2 (cases_eq x.0 n))
      where
        last : (p : ℕ) → p < suc n → P p → (p ≡ n) ⊎ (p ≡ n → ⊥) → ⊥
        last p l h (inl e) = a (subst P e h)
        last p l h (inr k) = b (p, omega arith, h)

-- In a finite net the places that a transition takes from are found so.
module _ (N : Net) (F : Finite N) where
  takes_below : (t : N.Trans) (p : ℕ) → 0 < N.take t p → p < F.places
  takes_below t p l = go (cases_lt p F.places)
    where
      go : (p < F.places) ⊎ (F.places ≤ p) → p < F.places
      go (inl b) = b
      go (inr b) = absurd (omega (arith, (F.beyond t p b).0))

  -- Whether a transition takes from a place of which `z` is `b`.
  takes_where : (z : ℕ → Bool) (b : Bool) (t : N.Trans) → Dec ((r : ℕ) × (z r ≡ b) × (0 < N.take t r))
  takes_where z b t =
      go (some_below F.places (λ r. (z r ≡ b) × (0 < N.take t r)) (λ r. both (Bool-discrete (z r) b) (dec_lt 0 (N.take t r))))
    where
      go : Dec ((r : ℕ) × (r < F.places) × ((z r ≡ b) × (0 < N.take t r))) → Dec ((r : ℕ) × (z r ≡ b) × (0 < N.take t r))
      go (yes x) = yes (x.0, x.2.0, x.2.1)
      go (no n) = no (λ x. n (x.0, takes_below t x.0 x.2, (x.1, x.2)))

  -- Whether a transition is enabled: whether no place has too few tokens.
  enabled_decided : (t : N.Trans) (m : Marking) → Dec (Enabled N t m)
  enabled_decided t m = go (some_below F.places (λ p. m p < N.take t p) (λ p. dec_lt (m p) (N.take t p)))
    where
      at : (((p : ℕ) × (p < F.places) × (m p < N.take t p)) → ⊥) → (p : ℕ) → (m p < N.take t p) ⊎ (N.take t p ≤ m p) → N.take t p ≤ m p
      at n p (inl l) = absurd (n (p, takes_below t p (omega arith), l))
      at n p (inr l) = l

      go : Dec ((p : ℕ) × (p < F.places) × (m p < N.take t p)) → Dec (Enabled N t m)
      go (yes x) = no (λ h. omega (arith, x.2, h x.0))
      go (no n) = yes (λ p. at n p (cases_lt (m p) (N.take t p)))

-- From the step's own next net `A` to `N'`, which is the same but for names and order; a question that is not asked needs no
-- answer.
module _ (S : ℕ → Type 0) (Q : Question) (N A N' : Net) (E : SameNet A N') where
  law_of_both : SameAnswers S N A → Law S Q N N'
  law_of_both a =
      let b = same_net_answers S A N' E in
      record { reach = λ _. reach_trans S N A N' a.0 b.0; standstill = λ _. standstill_trans S N A N' a.1 b.1 }

  law_of_reach : asks_standstill Q ≡ false → SameReach S N A → Law S Q N N'
  law_of_reach unasked a =
      record {
        reach = λ _. reach_trans S N A N' a (same_net_answers S A N' E).0;
        standstill = λ asked. absurd (both_ways (asks_standstill Q) unasked asked);
      }

  law_of_standstill : asks_reach Q ≡ false → SameStandstill S N A → Law S Q N N'
  law_of_standstill unasked a =
      record {
        reach = λ asked. absurd (both_ways (asks_reach Q) unasked asked);
        standstill = λ _. standstill_trans S N A N' a (same_net_answers S A N' E).1;
      }

-- Every step keeps the answers to the questions that are asked.
pub law : (S : ℕ → Type 0) (Q : Question) (N N' : Net) → Finite N → Taken S Q N N' → Law S Q N N'
law S Q N N' F (dominated t u n c E) = law_of_both S Q N _ N' E (dominated_answers S N t (λ v. F.same v t) u n c)
law S Q N N' F (multiple t u k n some c E) = law_of_both S Q N _ N' E (multiple_answers S N t (λ v. F.same v t) u k n some c)
law S Q N N' F (composed t u v n n' c E) = law_of_both S Q N _ N' E (composed_answers S N t (λ w. F.same w t) u v n n' c)
law S Q N N' F (draining t unasked c E) = law_of_reach S Q N _ N' E unasked (draining_reach S N t (λ v. F.same v t) c)
law S Q N N' F (starved t p falls c E) = law_of_both S Q N _ N' E (starved_answers S N t (λ v. F.same v t) p falls c)
law S Q N N' F (sourceless t unasked c E) = law_of_standstill S Q N _ N' E unasked (sourceless_standstill S N t c)
law S Q N N' F (plentiful p outside rises enough E) = law_of_both S Q N _ N' E (plentiful_answers S N p outside rises enough)
law S Q N N' F (implied p q k outside differ some c covers E) = law_of_both S Q N _ N' E (implied_answers S N p q k outside differ c covers)
law S Q N N' F (siphon z closed dry E) = law_of_both S Q N _ N' E (siphon_answers S N z (takes_where N F z true) closed dry)
law S Q N N' F (limit z unasked holds c E) = law_of_reach S Q N _ N' E unasked (limited_reach S N z (takes_where N F z false) holds c)
law S Q N N' F (post_agglomeration p outside T C W unmarked E) = law_of_both S Q N _ N' E (post_answers S N p outside T C W unmarked)
law S Q N N' F (pre_agglomeration p outside T H O C unmarked E) =
    law_of_both S Q N _ N' E
    (free_reach S N p outside T H C unmarked, pre_standstill S N p outside T H C unmarked O (enabled_decided N F) F.all F.listed)
law S Q N N' F (free_agglomeration p unasked outside T H C unmarked E) =
    law_of_reach S Q N _ N' E unasked (free_reach S N p outside T H C unmarked)
law S Q N N' F (ahead t k p c enough E) = law_of_both S Q N _ N' E (ahead_answers S N t k p c enough)
law S Q N N' F (fusion p q a b outside outside' differ A B E) =
    law_of_both S Q N _ N' E (fusion_answers S N p q a b outside outside' differ A B)

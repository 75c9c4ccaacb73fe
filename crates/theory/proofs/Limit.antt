-- The net limited to a set of places that holds the support: transitions that take from outside are dropped, and the places
-- outside go.
use Rattle.std.proofs.Common.{◌≡◌, ℕ, ◌<◌, ◌≤◌, Bool, true, false, ◌⊎◌, sym, inl, inr, arith}
use Rattle.std.proofs.lemmas.Bool.{cases_Bool}
use Rattle.theory.specs.Nets.{Marking, Net, Enabled, fire, Leads, SameReach}
use Rattle.theory.specs.Nexts.{without, inside, limited}
use Rattle.theory.specs.Conditions.{TakesOutside, Sufficient, HoldsSupport}
use Rattle.theory.proofs.Runs.{Fires, leads_self, leads_fire, mutual_reach}

module _ (S : ℕ → Type 0) (N : Net) (z : ℕ → Bool) (takes_outside : (t : N.Trans) → Dec (TakesOutside N z t))
    (holds : HoldsSupport S z) (C : Sufficient S N z) where
  abbrev Next : Net
  Next = limited z (without N (TakesOutside N z))

  -- To prove something of every place, prove it of those inside and of those outside.
  by_side : (P : ℕ → Type 0) → ((q : ℕ) → z q ≡ true → P q) → ((q : ℕ) → z q ≡ false → P q) → (q : ℕ) → P q
  by_side P a b q = go (cases_Bool (z q))
    where
      go : (z q ≡ true) ⊎ (z q ≡ false) → P q
      go (inl e) = a q e
      go (inr e) = b q e

  inside_true : (f : ℕ → ℕ) (q : ℕ) → z q ≡ true → inside z f q ≡ f q
  inside_true f q e = rw e

  inside_false : (f : ℕ → ℕ) (q : ℕ) → z q ≡ false → inside z f q ≡ 0
  inside_false f q e = rw e

  -- A kept transition takes nothing from outside.
  kept_takes : (t : N.Trans) → (TakesOutside N z t → ⊥) → (q : ℕ) → z q ≡ false → N.take t q ≡ 0
  kept_takes t n q e = let k : ¬ (0 < N.take t q) = λ l. n (q, e, l) in omega arith

  -- To the next net: inside it has at least as many tokens, and on the support the same, for the dropped transitions only lose
  -- tokens there.
  abbrev Above : Marking → Marking → Type 0
  Above m m' = (q : ℕ) → (z q ≡ true → m q ≤ m' q) × (S q → m q ≡ m' q)

  above_step : (t : N.Trans) (m m₁ m' : Marking) → Above m m' → Fires N t m m₁ → Dec (TakesOutside N z t)
      → (m₁' : Marking) × Leads Next m' m₁' × Above m₁ m₁'
  above_step t m m₁ m' r f (yes d) = (
    m',
    leads_self Next m',
    λ q. (λ e. omega (arith, (r q).0 e, C.falls t d q e, f q), λ s. omega (arith, (r q).1 s, C.still t d q s, f q)),
  )
  above_step t m m₁ m' r f (no k) = (
    fire Next (t, k) m',
    leads_fire Next (t, k) m' on,
    λ q. (
      λ e. omega (arith, (r q).0 e, f q, inside_true (N.take t) q e, inside_true (N.put t) q e),
      λ s. omega (arith, (r q).1 s, f q, inside_true (N.take t) q (holds q s), inside_true (N.put t) q (holds q s)),
    ),
  )
    where
      on : Enabled Next (t, k) m'
      on =
          by_side (λ q. inside z (N.take t) q ≤ m' q) (λ q e. omega (arith, (r q).0 e, f q, inside_true (N.take t) q e))
          (λ q e. omega (arith, inside_false (N.take t) q e))

  -- From the next net back: inside, the markings are the same.
  abbrev Within : Marking → Marking → Type 0
  Within m' m = (q : ℕ) → z q ≡ true → m' q ≡ m q

  within_step : (t : Next.Trans) (m' m₁' m : Marking) → Within m' m → Fires Next t m' m₁' → (m₁ : Marking) × Leads N m m₁ × Within m₁' m₁
  within_step t m' m₁' m r f = (
    fire N t.0 m,
    leads_fire N t.0 m on,
    λ q e. omega (arith, r q e, f q, inside_true (N.take t.0) q e, inside_true (N.put t.0) q e),
  )
    where
      on : Enabled N t.0 m
      on =
          by_side (λ q. N.take t.0 q ≤ m q) (λ q e. omega (arith, r q e, f q, inside_true (N.take t.0) q e))
          (λ q e. omega (arith, kept_takes t.0 t.1 q e))

  pub limited_reach : SameReach S N Next
  limited_reach =
      mutual_reach S N Next Above Within
      (record {
        begins = λ q. (λ e. omega (arith, inside_true N.start q e), λ s. sym (inside_true N.start q (holds q s)));
        steps = λ t m m₁ m' r f. above_step t m m₁ m' r f (takes_outside t);
        agrees = λ m m' r q s. (r q).1 s;
      })
      (record {
        begins = λ q e. inside_true N.start q e;
        steps = within_step;
        agrees = λ m m' r q s. r q (holds q s);
      })

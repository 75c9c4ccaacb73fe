-- Firing ahead of time: firings that nothing can prevent may as well come first.
use Rattle.std.proofs.Common.{◌≡◌, ℕ, zero, suc, ◌*◌, ◌<◌, ◌≤◌, ap, subst, arith}
use native.Mathlib.Decide.{dec_lt}
use Rattle.theory.specs.Nets.{Marking, Net, Same, Enabled, fire, Leads, Dead}
use Rattle.theory.specs.Nexts.{fired}
use Rattle.theory.specs.Conditions.{Ahead, Suffices}
use Rattle.theory.proofs.Runs.{Fires, FiresTimes, leads_self, leads_one, leads_fire, leads_times, leads_trans, dead_cong, Simulation, simulated_reach, simulated_standstill, SameAnswers}
use Rattle.theory.proofs.Places.{at_each}

module _ (S : ℕ → Type 0) (N : Net) (t : N.Trans) (k p : ℕ) (A : Ahead S N t p) (enough : Suffices N t k p) where
  abbrev Next : Net
  Next = fired N t k

  -- The second marking is the first after some more firings of `t`.
  abbrev Advanced : Marking → Marking → Type 0
  Advanced m m' = (j : ℕ) × FiresTimes N t j m m'

  abbrev Matched : Marking → Marking → Type 0
  Matched m₁ m' = (m₁' : Marking) × Leads Next m' m₁' × Advanced m₁ m₁'

  -- `t` takes from `p` alone, so that `p` alone must have the tokens.
  can_fire : (j : ℕ) (m : Marking) → j * N.take t p ≤ m p → (q : ℕ) → j * N.take t q ≤ m q
  can_fire j m h = at_each p (λ q. j * N.take t q ≤ m q) h (λ q n. omega (arith, ap (λ x. j * x) (A.alone q n)))

  first : FiresTimes N t k N.start Next.start
  first q = let c = can_fire k N.start enough q in (c, omega arith)

  -- A transition that takes nothing from `p` fires on both sides.
  other_step : (u : N.Trans) (m m₁ m' : Marking) (j : ℕ) → N.take u p ≡ 0 → FiresTimes N t j m m' → Fires N u m m₁ → Matched m₁ m'
  other_step u m m₁ m' j z r f = (fire N u m', leads_fire Next u m' on, (j, λ q. (left q, omega (arith, r q, f q, on q))))
    where
      on : Enabled N u m'
      on = at_each p (λ q. N.take u q ≤ m' q) (omega arith) (λ q n. omega (arith, f q, r q, ap (λ x. j * x) (A.alone q n)))

      left : (q : ℕ) → j * N.take t q ≤ m₁ q
      left = can_fire j m₁ (omega (arith, r p, f p))

  -- A firing of `t` is the first of those ahead, if there are any.
  own_step : (m m₁ m' : Marking) (j : ℕ) → FiresTimes N t j m m' → Fires N t m m₁ → Matched m₁ m'
  own_step m m₁ m' zero r f = (
    m₁,
    leads_one Next t m' m₁ (λ q. (omega (arith, r q, f q), omega (arith, r q, f q))),
    (0, λ q. (omega arith, omega arith)),
  )
  own_step m m₁ m' (suc j) r f = (m', leads_self Next m', (j, λ q. (omega (arith, r q, f q), omega (arith, r q, f q))))

  step : (u : N.Trans) (m m₁ m' : Marking) (j : ℕ) → FiresTimes N t j m m' → Fires N u m m₁ → Dec (0 < N.take u p) → Matched m₁ m'
  step u m m₁ m' j r f (yes l) = own_step m m₁ m' j r (subst (λ x. Fires N x m m₁) (A.only u l) f)
  step u m m₁ m' j r f (no l) = other_step u m m₁ m' j (omega arith) r f

  next_runs : Simulation S N Next Advanced
  next_runs =
      record {
        begins = (k, first);
        steps = λ u m m₁ m' r f. step u m m₁ m' r.0 r.1 f (dec_lt 0 (N.take u p));
        agrees =
            λ m m' r.
            at_each p (λ q. S q → m q ≡ m' q) (λ s. absurd (A.outside s))
            (λ q n s. omega (arith, r.1 q, ap (λ x. r.0 * x) (A.alone q n), ap (λ x. r.0 * x) (A.hidden q s)));
      }

  -- The other way, the firings ahead come first in the old net.
  old_runs : (e : Marking) → Leads Next Next.start e → Leads N N.start e
  old_runs e r = leads_trans N N.start Next.start e (leads_times N t k N.start Next.start first) r

  -- In a dead marking no firing of `t` is ahead, since `t` is not enabled.
  dead_even : (m m' : Marking) (j : ℕ) → FiresTimes N t j m m' → Dead N m → Same m m'
  dead_even m m' zero r d q = omega (arith, r q)
  dead_even m m' (suc j) r d q = absurd (d t (λ x. omega (arith, r x)))

  pub ahead_answers : SameAnswers S N Next
  ahead_answers = (
    λ v. (simulated_reach S N Next Advanced next_runs v, λ h. (h.0, old_runs h.0 h.1, h.2)),
    λ v. (
      simulated_standstill S N Next Advanced next_runs
          (λ m m' r d.
          let s = dead_even m m' r.0 r.1 d in
          (m', leads_self Next m', dead_cong N m m' s d, λ q x. s q)) v,
      λ h. (h.0, old_runs h.0 h.1, h.2, h.3),
    ),
  )

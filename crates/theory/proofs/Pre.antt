-- Pre-agglomeration and free agglomeration: a feeder waits until a consumer of its token fires, and the two become one transition.
use Rattle.std.proofs.Common.{◌≡◌, ℕ, zero, suc, ◌+◌, ◌<◌, ◌≤◌, ◌≢◌, ◌⊎◌, List, [], ◌∷◌, length, sym, refl, subst, inl, inr, arith}
use native.Mathlib.Decide.{dec_lt}
use mathlib.Core.List.Memᴰ
use mathlib.Core.List.{Memᴰ}
use Rattle.theory.specs.Nets.{Marking, Net, Same, Enabled, fire, Leads, Dead, Agree, SameReach, SameStandstill}
use Rattle.theory.specs.Nexts.{off, Feeder, Consumer, Merged, pre}
use Rattle.theory.specs.Conditions.{TwoSided, Unmarked, FreeFeeders, FreeConsumers, PreFeeders}
use Rattle.theory.proofs.Runs.{Fires, fire_fires, leads_self, leads_one, leads_fire, leads_step, leads_cong, leads_trans, dead_cong, Simulation, DeadMatched, mutual_reach, mutual_standstill}
use Rattle.theory.proofs.Places.{off_here, off_there, at_each}
use Rattle.theory.proofs.Post.{Kind, kind, consumer_puts, feeder_takes}

-- A bundle of feeders, and what they take together.
abbrev Bundle : (N : Net) → ℕ → Type 0
Bundle N p = List ((h : N.Trans) × Feeder N p h)

abbrev takes : (N : Net) (p : ℕ) → Bundle N p → ℕ → ℕ
takes N p [] q = 0
takes N p (h ∷ hs) q = N.take h.0 q + takes N p hs q

-- The conditions of free agglomeration.
module _ (S : ℕ → Type 0) (N : Net) (p : ℕ) (outside : S p → ⊥) (T : TwoSided N p) (H : FreeFeeders S N p) (C : FreeConsumers N p)
    (unmarked : Unmarked N p) where
  -- To the next net: for each token at `p` there is a feeder that waits there.
  abbrev Waiting : Marking → Marking → Bundle N p → Type 0
  Waiting m m' hs = (length hs ≡ m p) × (m' p ≡ 0) × ((q : ℕ) → q ≢ p → m' q ≡ m q + takes N p hs q)

  abbrev Late : Marking → Marking → Type 0
  Late m m' = (hs : Bundle N p) × Waiting m m' hs

  abbrev Matched : Marking → Marking → Type 0
  Matched m₁ m' = (m₁' : Marking) × Leads (pre N p) m' m₁' × Late m₁ m₁'

  late_untouched : (t : N.Trans) (n : Feeder N p t → ⊥) (n' : Consumer N p t → ⊥) (m m₁ m' : Marking) → Late m m' → Fires N t m m₁ → Matched m₁ m'
  late_untouched t n n' m m₁ m' r f = (
    fire (pre N p) x m',
    leads_fire (pre N p) x m' on,
    (r.0, (omega (arith, r.1.0, f p), omega (arith, r.1.1), λ q d. omega (arith, r.1.2 q d, f q, on q))),
  )
    where
      x : Merged N p
      x = inl (t, n, n')

      on : Enabled (pre N p) x m'
      on = at_each p (λ q. N.take t q ≤ m' q) (omega arith) (λ q d. omega (arith, r.1.2 q d, f q))

  late_feeder : (t : N.Trans) → Feeder N p t → (m m₁ m' : Marking) → Late m m' → Fires N t m m₁ → Matched m₁ m'
  late_feeder t b m m₁ m' r f = (
    m',
    leads_self (pre N p) m',
    (
      (t, b) ∷ r.0,
      (
        omega (arith, r.1.0, f p, H.gives t b, feeder_takes N p T t b),
        r.1.1,
        λ q d. omega (arith, r.1.2 q d, f q, H.alone t b q d),
      ),
    ),
  )

  late_consumer : (t : N.Trans) → Consumer N p t → (m m₁ m' : Marking) (hs : Bundle N p) → Waiting m m' hs → Fires N t m m₁ → Matched m₁ m'
  late_consumer t u m m₁ m' [] r f = absurd (omega (arith, r.0, f p))
  late_consumer t u m m₁ m' (h ∷ hs) r f = (
    fire (pre N p) x m',
    leads_fire (pre N p) x m' on,
    (
      hs,
      (
        omega (arith, r.0, f p, C t u, consumer_puts N p T t u),
        omega (arith, r.1, feeder_takes N p T h.0 h.1, off_here p (N.take t), consumer_puts N p T t u),
        λ q d. omega (arith, r.2 q d, f q, on q, off_there p q (N.take t) d),
      ),
    ),
  )
    where
      x : Merged N p
      x = inr (h.0, t, h.1, u)

      on : Enabled (pre N p) x m'
      on =
          at_each p (λ q. N.take h.0 q + off p (N.take t) q ≤ m' q)
          (omega (arith, feeder_takes N p T h.0 h.1, off_here p (N.take t)))
          (λ q d. omega (arith, r.2 q d, f q, off_there p q (N.take t) d))

  late_step : (t : N.Trans) (m m₁ m' : Marking) → Late m m' → Fires N t m m₁ → Kind N p t → Matched m₁ m'
  late_step t m m₁ m' r f (inl n) = late_untouched t n.0 n.1 m m₁ m' r f
  late_step t m m₁ m' r f (inr (inl b)) = late_feeder t b m m₁ m' r f
  late_step t m m₁ m' r f (inr (inr u)) = late_consumer t u m m₁ m' r.0 r.1 f

  -- Feeders take nothing from the support.
  unseen : (hs : Bundle N p) (q : ℕ) → S q → takes N p hs q ≡ 0
  unseen [] q s = refl
  unseen (h ∷ hs) q s = omega (arith, unseen hs q s, H.hidden h.0 h.1 q s)

  late_agrees : (m m' : Marking) → Late m m' → Agree S m m'
  late_agrees m m' r =
      at_each p (λ q. S q → m q ≡ m' q) (λ s. absurd (outside s)) (λ q d s. omega (arith, r.1.2 q d, unseen r.0 q s))

  new_runs : Simulation S N (pre N p) Late
  new_runs =
      record {
        begins = ([], (sym unmarked, unmarked, λ q d. omega arith));
        steps = λ t m m₁ m' r f. late_step t m m₁ m' r f (kind N p t);
        agrees = late_agrees;
      }

  -- From the next net back: a new transition is its feeder and then its consumer.
  abbrev Emptied : Marking → Marking → Type 0
  Emptied m' m = Same m' m × (m p ≡ 0)

  emptied_step : (t : Merged N p) (m' m₁' m : Marking) → Emptied m' m → Fires (pre N p) t m' m₁'
      → (m₁ : Marking) × Leads N m m₁ × Emptied m₁' m₁
  emptied_step (inl t) m' m₁' m r f = (
    m₁',
    leads_cong N m' m m₁' r.0 (leads_one N t.0 m' m₁' f),
    (λ q. refl, let a = t.1 in let b = t.2 in omega (arith, f p, r.0 p)),
  )
  emptied_step (inr x) m' m₁' m r f = (
    m₁',
    leads_step N h m m₂ m₁' (fire_fires N h m on)
        (leads_one N g m₂ m₁'
        (at_each p (λ q. (N.take g q ≤ m₂ q) × (m₁' q + N.take g q ≡ m₂ q + N.put g q))
        (omega (arith, feeder_takes N p T h x.2, H.gives h x.2, C g x.3, consumer_puts N p T g x.3, at))
        (λ q d. omega (arith, f q, r.0 q, on q, H.alone h x.2 q d, off_there p q (N.take g) d)))),
    (λ q. refl, at),
  )
    where
      h : N.Trans
      h = x.0

      g : N.Trans
      g = x.1

      on : Enabled N h m
      on q = omega (arith, f q, r.0 q)

      m₂ : Marking
      m₂ = fire N h m

      at : m₁' p ≡ 0
      at = omega (arith, f p, r.0 p, off_here p (N.take g), feeder_takes N p T h x.2, consumer_puts N p T g x.3)

  old_runs : Simulation S (pre N p) N Emptied
  old_runs =
      record {
        begins = (λ q. refl, unmarked);
        steps = emptied_step;
        agrees = λ m' m r q s. r.0 q;
      }

  pub free_reach : SameReach S N (pre N p)
  free_reach = mutual_reach S N (pre N p) Late Emptied new_runs old_runs

  -- The further condition of pre-agglomeration, in a net whose transitions are listed and in which it is decided whether one is
  -- enabled.
  module _ (O : PreFeeders N p) (decided : (t : N.Trans) (m : Marking) → Dec (Enabled N t m))
      (all : List N.Trans) (listed : (t : N.Trans) → Memᴰ t all) where
    -- What another transition takes from, a feeder does not.
    not_shared : (u : N.Trans) → (Feeder N p u → ⊥) → (q : ℕ) → 0 < N.take u q → (hs : Bundle N p) → takes N p hs q ≡ 0
    not_shared u n q l [] = refl
    not_shared u n q l (h ∷ hs) =
        let k : ¬ (0 < N.take h.0 q) = λ i. n (subst (Feeder N p) (sym (O.own h.0 u h.1 q i l)) h.1) in
        omega (arith, not_shared u n q l hs)

    -- So it has its tokens in the old net if it has them in the next one.
    not_waiting : (u : N.Trans) → (Feeder N p u → ⊥) → (m m' : Marking) → Late m m' → (q : ℕ) → q ≢ p → N.take u q ≤ m' q → N.take u q ≤ m q
    not_waiting u n m m' r q d h = go (dec_lt 0 (N.take u q))
      where
        go : Dec (0 < N.take u q) → N.take u q ≤ m q
        go (yes l) = omega (arith, r.1.2 q d, not_shared u n q l r.0)
        go (no l) = omega arith

    late_dead : (m m' : Marking) (r : Late m m') → Dead N m → Dead (pre N p) m'
    late_dead m m' r d (inl t) h =
        d t.0
        (at_each p (λ q. N.take t.0 q ≤ m q) (let a = t.2 in omega arith) (λ q n. not_waiting t.0 t.1 m m' r q n (h q)))
    late_dead m m' r d (inr x) h = go r.0 r.1
      where
        f : N.Trans
        f = x.1

        go : (hs : Bundle N p) → Waiting m m' hs → ⊥
        go [] s =
            d x.0
            (at_each p (λ q. N.take x.0 q ≤ m q) (omega (arith, feeder_takes N p T x.0 x.2)) (λ q n. omega (arith, s.2 q n, h q)))
        go (k ∷ hs) s =
            d f
            (at_each p (λ q. N.take f q ≤ m q) (omega (arith, s.0, C f x.3))
            (λ q n. not_waiting f (λ b. T.apart f b x.3) m m' r q n (omega (arith, h q, off_there p q (N.take f) n))))

    -- Back from a dead marking of the next net: the feeders fire until none is enabled. This is a marking after some firings of
    -- feeders.
    abbrev Fed : Marking → Marking → Type 0
    Fed m e = (hs : Bundle N p) × Leads N m e × (e p ≡ m p + length hs) × ((q : ℕ) → q ≢ p → e q + takes N p hs q ≡ m q)

    abbrev Below : Marking → Marking → Type 0
    Below e₁ e = (q : ℕ) → q ≢ p → e₁ q ≤ e q

    fed_once : (h : N.Trans) (b : Feeder N p h) (m e : Marking) → Fed m e → Enabled N h e → Fed m (fire N h e)
    fed_once h b m e x on = (
      (h, b) ∷ x.0,
      leads_trans N m e (fire N h e) x.1 (leads_fire N h e on),
      omega (arith, x.2, H.gives h b, feeder_takes N p T h b),
      λ q d. omega (arith, x.3 q d, H.alone h b q d, on q),
    )

    -- One feeder: it stops, since each firing takes a token from a place `o` that it does not put into.
    exhaust : (h : N.Trans) (b : Feeder N p h) (o : ℕ) → 0 < N.take h o → (n : ℕ) (m e : Marking) → e o ≤ n → Fed m e → Dec (Enabled N h e)
        → (e₁ : Marking) × Fed m e₁ × Below e₁ e × (Enabled N h e₁ → ⊥)
    exhaust h b o l n m e s x (no k) = (e, x, λ q d. omega arith, k)
    exhaust h b o l zero m e s x (yes k) = absurd (omega (arith, k o))
    exhaust h b o l (suc n) m e s x (yes k) =
        let y =
        exhaust h b o l n m (fire N h e) less (fed_once h b m e x k) (decided h (fire N h e)) in
        (y.0, y.1, λ q d. omega (arith, y.2 q d, H.alone h b q d, k q), y.3)
      where
        differ : o ≢ p
        differ e = omega (arith, feeder_takes N p T h b, subst (λ z. 0 < N.take h z) e l)

        less : fire N h e o ≤ n
        less = omega (arith, H.alone h b o differ, k o)

    exhaust_one : (t : N.Trans) (m e : Marking) → Fed m e → Dec (Feeder N p t)
        → (e₁ : Marking) × Fed m e₁ × Below e₁ e × (Feeder N p t → Enabled N t e₁ → ⊥)
    exhaust_one t m e x (no n) = (e, x, λ q d. omega arith, λ b h. n b)
    exhaust_one t m e x (yes b) =
        let o = O.somewhere t b in
        let y = exhaust t b o.0 o.1 (e o.0) m e (omega arith) x (decided t e) in
        (y.0, y.1, y.2, λ c. y.3)

    -- All of a list, one after the other: a firing of one enables no other.
    exhaust_all : (ts : List N.Trans) (m e : Marking) → Fed m e
        → (e₁ : Marking) × Fed m e₁ × Below e₁ e × ((t : N.Trans) → Memᴰ t ts → Feeder N p t → Enabled N t e₁ → ⊥)
    exhaust_all [] m e x = (e, x, λ q d. omega arith, λ t i. elim i [ ])
    exhaust_all (t ∷ ts) m e x =
        let y = exhaust_one t m e x (dec_lt 0 (N.put t p)) in
        let w = exhaust_all ts m y.0 y.1 in (
          w.0,
          w.1,
          λ q d. omega (arith, w.2 q d, y.2 q d),
          λ u i b h. none y.0 w.0 w.2 y.3 w.3 u b h (Memᴰ.cases_cons i),
        )
      where
        none : (e₁ e₂ : Marking) → Below e₂ e₁ → (Feeder N p t → Enabled N t e₁ → ⊥)
            → ((u : N.Trans) → Memᴰ u ts → Feeder N p u → Enabled N u e₂ → ⊥) → (u : N.Trans) → Feeder N p u → Enabled N u e₂
            → (u ≡ t) ⊎ Memᴰ u ts → ⊥
        none e₁ e₂ l first others u b h (inr i) = others u i b h
        none e₁ e₂ l first others u b h (inl e) =
            subst (λ z. Feeder N p z → Enabled N z e₁ → ⊥) (sym e) first b
            (at_each p (λ q. N.take u q ≤ e₁ q) (omega (arith, feeder_takes N p T u b)) (λ q n. omega (arith, h q, l q n)))

    -- Then the old net is dead, since the next net was dead before they fired.
    exhausted_dead : (m e : Marking) → m p ≡ 0 → Fed m e → Dead (pre N p) m → ((t : N.Trans) → Feeder N p t → Enabled N t e → ⊥) → Dead N e
    exhausted_dead m e z x d none t h = go (kind N p t)
      where
        consumed : Consumer N p t → (hs : Bundle N p) → e p ≡ m p + length hs → ((q : ℕ) → q ≢ p → e q + takes N p hs q ≡ m q) → ⊥
        consumed u [] a s = omega (arith, h p)
        consumed u (k ∷ hs) a s =
            d (inr (k.0, t, k.1, u))
            (at_each p (λ q. N.take k.0 q + off p (N.take t) q ≤ m q)
            (omega (arith, feeder_takes N p T k.0 k.1, off_here p (N.take t)))
            (λ q n. omega (arith, s q n, h q, off_there p q (N.take t) n)))

        go : Kind N p t → ⊥
        go (inl n) =
            d (inl (t, n.0, n.1))
            (at_each p (λ q. N.take t q ≤ m q) (let a = n.1 in omega arith) (λ q k. omega (arith, h q, x.3 q k)))
        go (inr (inl b)) = none t b h
        go (inr (inr u)) = consumed u x.0 x.2 x.3

    emptied_dead : DeadMatched S (pre N p) N Emptied
    emptied_dead m' m r d =
        let y = exhaust_all all m m ([], leads_self N m, omega arith, λ q n. omega arith) in
        let x = y.1 in (
          y.0,
          x.1,
          exhausted_dead m y.0 r.1 x (dead_cong (pre N p) m' m r.0 d) (λ t b h. y.3 t (listed t) b h),
          at_each p (λ q. S q → m' q ≡ y.0 q) (λ s. absurd (outside s)) (λ q n s. omega (arith, r.0 q, x.3 q n, unseen x.0 q s)),
        )

    pub pre_standstill : SameStandstill S N (pre N p)
    pre_standstill =
        mutual_standstill S N (pre N p) Late Emptied new_runs old_runs
        (λ m m' r d. (m', leads_self (pre N p) m', late_dead m m' r d, late_agrees m m' r)) emptied_dead

-- Post-agglomeration: a feeder and what its consumers do afterwards become one transition.
use Rattle.std.proofs.Common.{◌≡◌, ℕ, zero, suc, ◌+◌, ◌*◌, ◌/◌, ◌<◌, ◌≤◌, ◌≢◌, ◌⊎◌, List, [], ◌∷◌, length, sym, refl, ap, ◌∙◌, subst, inl, inr, arith}
use native.Mathlib.Decide.{dec_lt}
use native.Mathlib.Nat.{div-eq_of_eq-mul_left}
use Rattle.theory.specs.Nets.{Marking, Net, Same, Enabled, fire, Run, Leads, Dead, Agree}
use Rattle.theory.specs.Nexts.{off, Feeder, Consumer, Merged, post}
use Rattle.theory.specs.Conditions.{TwoSided, Unmarked, PostConsumers, PostWeights}
use Rattle.theory.proofs.Runs.{Fires, fire_fires, leads_same, leads_self, leads_one, leads_step, leads_cong, leads_times, leads_trans, dead_cong, Simulation, DeadMatched, simulated_reach, simulated_standstill, SameAnswers}
use Rattle.theory.proofs.Places.{off_here, off_there, at_each}

-- A transition does not touch `p`, or feeds it, or consumes from it.
abbrev pub Kind : (N : Net) → ℕ → N.Trans → Type 0
Kind N p t = ((Feeder N p t → ⊥) × (Consumer N p t → ⊥)) ⊎ (Feeder N p t ⊎ Consumer N p t)

pub kind : (N : Net) (p : ℕ) (t : N.Trans) → Kind N p t
kind N p t = go (dec_lt 0 (N.put t p)) (dec_lt 0 (N.take t p))
  where
    go : Dec (Feeder N p t) → Dec (Consumer N p t) → Kind N p t
    go (yes h) c = inr (inl h)
    go (no h) (yes c) = inr (inr c)
    go (no h) (no c) = inl (h, c)

-- No transition is both.
pub consumer_puts : (N : Net) (p : ℕ) → TwoSided N p → (f : N.Trans) → Consumer N p f → N.put f p ≡ 0
consumer_puts N p T f c = let n : ¬ (0 < N.put f p) = λ b. T.apart f b c in omega arith

pub feeder_takes : (N : Net) (p : ℕ) → TwoSided N p → (h : N.Trans) → Feeder N p h → N.take h p ≡ 0
feeder_takes N p T h b = let n : ¬ (0 < N.take h p) = λ c. T.apart h b c in omega arith

-- A bundle of consumers, and what they put together.
abbrev Bundle : (N : Net) → ℕ → Type 0
Bundle N p = List ((f : N.Trans) × Consumer N p f)

abbrev puts : (N : Net) (p : ℕ) → Bundle N p → ℕ → ℕ
puts N p [] q = 0
puts N p (f ∷ fs) q = N.put f.0 q + puts N p fs q

-- The consumers put the same; a feeder feeds one consumer.
abbrev PutsAlike : (N : Net) → ℕ → Type 0
PutsAlike N p = (f g : N.Trans) → Consumer N p f → Consumer N p g → (q : ℕ) → N.put f q ≡ N.put g q

abbrev FeedsOne : (N : Net) → ℕ → (N.Trans → ℕ) → Type 0
FeedsOne N p k = (h : N.Trans) → Feeder N p h → k h ≡ 1

-- Each consumer takes `w`, and a feeder `h` puts what `k h` consumers take. Either it does not matter which consumers fire for a
-- feeder, or it is one.
module _ (S : ℕ → Type 0) (N : Net) (p : ℕ) (outside : S p → ⊥) (T : TwoSided N p) (C : PostConsumers S N p) (unmarked : Unmarked N p)
    (w : ℕ) (positive : 0 < w) (k : N.Trans → ℕ) (weighs : (f : N.Trans) → Consumer N p f → N.take f p ≡ w)
    (feeds : (h : N.Trans) → Feeder N p h → N.put h p ≡ k h * w) (choice : PutsAlike N p ⊎ FeedsOne N p k) where
  -- One consumer stands for all where any will do.
  abbrev f₀ : N.Trans
  f₀ = T.consumed.0

  abbrev c₀ : Consumer N p f₀
  c₀ = T.consumed.1

  -- The quotient in the puts of a new transition.
  quotient : (h f : N.Trans) → Feeder N p h → Consumer N p f → N.put h p / N.take f p ≡ k h
  quotient h f b c = div-eq_of_eq-mul_left c (feeds h b ∙ ap (λ x. k h * x) (sym (weighs f c)))

  shares : (h f : N.Trans) → Feeder N p h → Consumer N p f → (q : ℕ) → (N.put h p / N.take f p) * N.put f q ≡ k h * N.put f q
  shares h f b c q = ap (λ x. x * N.put f q) (quotient h f b c)

  -- A consumer fires until `p` is empty.
  empties : (f : N.Trans) → Consumer N p f → (n : ℕ) (m e : Marking) → m p ≡ n * w → e p ≡ 0
      → ((q : ℕ) → q ≢ p → e q ≡ m q + n * N.put f q) → Leads N m e
  empties f c n m e a z h =
      leads_times N f n m e
      (at_each p (λ q. (n * N.take f q ≤ m q) × (e q + n * N.take f q ≡ m q + n * N.put f q))
      (omega (arith, ap (λ x. n * x) (weighs f c), ap (λ x. n * x) (consumer_puts N p T f c)))
      (λ q d. omega (arith, h q d, ap (λ x. n * x) (C.alone f c q d))))

  -- From the next net back: a new transition is its feeder, and then its consumer until `p` is empty.
  abbrev Emptied : Marking → Marking → Type 0
  Emptied m' m = Same m' m × (m p ≡ 0)

  emptied_step : (t : Merged N p) (m' m₁' m : Marking) → Emptied m' m → Fires (post N p) t m' m₁'
      → (m₁ : Marking) × Leads N m m₁ × Emptied m₁' m₁
  emptied_step (inl t) m' m₁' m r f = (
    m₁',
    leads_cong N m' m m₁' r.0 (leads_one N t.0 m' m₁' f),
    (λ q. refl, let a = t.1 in let b = t.2 in omega (arith, f p, r.0 p)),
  )
  emptied_step (inr x) m' m₁' m r f = (
    m₁',
    leads_step N h m m₂ m₁' (fire_fires N h m on)
        (empties g x.3 (k h) m₂ m₁' (omega (arith, feeder_takes N p T h x.2, feeds h x.2)) at
        (λ q d. omega (arith, f q, r.0 q, shares h g x.2 x.3 q, off_there p q (N.put h) d))),
    (λ q. refl, at),
  )
    where
      h : N.Trans
      h = x.0

      g : N.Trans
      g = x.1

      on : Enabled N h m
      on q = omega (arith, f q, r.0 q)

      m₂ : Marking
      m₂ = fire N h m

      at : m₁' p ≡ 0
      at =
          omega (arith, f p, r.0 p, off_here p (N.put h), ap (λ z. k h * z) (consumer_puts N p T g x.3), shares h g x.2 x.3 p)

  old_runs : Simulation S (post N p) N Emptied
  old_runs =
      record {
        begins = (λ q. refl, unmarked);
        steps = emptied_step;
        agrees = λ m' m r q s. r.0 q;
      }

  -- A marking with nothing at `p` is dead in both nets or in neither.
  old_dead : (t : N.Trans) (m : Marking) → m p ≡ 0 → Dead (post N p) m → Enabled N t m → Kind N p t → ⊥
  old_dead t m z d h (inl n) = d (inl (t, n.0, n.1)) h
  old_dead t m z d h (inr (inl b)) = d (inr (t, f₀, b, c₀)) h
  old_dead t m z d h (inr (inr c)) = omega (arith, h p)

  emptied_dead : DeadMatched S (post N p) N Emptied
  emptied_dead m' m r d =
      (m, leads_self N m, λ t h. old_dead t m r.1 (dead_cong (post N p) m' m r.0 d) h (kind N p t), λ q s. r.0 q)

  new_dead : (m : Marking) → Dead N m → Dead (post N p) m
  new_dead m d (inl t) h = d t.0 h
  new_dead m d (inr x) h = d x.0 h

  -- To the next net: `c` consumers that are to fire for the tokens at `p`, and a run of the next net from the marking in which
  -- they have fired.
  abbrev Promised : Marking → Marking → ℕ → Type 0
  Promised m e c =
      (fs : Bundle N p) × (length fs ≡ c)
      × ((m' : Marking) → m' p ≡ 0 → ((q : ℕ) → q ≢ p → m' q ≡ m q + puts N p fs q) → Leads (post N p) m' e)

  -- A feeder takes its share of a bundle: `j` firings of one consumer; `c` consumers are left.
  abbrev Split : Bundle N p → ℕ → ℕ → Type 0
  Split fs j c =
      (f : N.Trans) × Consumer N p f × ((rest : Bundle N p) × (length rest ≡ c) × ((q : ℕ) → puts N p fs q ≡ j * N.put f q + puts N p rest q))

  copies : ℕ → Bundle N p
  copies zero = []
  copies (suc n) = (f₀, c₀) ∷ copies n

  length_copies : (n : ℕ) → length (copies n) ≡ n
  unfolding copies
  length_copies zero = refl
  length_copies (suc n) = ap suc (length_copies n)

  puts_of_alike : PutsAlike N p → (fs : Bundle N p) (q : ℕ) → puts N p fs q ≡ length fs * N.put f₀ q
  puts_of_alike a [] q = omega arith
  puts_of_alike a (f ∷ fs) q = omega (arith, puts_of_alike a fs q, a f.0 f₀ f.1 c₀ q)

  split_one : (fs : Bundle N p) (c : ℕ) → length fs ≡ c + 1 → Split fs 1 c
  split_one [] c e = absurd (omega arith)
  split_one (f ∷ fs) c e = (f.0, f.1, (fs, omega arith, λ q. omega arith))

  split : (fs : Bundle N p) (h : N.Trans) (c : ℕ) → Feeder N p h → length fs ≡ c + k h → Split fs (k h) c
  split fs h c b e = go choice
    where
      go : PutsAlike N p ⊎ FeedsOne N p k → Split fs (k h) c
      go (inl a) = (
        f₀,
        c₀,
        (
          copies c,
          length_copies c,
          λ q.
              omega (arith, puts_of_alike a fs q, puts_of_alike a (copies c) q, ap (λ n. n * N.put f₀ q) e, ap (λ n. n * N.put f₀ q) (length_copies c)),
        ),
      )
      go (inr o) = subst (λ j. Split fs j c) (sym (o h b)) (split_one fs c (e ∙ ap (λ j. c + j) (o h b)))

  -- A firing before a run whose promises can be made.
  abbrev Promises : Marking → Marking → Type 0
  Promises m₁ e = (c : ℕ) → m₁ p ≡ c * w → Promised m₁ e c

  promise_untouched : (t : N.Trans) (n : Feeder N p t → ⊥) (n' : Consumer N p t → ⊥) (m m₁ e : Marking) (c : ℕ) → m p ≡ c * w
      → Fires N t m m₁ → Promises m₁ e → Promised m e c
  promise_untouched t n n' m m₁ e c a f rest =
      let b = rest c (omega (arith, f p)) in
      let x : Merged N p = inl (t, n, n') in (
        b.0,
        b.1,
        λ m' z h.
            let on : Enabled (post N p) x m' =
            at_each p (λ q. N.take t q ≤ m' q) (omega arith) (λ q d. omega (arith, f q, h q d)) in
            leads_step (post N p) x m' (fire (post N p) x m') e (fire_fires (post N p) x m' on)
            (b.2 (fire (post N p) x m') (omega arith) (λ q d. omega (arith, f q, h q d, on q))),
      )

  promise_consumer : (t : N.Trans) → Consumer N p t → (m m₁ e : Marking) (c : ℕ) → m p ≡ c * w → Fires N t m m₁ → Promises m₁ e
      → Promised m e c
  promise_consumer t u m m₁ e zero a f rest = absurd (omega (arith, f p))
  promise_consumer t u m m₁ e (suc c) a f rest =
      let b = rest c (omega (arith, f p, weighs t u, consumer_puts N p T t u)) in
      ((t, u) ∷ b.0, ap suc b.1, λ m' z h. b.2 m' z (λ q d. omega (arith, f q, h q d, C.alone t u q d)))

  promise_feeder : (t : N.Trans) → Feeder N p t → (m m₁ e : Marking) (c : ℕ) → m p ≡ c * w → Fires N t m m₁ → Promises m₁ e → Promised m e c
  promise_feeder t u m m₁ e c a f rest =
      let b = rest (c + k t) (omega (arith, f p, feeds t u, feeder_takes N p T t u)) in
      let s = split b.0 t c u b.1 in
      let r = s.2 in
      let x : Merged N p = inr (t, s.0, u, s.1) in (
        r.0,
        r.1,
        λ m' z h.
            let on : Enabled (post N p) x m' =
            at_each p (λ q. N.take t q ≤ m' q) (omega (arith, feeder_takes N p T t u)) (λ q d. omega (arith, f q, h q d)) in
            leads_step (post N p) x m' (fire (post N p) x m') e (fire_fires (post N p) x m' on)
            (b.2 (fire (post N p) x m')
            (omega (arith, z, off_here p (N.put t), shares t s.0 u s.1 p, ap (λ y. k t * y) (consumer_puts N p T s.0 s.1)))
            (λ q d. omega (arith, f q, h q d, on q, shares t s.0 u s.1 q, off_there p q (N.put t) d, r.2 q))),
      )

  -- From its end backwards, a run that leaves nothing at `p` has all its promises.
  promises : (ts : List N.Trans) (m e : Marking) → Run N m ts e → e p ≡ 0 → Promises m e
  promises [] m e s z zero a =
      ([], refl, λ m' y h. leads_same (post N p) m' e (at_each p (λ q. m' q ≡ e q) (y ∙ sym z) (λ q d. omega (arith, h q d, s q))))
  promises [] m e s z (suc c) a = absurd (omega (arith, s p))
  promises (t ∷ ts) m e r z c a = go (kind N p t) (promises ts (fire N t m) e r.1 z)
    where
      f : Fires N t m (fire N t m)
      f = fire_fires N t m r.0

      go : Kind N p t → Promises (fire N t m) e → Promised m e c
      go (inl n) rest = promise_untouched t n.0 n.1 m (fire N t m) e c a f rest
      go (inr (inl b)) rest = promise_feeder t b m (fire N t m) e c a f rest
      go (inr (inr u)) rest = promise_consumer t u m (fire N t m) e c a f rest

  -- So it has a run in the next net.
  new_runs : (e : Marking) → Leads N N.start e → e p ≡ 0 → Leads (post N p) N.start e
  new_runs e r z =
      let b = promises r.0 N.start e r.1 z 0 (omega arith) in
      b.2 N.start unmarked (λ q d. omega (arith, nothing b.0 b.1 q))
    where
      nothing : (fs : Bundle N p) → length fs ≡ 0 → (q : ℕ) → puts N p fs q ≡ 0
      nothing [] h q = refl
      nothing (f ∷ fs) h q = absurd (omega arith)

  -- The tokens at `p` are always a multiple of `w`.
  abbrev Counted : Marking → Type 0
  Counted m = (c : ℕ) × (m p ≡ c * w)

  counted_step : (t : N.Trans) (m m₁ : Marking) (c : ℕ) → m p ≡ c * w → Fires N t m m₁ → Kind N p t → Counted m₁
  counted_step t m m₁ c a f (inl n) = (c, let x = n.0 in let y = n.1 in omega (arith, f p))
  counted_step t m m₁ c a f (inr (inl b)) = (c + k t, omega (arith, f p, feeds t b, feeder_takes N p T t b))
  counted_step t m m₁ zero a f (inr (inr u)) = absurd (omega (arith, f p))
  counted_step t m m₁ (suc c) a f (inr (inr u)) = (c, omega (arith, f p, weighs t u, consumer_puts N p T t u))

  counted_run : (ts : List N.Trans) (m e : Marking) → Counted m → Run N m ts e → Counted e
  counted_run [] m e a s = (a.0, omega (arith, s p, a.1))
  counted_run (t ∷ ts) m e a r =
      counted_run ts (fire N t m) e (counted_step t m (fire N t m) a.0 a.1 (fire_fires N t m r.0) (kind N p t)) r.1

  counted : (e : Marking) → Leads N N.start e → Counted e
  counted e r = counted_run r.0 N.start e (0, omega arith) r.1

  -- So a consumer can empty `p`, which changes no support place.
  finish : (m : Marking) → Counted m → (e : Marking) × Leads N m e × (e p ≡ 0) × Agree S m e
  finish m a = (
    e,
    empties f₀ c₀ a.0 m e a.1 (off_here p x) (λ q d. off_there p q x d),
    off_here p x,
    at_each p (λ q. S q → m q ≡ e q) (λ s. absurd (outside s))
        (λ q d s. omega (arith, off_there p q x d, ap (λ y. a.0 * y) (C.hidden f₀ c₀ q s))),
  )
    where
      x : Marking
      x q = m q + a.0 * N.put f₀ q

      e : Marking
      e = off p x

  -- And a dead marking has nothing at `p`.
  dead_empty : (m : Marking) (c : ℕ) → m p ≡ c * w → Dead N m → m p ≡ 0
  dead_empty m zero a d = omega arith
  dead_empty m (suc c) a d =
      absurd (d f₀ (at_each p (λ q. N.take f₀ q ≤ m q) (omega (arith, weighs f₀ c₀)) (λ q n. omega (arith, C.alone f₀ c₀ q n))))

  shared_answers : SameAnswers S N (post N p)
  shared_answers = (
    λ v. (
      λ h.
          let d = finish h.0 (counted h.0 h.1) in (
            d.0,
            new_runs d.0 (leads_trans N N.start h.0 d.0 h.1 d.1) d.2,
            λ q s. sym (d.3 q s) ∙ h.2 q s,
          ),
      simulated_reach S (post N p) N Emptied old_runs v,
    ),
    λ v. (
      λ h.
          let c = counted h.0 h.1 in
          (h.0, new_runs h.0 h.1 (dead_empty h.0 c.0 c.1 h.2), new_dead h.0 h.2, h.3),
      simulated_standstill S (post N p) N Emptied old_runs emptied_dead v,
    ),
  )

-- Both forms of the weights' condition give such a `w` and such shares.
module _ (S : ℕ → Type 0) (N : Net) (p : ℕ) (outside : S p → ⊥) (T : TwoSided N p) (C : PostConsumers S N p) (W : PostWeights N p)
    (unmarked : Unmarked N p) where
  abbrev f₁ : N.Trans
  f₁ = T.consumed.0

  abbrev c₁ : Consumer N p f₁
  c₁ = T.consumed.1

  abbrev weight : ℕ
  weight = N.take f₁ p

  abbrev share : N.Trans → ℕ
  share h = N.put h p / weight

  same_weight : PostWeights N p → (f : N.Trans) → Consumer N p f → N.take f p ≡ weight
  same_weight (inl x) f u = ap (λ g. N.take g p) (x.only f f₁ u c₁)
  same_weight (inr x) f u = x.1 f u ∙ sym (x.1 f₁ c₁)

  multiples : PostWeights N p → (h : N.Trans) → Feeder N p h → (k : ℕ) × (N.put h p ≡ k * weight)
  multiples (inl x) h b = x.multiple h f₁ b c₁
  multiples (inr x) h b = (1, omega (arith, x.2 h b, x.1 f₁ c₁))

  whole_shares : (h : N.Trans) → Feeder N p h → N.put h p ≡ share h * weight
  whole_shares h b =
      let k = multiples W h b in
      k.1 ∙ ap (λ z. z * weight) (sym (div-eq_of_eq-mul_left c₁ k.1))

  alike_or_one : PostWeights N p → PutsAlike N p ⊎ FeedsOne N p share
  alike_or_one (inl x) = inl (λ f g u v q. ap (λ y. N.put y q) (x.only f g u v))
  alike_or_one (inr x) = inr (λ h b. div-eq_of_eq-mul_left c₁ (omega (arith, x.2 h b, x.1 f₁ c₁)))

  pub post_answers : SameAnswers S N (post N p)
  post_answers = shared_answers S N p outside T C unmarked weight c₁ share (same_weight W) whole_shares (alike_or_one W)

-- The steps by which a place goes.
use Rattle.std.proofs.Common.{◌≡◌, ℕ, ◌*◌, ◌≤◌, ◌≢◌, sym, refl, ap, subst, mul-le-mul_left, arith}
use native.Mathlib.Decide.{ℕ_discrete}
use Rattle.std.proofs.lemmas.Bool.{eq-eqb, ne_eqb}
use Rattle.theory.specs.Nets.{Marking, Net, Same, Enabled}
use Rattle.theory.specs.Nexts.{off, gone}
use Rattle.theory.specs.Conditions.{NeverLoses, AlwaysEnough, Implied, Covers}
use Rattle.theory.proofs.Runs.{Fires, lockstep_answers, SameAnswers}

-- A function with 0 at `p`, at `p` and elsewhere.
pub off_here : (p : ℕ) (f : ℕ → ℕ) → off p f p ≡ 0
off_here p f = rw (eq-eqb p p refl)

pub off_there : (p q : ℕ) (f : ℕ → ℕ) → q ≢ p → off p f q ≡ f q
off_there p q f n = rw (ne_eqb q p n)

-- To prove something of every place, prove it of `p` and of every other place.
pub at_each : (p : ℕ) (P : ℕ → Type 0) → P p → ((q : ℕ) → q ≢ p → P q) → (q : ℕ) → P q
at_each p P here there q = go (ℕ_discrete q p)
  where
    go : Dec (q ≡ p) → P q
    go (yes e) = subst P (sym e) here
    go (no n) = there q n

-- A place that never keeps a transition from firing may go: `I` is an invariant of the firings, under which `p` has what a
-- transition takes whenever the other places have.
module _ (S : ℕ → Type 0) (N : Net) (p : ℕ) (outside : S p → ⊥) (I : Marking → Type 0) (begins : I N.start)
    (kept : (t : N.Trans) (m m₁ : Marking) → I m → Fires N t m m₁ → I m₁)
    (suffices : (t : N.Trans) (m : Marking) → I m → ((q : ℕ) → q ≢ p → N.take t q ≤ m q) → N.take t p ≤ m p) where
  -- The same marking but for `p`, with the invariant.
  abbrev Elsewhere : Marking → Marking → Type 0
  Elsewhere m m' = I m × Same (off p m) m'

  elsewhere_on : (t : N.Trans) (m m' : Marking) → Elsewhere m m' → Enabled N t m → Enabled (gone p N) t m'
  elsewhere_on t m m' r h =
      at_each p (λ q. off p (N.take t) q ≤ m' q) (omega (arith, off_here p (N.take t)))
      (λ q n. omega (arith, off_there p q (N.take t) n, off_there p q m n, r.1 q, h q))

  elsewhere_back : (t : N.Trans) (m m' : Marking) → Elsewhere m m' → Enabled (gone p N) t m' → Enabled N t m
  elsewhere_back t m m' r h = at_each p (λ q. N.take t q ≤ m q) (suffices t m r.0 others) others
    where
      others : (q : ℕ) → q ≢ p → N.take t q ≤ m q
      others q n = omega (arith, off_there p q (N.take t) n, off_there p q m n, r.1 q, h q)

  elsewhere_keeps : (t : N.Trans) (m m₁ m' m₁' : Marking) → Elsewhere m m' → Fires N t m m₁ → Fires (gone p N) t m' m₁' → Elsewhere m₁ m₁'
  elsewhere_keeps t m m₁ m' m₁' r f g = (
    kept t m m₁ r.0 f,
    at_each p (λ q. off p m₁ q ≡ m₁' q)
        (omega (arith, off_here p m₁, off_here p m, off_here p (N.take t), off_here p (N.put t), r.1 p, g p))
        (λ q n.
        omega (arith, off_there p q m₁ n, off_there p q m n, off_there p q (N.take t) n, off_there p q (N.put t) n, r.1 q, f q, g q)),
  )

  -- Each transition is paired with itself.
  gone_answers : SameAnswers S N (gone p N)
  gone_answers =
      lockstep_answers S N (gone p N) Elsewhere (λ t t'. t ≡ t')
      (record {
        begins = (begins, λ q. refl);
        agrees =
            λ m m' r.
            at_each p (λ q. S q → m q ≡ m' q) (λ s. absurd (outside s)) (λ q n s. omega (arith, off_there p q m n, r.1 q));
        there = λ t. (t, refl);
        back = λ t. (t, refl);
        on = λ t t' m m' e r h. subst (λ x. Enabled (gone p N) x m') e (elsewhere_on t m m' r h);
        on_back = λ t t' m m' e r h. elsewhere_back t m m' r (subst (λ x. Enabled (gone p N) x m') (sym e) h);
        keeps = λ t t' m m₁ m' m₁' e r f g. elsewhere_keeps t m m₁ m' m₁' r f (subst (λ x. Fires (gone p N) x m' m₁') (sym e) g);
      })

-- A plentiful place always has at least its mark, and no transition takes more.
pub plentiful_answers : (S : ℕ → Type 0) (N : Net) (p : ℕ) → (S p → ⊥) → NeverLoses N p → AlwaysEnough N p → SameAnswers S N (gone p N)
plentiful_answers S N p outside rises enough =
    gone_answers S N p outside (λ m. N.start p ≤ m p) (omega arith) (λ t m m₁ i f. omega (arith, rises t, f p))
    (λ t m i h. omega (arith, enough t))

-- An implied place always has at least `k` times what `q` has, and no transition takes more than `k` times what it takes from `q`.
pub implied_answers : (S : ℕ → Type 0) (N : Net) (p q k : ℕ) → (S p → ⊥) → q ≢ p → Implied N p q k → Covers N p q k → SameAnswers S N (gone p N)
implied_answers S N p q k outside differ c covers =
    gone_answers S N p outside (λ m. k * m q ≤ m p) covers
    (λ t m m₁ i f. omega (arith, c.gains t, f p, f q, ap (λ x. k * x) (f q).1))
    (λ t m i h. omega (arith, c.asks t, mul-le-mul_left k (h q differ)))

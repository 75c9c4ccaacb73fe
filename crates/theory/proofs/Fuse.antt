-- Fusion: two places between which tokens can be carried both ways are like one.
use Rattle.std.proofs.Common.{◌≡◌, ℕ, ◌+◌, ◌-◌, ◌*◌, ◌<◌, ◌≤◌, cond, eqb, ◌≢◌, ◌⊎◌, sym, refl, ap, inl, inr, arith}
use Rattle.std.proofs.lemmas.Bool.{eq-eqb, ne_eqb, cases_lt}
use Rattle.theory.specs.Nets.{Marking, Net, Same, Enabled, fire, Leads, Dead, Agree}
use Rattle.theory.specs.Nexts.{fuse, fused}
use Rattle.theory.specs.Conditions.{Carries}
use Rattle.theory.proofs.Runs.{Fires, fire_fires, leads_self, leads_fire, leads_times, leads_trans, Simulation, DeadMatched, SameAnswers, mutual_answers}
use Rattle.theory.proofs.Places.{at_each, off_here, off_there}

-- To prove something of every place, prove it of `p`, of `q` and of every other place.
at_both : (p q : ℕ) (P : ℕ → Type 0) → P p → P q → ((r : ℕ) → r ≢ p → r ≢ q → P r) → (r : ℕ) → P r
at_both p q P a b c = at_each p P a (λ r n. at_each q (λ x. x ≢ p → P x) (λ _. b) (λ x l k. c x k l) r n)

-- A carrier moves `j` tokens from `p` to `q`, as long as `p` has them.
carry : (N : Net) (t : N.Trans) (p q : ℕ) → q ≢ p → Carries N t p q → (j : ℕ) (m e : Marking) → j ≤ m p → e p + j ≡ m p → e q ≡ m q + j
    → ((r : ℕ) → r ≢ p → r ≢ q → e r ≡ m r) → Leads N m e
carry N t p q n c j m e h at_p at-q else =
    leads_times N t j m e
    (at_both p q (λ x. (j * N.take t x ≤ m x) × (e x + j * N.take t x ≡ m x + j * N.put t x))
    (omega (arith, ap (λ x. j * x) c.takes, ap (λ x. j * x) (c.no_puts p (λ z. n (sym z)))))
    (omega (arith, ap (λ x. j * x) c.puts, ap (λ x. j * x) (c.no_takes q n)))
    (λ r k l. omega (arith, else r k l, ap (λ x. j * x) (c.no_takes r k), ap (λ x. j * x) (c.no_puts r l))))

-- A dead marking has no token where a carrier takes.
nothing_to_carry : (N : Net) (t : N.Trans) (p q : ℕ) → Carries N t p q → (m : Marking) → Dead N m → m p ≡ 0
nothing_to_carry N t p q c m d =
    let n : ¬ (0 < m p) = λ h. d t (at_each p (λ x. N.take t x ≤ m x) (omega (arith, c.takes)) (λ x k. omega (arith, c.no_takes x k))) in
    omega arith

-- A marking with `x` at `p` and `y` at `q`.
abbrev placed : (p q x y : ℕ) → Marking → Marking
placed p q x y m r = cond (eqb r p) x (cond (eqb r q) y (m r))

placed_p : (p q x y : ℕ) (m : Marking) → placed p q x y m p ≡ x
placed_p p q x y m = rw (eq-eqb p p refl)

placed_q : (p q x y : ℕ) (m : Marking) → q ≢ p → placed p q x y m q ≡ y
placed_q p q x y m n = rw (ne_eqb q p n, eq-eqb q q refl)

placed_else : (p q x y : ℕ) (m : Marking) (r : ℕ) → r ≢ p → r ≢ q → placed p q x y m r ≡ m r
placed_else p q x y m r n k = rw (ne_eqb r p n, ne_eqb r q k)

module _ (S : ℕ → Type 0) (N : Net) (p q : ℕ) (a b : N.Trans) (outside : S p → ⊥) (outside' : S q → ⊥) (differ : q ≢ p)
    (A : Carries N a p q) (B : Carries N b q p) where
  abbrev Next : Net
  Next = fused p q N

  fuse_p : (f : ℕ → ℕ) → fuse p q f p ≡ f p + f q
  fuse_p f = rw (eq-eqb p p refl)

  fuse_q : (f : ℕ → ℕ) → fuse p q f q ≡ 0
  fuse_q f = rw (ne_eqb q p differ) (off_here q f)

  fuse_else : (f : ℕ → ℕ) (r : ℕ) → r ≢ p → r ≢ q → fuse p q f r ≡ f r
  fuse_else f r n k = rw (ne_eqb r p n) (off_there q r f k)

  -- The second marking is the first with its two places fused.
  abbrev Fused : Marking → Marking → Type 0
  Fused m m' = Same (fuse p q m) m'

  abbrev FusedBack : Marking → Marking → Type 0
  FusedBack m' m = Fused m m'

  fused_on : (t : N.Trans) (m m' : Marking) → Fused m m' → Enabled N t m → Enabled Next t m'
  fused_on t m m' r h =
      at_both p q (λ x. fuse p q (N.take t) x ≤ m' x) (omega (arith, fuse_p (N.take t), fuse_p m, r p, h p, h q))
      (omega (arith, fuse_q (N.take t)))
      (λ x n k. omega (arith, fuse_else (N.take t) x n k, fuse_else m x n k, r x, h x))

  fused_keeps : (t : N.Trans) (m m₁ m' m₁' : Marking) → Fused m m' → Fires N t m m₁ → Fires Next t m' m₁' → Fused m₁ m₁'
  fused_keeps t m m₁ m' m₁' r f g =
      at_both p q (λ x. fuse p q m₁ x ≡ m₁' x)
      (omega (arith, fuse_p (N.take t), fuse_p (N.put t), fuse_p m, fuse_p m₁, r p, f p, f q, g p))
      (omega (arith, fuse_q (N.take t), fuse_q (N.put t), fuse_q m, fuse_q m₁, r q, g q))
      (λ x n k.
      omega (arith, fuse_else (N.take t) x n k, fuse_else (N.put t) x n k, fuse_else m x n k, fuse_else m₁ x n k, r x, f x, g x))

  fused_agrees : (m m' : Marking) → Fused m m' → Agree S m m'
  fused_agrees m m' r =
      at_both p q (λ x. S x → m x ≡ m' x) (λ s. absurd (outside s)) (λ s. absurd (outside' s))
      (λ x n k s. omega (arith, fuse_else m x n k, r x))

  -- A transition that is enabled after the fusion is enabled before it once the tokens are carried to where it takes them.
  abbrev Ready : N.Trans → Marking → Marking → Type 0
  Ready t m m' = (m₂ : Marking) × Leads N m m₂ × Fused m₂ m' × Enabled N t m₂

  ready : (t : N.Trans) (m m' : Marking) → Fused m m' → Enabled Next t m' → Ready t m m'
  ready t m m' r h = go (cases_lt (m p) (N.take t p)) (cases_lt (m q) (N.take t q))
    where
      sum : N.take t p + N.take t q ≤ m p + m q
      sum = omega (arith, fuse_p (N.take t), fuse_p m, r p, h p)

      moved : (x y : ℕ) → x + y ≡ m p + m q → N.take t p ≤ x → N.take t q ≤ y → Leads N m (placed p q x y m) → Ready t m m'
      moved x y e k l lead = (
        placed p q x y m,
        lead,
        at_both p q (λ z. fuse p q (placed p q x y m) z ≡ m' z)
            (omega (arith, fuse_p (placed p q x y m), placed_p p q x y m, placed_q p q x y m differ, fuse_p m, r p))
            (omega (arith, fuse_q (placed p q x y m), fuse_q m, r q))
            (λ z n o. omega (arith, fuse_else (placed p q x y m) z n o, placed_else p q x y m z n o, fuse_else m z n o, r z)),
        at_both p q (λ z. N.take t z ≤ placed p q x y m z) (omega (arith, placed_p p q x y m)) (omega (arith, placed_q p q x y m differ))
            (λ z n o. omega (arith, placed_else p q x y m z n o, fuse_else (N.take t) z n o, fuse_else m z n o, r z, h z)),
      )

      -- `p` lacks tokens, or `q` does, or neither.
      go : (m p < N.take t p) ⊎ (N.take t p ≤ m p) → (m q < N.take t q) ⊎ (N.take t q ≤ m q) → Ready t m m'
      go (inl k) l = moved x y (omega (arith, sum)) (omega arith) (omega (arith, sum)) lead
        where
          x : ℕ
          x = N.take t p

          y : ℕ
          y = (m p + m q) - N.take t p

          lead : Leads N m (placed p q x y m)
          lead =
              carry N b q p (λ e. differ (sym e)) B (N.take t p - m p) m (placed p q x y m) (omega (arith, sum))
              (omega (arith, sum, placed_q p q x y m differ)) (omega (arith, sum, placed_p p q x y m))
              (λ z n o. placed_else p q x y m z o n)
      go (inr k) (inl l) = moved x y (omega (arith, sum)) (omega (arith, sum)) (omega arith) lead
        where
          x : ℕ
          x = (m p + m q) - N.take t q

          y : ℕ
          y = N.take t q

          lead : Leads N m (placed p q x y m)
          lead =
              carry N a p q differ A (N.take t q - m q) m (placed p q x y m) (omega (arith, sum)) (omega (arith, sum, placed_p p q x y m))
              (omega (arith, sum, placed_q p q x y m differ)) (λ z n o. placed_else p q x y m z n o)
      go (inr k) (inr l) = (
        m,
        leads_self N m,
        r,
        at_both p q (λ z. N.take t z ≤ m z) k l (λ z n o. omega (arith, fuse_else (N.take t) z n o, fuse_else m z n o, r z, h z)),
      )

  new_runs : Simulation S N Next Fused
  new_runs =
      record {
        begins = λ x. refl;
        steps =
            λ t m m₁ m' r f.
            let h = fused_on t m m' r (λ x. (f x).0) in
            (fire Next t m', leads_fire Next t m' h, fused_keeps t m m₁ m' (fire Next t m') r f (fire_fires Next t m' h));
        agrees = fused_agrees;
      }

  old_runs : Simulation S Next N FusedBack
  old_runs =
      record {
        begins = λ x. refl;
        steps =
            λ t m' m₁' m r g.
            let y = ready t m m' r (λ x. (g x).0) in (
              fire N t y.0,
              leads_trans N m y.0 (fire N t y.0) y.1 (leads_fire N t y.0 y.3),
              fused_keeps t y.0 (fire N t y.0) m' m₁' y.2 (fire_fires N t y.0 y.3) g,
            );
        agrees = λ m' m r x s. sym (fused_agrees m m' r x s);
      }

  -- In a dead marking both places are empty, so that the fusion enables nothing there.
  new_dead : DeadMatched S N Next Fused
  new_dead m m' r d = (m', leads_self Next m', λ t h. d t (on t h), fused_agrees m m' r)
    where
      none : (t : N.Trans) → Enabled Next t m' → N.take t p + N.take t q ≡ 0
      none t h =
          omega (arith, fuse_p (N.take t), fuse_p m, nothing_to_carry N a p q A m d, nothing_to_carry N b q p B m d, r p, h p)

      on : (t : N.Trans) → Enabled Next t m' → Enabled N t m
      on t h =
          at_both p q (λ x. N.take t x ≤ m x) (omega (arith, none t h)) (omega (arith, none t h))
          (λ x n k. omega (arith, fuse_else (N.take t) x n k, fuse_else m x n k, r x, h x))

  old_dead : DeadMatched S Next N FusedBack
  old_dead m' m r d = (m, leads_self N m, λ t h. d t (fused_on t m m' r h), λ x s. sym (fused_agrees m m' r x s))

  pub fusion_answers : SameAnswers S N Next
  fusion_answers = mutual_answers S N Next Fused FusedBack new_runs old_runs new_dead old_dead

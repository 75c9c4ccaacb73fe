-- The steps that drop transitions and change nothing else.
use Rattle.std.proofs.Common.{◌≡◌, ℕ, zero, suc, ◌*◌, ◌<◌, ◌≤◌, Bool, true, ◌≢◌, sym, refl, subst, arith}
use Rattle.theory.specs.Nets.{Marking, Net, Same, Enabled, fire, Leads, Dead, SameReach, SameStandstill}
use Rattle.theory.specs.Nexts.{without}
use Rattle.theory.specs.Conditions.{Dominated, Multiple, Composed, Draining, NeverGains, Starved, Sourceless, TakesFrom, Siphon, Dry}
use Rattle.theory.proofs.Runs.{Fires, fire_fires, leads_self, leads_one, leads_fire, leads_step, leads_cong, leads_times, dead_cong, Simulation, DeadMatched, SameAnswers, mutual_reach, mutual_answers}

-- What is left of a net runs in the whole net.
kept_runs : (S : ℕ → Type 0) (N : Net) (D : N.Trans → Type 0) → Simulation S (without N D) N Same
kept_runs S N D =
    record {
      begins = λ p. refl;
      steps = λ t m m₁ m' r f. (m₁, leads_cong N m m' m₁ r (leads_one N t.0 m m₁ f), λ p. refl);
      agrees = λ m m' r p s. r p;
    }

at_least_once : (k x : ℕ) → 1 ≤ k → x ≤ k * x
at_least_once zero x h = absurd (omega arith)
at_least_once (suc k) x h = omega arith

-- One transition `t` is dropped, and the others can do what it does.
module _ (S : ℕ → Type 0) (N : Net) (t : N.Trans) (is_t : (v : N.Trans) → Dec (v ≡ t)) where
  abbrev Others : Net
  Others = without N (λ v. v ≡ t)

  module _ (instead : (m m₁ : Marking) → Fires N t m m₁ → Leads Others m m₁) where
    replaced : (v : N.Trans) (m m₁ : Marking) → Fires N v m m₁ → Dec (v ≡ t) → Leads Others m m₁
    replaced v m m₁ f (yes e) = instead m m₁ (subst (λ x. Fires N x m m₁) e f)
    replaced v m m₁ f (no n) = leads_one Others (v, n) m m₁ f

    others_run : Simulation S N Others Same
    others_run =
        record {
          begins = λ p. refl;
          steps = λ v m m₁ m' r f. (m₁, leads_cong Others m m' m₁ r (replaced v m m₁ f (is_t v)), λ p. refl);
          agrees = λ m m' r p s. r p;
        }

    -- Where `t` is enabled, another one is too: so the others alone are dead in the same markings.
    module _ (also : (m : Marking) → Enabled N t m → (u : N.Trans) × (u ≢ t) × Enabled N u m) where
      others_dead : DeadMatched S N Others Same
      others_dead m m' r d = (m', leads_self Others m', λ v h. d v.0 (λ p. omega (arith, r p, h p)), λ p s. r p)

      all_dead : (m : Marking) → Dead Others m → (v : N.Trans) → Enabled N v m → Dec (v ≡ t) → ⊥
      all_dead m d v h (yes e) = let u = also m (subst (λ x. Enabled N x m) e h) in d (u.0, u.1) u.2
      all_dead m d v h (no n) = d (v, n) h

      whole_dead : DeadMatched S Others N Same
      whole_dead m m' r d = (m', leads_self N m', λ v h. all_dead m' (dead_cong Others m m' r d) v h (is_t v), λ p s. r p)

      replaced_answers : SameAnswers S N Others
      replaced_answers = mutual_answers S N Others Same Same others_run (kept_runs S N (λ v. v ≡ t)) others_dead whole_dead

  -- A dominated transition: one firing of the better one does the same.
  pub dominated_answers : (u : N.Trans) → u ≢ t → Dominated N t u → SameAnswers S N Others
  dominated_answers u n better =
      replaced_answers (λ m m₁ f. leads_one Others (u, n) m m₁ (λ p. (omega (arith, better p, f p), omega (arith, better p, f p))))
      (λ m h. (u, n, λ p. omega (arith, better p, h p)))

  -- A multiple: the other one fires as often.
  pub multiple_answers : (u : N.Trans) (k : ℕ) → u ≢ t → 1 ≤ k → Multiple N t u k → SameAnswers S N Others
  multiple_answers u k n some times =
      replaced_answers (λ m m₁ f. leads_times Others (u, n) k m m₁ (λ p. (omega (arith, times p, f p), omega (arith, times p, f p))))
      (λ m h. (u, n, λ p. omega (arith, times p, h p, at_least_once k (N.take u p) some)))

  -- A composed transition: its two parts fire in turn.
  pub composed_answers : (u v : N.Trans) → u ≢ t → v ≢ t → Composed N t u v → SameAnswers S N Others
  composed_answers u v n n' parts = replaced_answers in_turn (λ m h. (u, n, λ p. omega (arith, parts p, h p)))
    where
      in_turn : (m m₁ : Marking) → Fires N t m m₁ → Leads Others m m₁
      in_turn m m₁ f =
          leads_step Others (u, n) m (fire N u m) m₁ (fire_fires N u m on)
          (leads_one Others (v, n') (fire N u m) m₁ (λ p. (omega (arith, parts p, on p), omega (arith, parts p, on p, f p))))
        where
          on : Enabled N u m
          on p = omega (arith, parts p, f p)

  -- A draining transition only loses tokens outside the support: a run without it ends with at least as many, and has the same
  -- support numbers.
  module _ (drains : Draining S N t) where
    abbrev Above : Marking → Marking → Type 0
    Above m m' = (p : ℕ) → (m p ≤ m' p) × (S p → m p ≡ m' p)

    above_step : (v : N.Trans) (m m₁ m' : Marking) → Above m m' → Fires N v m m₁ → Dec (v ≡ t)
        → (m₁' : Marking) × Leads Others m' m₁' × Above m₁ m₁'
    above_step v m m₁ m' r f (yes e) = (m', leads_self Others m', λ p. (lower p, λ s. level p s))
      where
        g : Fires N t m m₁
        g = subst (λ x. Fires N x m m₁) e f

        lower : (p : ℕ) → m₁ p ≤ m' p
        lower p = omega (arith, (r p).0, (drains p).0, g p)

        level : (p : ℕ) → S p → m₁ p ≡ m' p
        level p s = omega (arith, (r p).1 s, (drains p).1 s, g p)
    above_step v m m₁ m' r f (no n) =
        (fire N v m', leads_fire Others (v, n) m' on, λ p. (omega (arith, (r p).0, f p), λ s. omega (arith, (r p).1 s, f p)))
      where
        on : Enabled N v m'
        on p = omega (arith, (r p).0, f p)

    pub draining_reach : SameReach S N Others
    draining_reach =
        mutual_reach S N Others Above Same
        (record {
          begins = λ p. (omega arith, λ s. refl);
          steps = λ v m m₁ m' r f. above_step v m m₁ m' r f (is_t v);
          agrees = λ m m' r p s. (r p).1 s;
        })
        (kept_runs S N (λ v. v ≡ t))

-- A sourceless transition is enabled in every marking, so that no marking is dead as long as it is kept.
pub sourceless_standstill : (S : ℕ → Type 0) (N : Net) (t : N.Trans) → Sourceless N t → SameStandstill S N (without N (λ v. v ≢ t))
sourceless_standstill S N t none v =
    (λ h. absurd (h.2 t (λ p. omega (arith, none p))), λ h. absurd (h.2 (t, λ n. n refl) (λ p. omega (arith, none p))))

-- The dropped transitions are never enabled, by an invariant of the firings.
module _ (S : ℕ → Type 0) (N : Net) (D : N.Trans → Type 0) (dropped : (t : N.Trans) → Dec (D t))
    (I : Marking → Type 0) (begins : I N.start) (keeps : (t : N.Trans) (m m₁ : Marking) → I m → Fires N t m m₁ → I m₁)
    (never : (t : N.Trans) (m : Marking) → D t → I m → Enabled N t m → ⊥) where
  abbrev Rest : Net
  Rest = without N D

  -- The same marking on both sides, with the invariant on the side of the whole net.
  abbrev Held : Marking → Marking → Type 0
  Held m m' = Same m m' × I m

  abbrev HeldBack : Marking → Marking → Type 0
  HeldBack m' m = Same m' m × I m

  held_step : (t : N.Trans) (m m₁ m' : Marking) → Held m m' → Fires N t m m₁ → Dec (D t)
      → (m₁' : Marking) × Leads Rest m' m₁' × Held m₁ m₁'
  held_step t m m₁ m' r f (yes d) = absurd (never t m d r.1 (λ p. (f p).0))
  held_step t m m₁ m' r f (no k) =
      (m₁, leads_cong Rest m m' m₁ r.0 (leads_one Rest (t, k) m m₁ f), (λ p. refl, keeps t m m₁ r.1 f))

  rest_runs : Simulation S N Rest Held
  rest_runs =
      record {
        begins = (λ p. refl, begins);
        steps = λ t m m₁ m' r f. held_step t m m₁ m' r f (dropped t);
        agrees = λ m m' r p s. r.0 p;
      }

  whole_runs : Simulation S Rest N HeldBack
  whole_runs =
      record {
        begins = (λ p. refl, begins);
        steps =
            λ t m' m₁' m r f.
            let g : Fires N t.0 m m₁' = λ p. omega (arith, r.0 p, f p) in
            (m₁', leads_one N t.0 m m₁' g, (λ p. refl, keeps t.0 m m₁' r.1 g));
        agrees = λ m m' r p s. r.0 p;
      }

  held_dead : DeadMatched S N Rest Held
  held_dead m m' r d = (m', leads_self Rest m', λ t h. d t.0 (λ p. omega (arith, r.0 p, h p)), λ p s. r.0 p)

  stays_dead : (m : Marking) → I m → Dead Rest m → (t : N.Trans) → Enabled N t m → Dec (D t) → ⊥
  stays_dead m i d t h (yes k) = never t m k i h
  stays_dead m i d t h (no k) = d (t, k) h

  held_dead_back : DeadMatched S Rest N HeldBack
  held_dead_back m' m r d =
      (m, leads_self N m, λ t h. stays_dead m r.1 (dead_cong Rest m' m r.0 d) t h (dropped t), λ p s. r.0 p)

  never_answers : SameAnswers S N Rest
  never_answers = mutual_answers S N Rest Held HeldBack rest_runs whole_runs held_dead held_dead_back

-- A starved transition never fires: its place never has more than at the start.
pub starved_answers : (S : ℕ → Type 0) (N : Net) (t : N.Trans) → ((v : N.Trans) → Dec (v ≡ t)) → (p : ℕ) → NeverGains N p → Starved N t p
    → SameAnswers S N (without N (λ v. v ≡ t))
starved_answers S N t is_t p falls starved =
    never_answers S N (λ v. v ≡ t) is_t (λ m. m p ≤ N.start p) (omega arith) (λ u m m₁ i f. omega (arith, falls u, f p))
    (λ v m e i h. omega (arith, subst (λ x. N.start p < N.take x p) (sym e) starved, h p))

-- A dry siphon stays dry: what would put into it takes from it first.
module _ (S : ℕ → Type 0) (N : Net) (z : ℕ → Bool) (takes_from : (t : N.Trans) → Dec (TakesFrom N z t)) (closed : Siphon N z) (dry : Dry N z) where
  abbrev StaysDry : Marking → Type 0
  StaysDry m = (q : ℕ) → z q ≡ true → m q ≡ 0

  dry_never : (t : N.Trans) (m : Marking) → TakesFrom N z t → StaysDry m → Enabled N t m → ⊥
  dry_never t m x i h = omega (arith, x.2, i x.0 x.1, h x.0)

  dry_keeps : (t : N.Trans) (m m₁ : Marking) → StaysDry m → Fires N t m m₁ → StaysDry m₁
  dry_keeps t m m₁ i f q e =
      let n : ¬ (0 < N.put t q) = λ l. dry_never t m (closed t q e l) i (λ p. (f p).0) in
      omega (arith, i q e, f q)

  pub siphon_answers : SameAnswers S N (without N (TakesFrom N z))
  siphon_answers = never_answers S N (TakesFrom N z) takes_from StaysDry dry dry_keeps dry_never

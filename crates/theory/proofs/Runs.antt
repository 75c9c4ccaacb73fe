-- Runs, simulations, and how a simulation carries the answers of one net over to another.
use Rattle.std.proofs.Common.{◌≡◌, ℕ, zero, suc, ◌+◌, ◌*◌, ◌≤◌, List, [], ◌∷◌, sym, refl, ◌∙◌, arith}
use Rattle.theory.specs.Nets.{Marking, Net, Same, Enabled, fire, Run, Leads, Dead, Agree, Reaches, StandstillAt, SameReach, SameStandstill, SameRow, SameNet}

-- A firing from one marking to another, stated by a sum, so that a difference need not be reasoned with.
abbrev pub Fires : (N : Net) → N.Trans → Marking → Marking → Type 0
Fires N t m e = (p : ℕ) → (N.take t p ≤ m p) × (e p + N.take t p ≡ m p + N.put t p)

pub fire_fires : (N : Net) (t : N.Trans) (m : Marking) → Enabled N t m → Fires N t m (fire N t m)
fire_fires N t m h p = let k = h p in (k, omega arith)

-- Runs: they start from any marking with the same numbers, and they are made of firings and of shorter runs.
run_cong : (N : Net) (m m' : Marking) (ts : List N.Trans) (e : Marking) → Same m m' → Run N m ts e → Run N m' ts e
run_cong N m m' [] e s r = λ p. sym (s p) ∙ r p
run_cong N m m' (t ∷ ts) e s r = (
  λ p. let q = s p in let k = r.0 p in omega arith,
  run_cong N (fire N t m) (fire N t m') ts e (λ p. let q = s p in omega arith) r.1,
)

pub leads_cong : (N : Net) (m m' e : Marking) → Same m m' → Leads N m e → Leads N m' e
leads_cong N m m' e s r = (r.0, run_cong N m m' r.0 e s r.1)

pub leads_same : (N : Net) (m e : Marking) → Same m e → Leads N m e
leads_same N m e s = ([], s)

pub leads_self : (N : Net) (m : Marking) → Leads N m m
leads_self N m = leads_same N m m (λ p. refl)

pub leads_step : (N : Net) (t : N.Trans) (m m₁ e : Marking) → Fires N t m m₁ → Leads N m₁ e → Leads N m e
leads_step N t m m₁ e f r =
    (t ∷ r.0, (λ p. (f p).0, run_cong N m₁ (fire N t m) r.0 e (λ p. let k = f p in omega arith) r.1))

pub leads_one : (N : Net) (t : N.Trans) (m m₁ : Marking) → Fires N t m m₁ → Leads N m m₁
leads_one N t m m₁ f = leads_step N t m m₁ m₁ f (leads_self N m₁)

-- An enabled transition leads to the marking after it.
pub leads_fire : (N : Net) (t : N.Trans) (m : Marking) → Enabled N t m → Leads N m (fire N t m)
leads_fire N t m h = leads_one N t m (fire N t m) (fire_fires N t m h)

pub leads_trans : (N : Net) (m m₁ e : Marking) → Leads N m m₁ → Leads N m₁ e → Leads N m e
leads_trans N m m₁ e a b = go a.0 m a.1
  where
    go : (ts : List N.Trans) (m : Marking) → Run N m ts m₁ → Leads N m e
    go [] m s = leads_cong N m₁ m e (λ p. sym (s p)) b
    go (t ∷ ts) m r = leads_step N t m (fire N t m) e (fire_fires N t m r.0) (go ts (fire N t m) r.1)

-- `n` firings of one transition, which leads to the same marking as a run of `n` firings.
abbrev pub FiresTimes : (N : Net) → N.Trans → ℕ → Marking → Marking → Type 0
FiresTimes N t n m e = (p : ℕ) → (n * N.take t p ≤ m p) × (e p + n * N.take t p ≡ m p + n * N.put t p)

pub leads_times : (N : Net) (t : N.Trans) (n : ℕ) (m e : Marking) → FiresTimes N t n m e → Leads N m e
leads_times N t zero m e f = leads_same N m e (λ p. omega (arith, f p))
leads_times N t (suc n) m e f =
    leads_step N t m (fire N t m) e (fire_fires N t m (λ p. omega (arith, f p)))
    (leads_times N t n (fire N t m) e (λ p. (omega (arith, f p), omega (arith, f p))))

pub dead_cong : (N : Net) (m m' : Marking) → Same m m' → Dead N m → Dead N m'
dead_cong N m m' s d t h = d t (λ p. let q = s p in let k = h p in omega arith)

-- A simulation of `N` in `N'`: a firing of `N` is matched by a run of `N'`, which may be empty, and related markings have the
-- same support numbers.
pub record Simulation (S : ℕ → Type 0) (N N' : Net) (R : Marking → Marking → Type 0) : Type 0 where
  pub begins : R N.start N'.start
  pub steps : (t : N.Trans) (m m₁ m' : Marking) → R m m' → Fires N t m m₁ → (m₁' : Marking) × Leads N' m' m₁' × R m₁ m₁'
  pub agrees : (m m' : Marking) → R m m' → Agree S m m'

-- Where `N` is dead, a run of `N'` leads from the related marking to a dead one with the same support numbers.
abbrev pub DeadMatched : (S : ℕ → Type 0) (N N' : Net) (R : Marking → Marking → Type 0) → Type 0
DeadMatched S N N' R =
    (m m' : Marking) → R m m' → Dead N m → (e' : Marking) × Leads N' m' e' × Dead N' e' × Agree S m e'

module _ (S : ℕ → Type 0) (N N' : Net) (R : Marking → Marking → Type 0) (F : Simulation S N N' R) where
  -- Firing by firing, a whole run is matched; its last marking is so only up to sameness.
  match_run : (ts : List N.Trans) (m e m' : Marking) → R m m' → Run N m ts e
      → (l : Marking) × (e' : Marking) × Same l e × Leads N' m' e' × R l e'
  match_run [] m e m' r s = (m, m', s, leads_self N' m', r)
  match_run (t ∷ ts) m e m' r run =
      let a = F.steps t m (fire N t m) m' r (fire_fires N t m run.0) in
      let b = match_run ts (fire N t m) e a.0 a.2 run.1 in
      (b.0, b.1, b.2, leads_trans N' m' a.0 b.1 a.1 b.3, b.4)

  pub simulated_reach : (v : Marking) → Reaches S N v → Reaches S N' v
  simulated_reach v h =
      let b = match_run h.1.0 N.start h.0 N'.start F.begins h.1.1 in
      (b.1, b.3, λ p s. sym (F.agrees b.0 b.1 b.4 p s) ∙ b.2 p ∙ h.2 p s)

  pub simulated_standstill : DeadMatched S N N' R → (v : Marking) → StandstillAt S N v → StandstillAt S N' v
  simulated_standstill D v h =
      let b = match_run h.1.0 N.start h.0 N'.start F.begins h.1.1 in
      let d = D b.0 b.1 b.4 (dead_cong N h.0 b.0 (λ p. sym (b.2 p)) h.2) in
      (d.0, leads_trans N' N'.start b.1 d.0 b.3 d.1, d.2, λ p s. sym (d.3 p s) ∙ b.2 p ∙ h.3 p s)

-- Both answers at once.
abbrev pub SameAnswers : (ℕ → Type 0) → Net → Net → Type 0
SameAnswers S N N' = SameReach S N N' × SameStandstill S N N'

-- Simulations both ways make the answers the same.
module _ (S : ℕ → Type 0) (N N' : Net) (R R' : Marking → Marking → Type 0) (F : Simulation S N N' R) (F' : Simulation S N' N R') where
  pub mutual_reach : SameReach S N N'
  mutual_reach v = (simulated_reach S N N' R F v, simulated_reach S N' N R' F' v)

  pub mutual_standstill : DeadMatched S N N' R → DeadMatched S N' N R' → SameStandstill S N N'
  mutual_standstill D D' v = (simulated_standstill S N N' R F D v, simulated_standstill S N' N R' F' D' v)

  pub mutual_answers : DeadMatched S N N' R → DeadMatched S N' N R' → SameAnswers S N N'
  mutual_answers D D' = (mutual_reach, mutual_standstill D D')

-- A bisimulation in lockstep: the transitions pair up, and in related markings the two of a pair are enabled together and fire
-- into related markings.
pub record Lockstep (S : ℕ → Type 0) (N N' : Net) (R : Marking → Marking → Type 0) (P : N.Trans → N'.Trans → Type 0) : Type 0 where
  pub begins : R N.start N'.start
  pub agrees : (m m' : Marking) → R m m' → Agree S m m'
  pub there : (t : N.Trans) → (t' : N'.Trans) × P t t'
  pub back : (t' : N'.Trans) → (t : N.Trans) × P t t'
  pub on : (t : N.Trans) (t' : N'.Trans) (m m' : Marking) → P t t' → R m m' → Enabled N t m → Enabled N' t' m'
  pub on_back : (t : N.Trans) (t' : N'.Trans) (m m' : Marking) → P t t' → R m m' → Enabled N' t' m' → Enabled N t m
  pub keeps : (t : N.Trans) (t' : N'.Trans) (m m₁ m' m₁' : Marking) → P t t' → R m m' → Fires N t m m₁ → Fires N' t' m' m₁' → R m₁ m₁'

module _ (S : ℕ → Type 0) (N N' : Net) (R : Marking → Marking → Type 0) (P : N.Trans → N'.Trans → Type 0)
    (L : Lockstep S N N' R P) where
  abbrev Back : Marking → Marking → Type 0
  Back m' m = R m m'

  lockstep_to : Simulation S N N' R
  lockstep_to =
      record {
        begins = L.begins;
        steps =
            λ t m m₁ m' r f.
            let x = L.there t in
            let h = L.on t x.0 m m' x.1 r (λ q. (f q).0) in
            let m₁' = fire N' x.0 m' in
            (m₁', leads_fire N' x.0 m' h, L.keeps t x.0 m m₁ m' m₁' x.1 r f (fire_fires N' x.0 m' h));
        agrees = L.agrees;
      }

  lockstep_from : Simulation S N' N Back
  lockstep_from =
      record {
        begins = L.begins;
        steps =
            λ t' m' m₁' m r g.
            let x = L.back t' in
            let h = L.on_back x.0 t' m m' x.1 r (λ q. (g q).0) in
            let m₁ = fire N x.0 m in
            (m₁, leads_fire N x.0 m h, L.keeps x.0 t' m m₁ m' m₁' x.1 r (fire_fires N x.0 m h) g);
        agrees = λ m' m r q s. sym (L.agrees m m' r q s);
      }

  lockstep_dead : DeadMatched S N N' R
  lockstep_dead m m' r d = (
    m',
    leads_self N' m',
    λ t' h. let x = L.back t' in d x.0 (L.on_back x.0 t' m m' x.1 r h),
    L.agrees m m' r,
  )

  lockstep_dead_back : DeadMatched S N' N Back
  lockstep_dead_back m' m r d = (
    m,
    leads_self N m,
    λ t h. let x = L.there t in d x.0 (L.on t x.0 m m' x.1 r h),
    λ q s. sym (L.agrees m m' r q s),
  )

  pub lockstep_answers : SameAnswers S N N'
  lockstep_answers = mutual_answers S N N' R Back lockstep_to lockstep_from lockstep_dead lockstep_dead_back

-- Nets that are the same but for names and order give the same answers.
pub same_net_answers : (S : ℕ → Type 0) (N N' : Net) → SameNet N N' → SameAnswers S N N'
same_net_answers S N N' E =
    lockstep_answers S N N' Same (SameRow N N')
    (record {
      begins = E.begins;
      agrees = λ m m' r p s. r p;
      there = E.there;
      back = E.back;
      on = λ t t' m m' x r h p. omega (arith, x p, r p, h p);
      on_back = λ t t' m m' x r h p. omega (arith, x p, r p, h p);
      keeps = λ t t' m m₁ m' m₁' x r f g p. omega (arith, x p, r p, f p, g p);
    })

-- Answers that are the same in two steps are the same in one.
pub reach_trans : (S : ℕ → Type 0) (N N₁ N₂ : Net) → SameReach S N N₁ → SameReach S N₁ N₂ → SameReach S N N₂
reach_trans S N N₁ N₂ a b v = (λ h. (b v).0 ((a v).0 h), λ h. (a v).1 ((b v).1 h))

pub standstill_trans : (S : ℕ → Type 0) (N N₁ N₂ : Net) → SameStandstill S N N₁ → SameStandstill S N₁ N₂ → SameStandstill S N N₂
standstill_trans S N N₁ N₂ a b v = (λ h. (b v).0 ((a v).0 h), λ h. (a v).1 ((b v).1 h))

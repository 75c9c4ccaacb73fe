-- Why the three steps are wrong.
use Rattle.std.proofs.Common.{◌≡◌, ℕ, ◌+◌, ◌*◌, ◌%◌, ◌<◌, ◌≤◌, Bool, true, false, ◌≢◌, ◌⊎◌, List, [], ◌∷◌, sym, refl, ap, ◌∙◌, inl, inr, arith}
use Rattle.std.proofs.lemmas.Bool.{ne_eqb, true≢false, cases_lt, cases_eq}
use Rattle.theory.specs.Nets.{Marking, Net, Same, Enabled, fire, Run, Reachable, Dead, SameStandstill}
use Rattle.theory.specs.Nexts.{without, post, fused, Merged, Feeder, Consumer}
use Rattle.theory.specs.Conditions.{Carries}
use Rattle.theory.specs.Mistakes.{only_at, none, NoSupport, idling_net, FactorZeroInventsAStandstill, Splitting, split, left, right, splitting_net, one_each, AlmostPostAgglomerable, SplitTokensAreLost, swapping_net, DroppedMovesInventAStandstill}

pub there_only : (p w : ℕ) → only_at p w p ≡ w
there_only p w = rw (Rattle.std.proofs.lemmas.Bool.eq-eqb p p refl)

pub elsewhere : (p w q : ℕ) → q ≢ p → only_at p w q ≡ 0
elsewhere p w q n = rw (ne_eqb q p n)

-- What holds at the start and is kept by every firing holds of every reachable marking.
module _ (N : Net) (I : Marking → Type 0) (same : (m e : Marking) → Same m e → I m → I e)
    (keeps : (t : N.Trans) (m : Marking) → Enabled N t m → I m → I (fire N t m)) where
  invariant : (ts : List N.Trans) (m e : Marking) → I m → Run N m ts e → I e
  invariant [] m e i r = same m e r i
  invariant (t ∷ ts) m e i r = invariant ts (fire N t m) e (keeps t m r.0 i) r.1

-- A dead marking of one net answers a standstill of the other.
module _ (N N' : Net) (law : SameStandstill NoSupport N N') where
  invented : Dead N' N'.start → (m : Marking) × Reachable N m × Dead N m
  invented d =
      let x = (law N'.start).1 (N'.start, ([], λ p. refl), d, λ p s. absurd s) in
      (x.0, x.1, x.2)

pub factor_zero_invents_a_standstill : FactorZeroInventsAStandstill
factor_zero_invents_a_standstill = (λ p. (zero_times p, zero_times' p), wrong)
  where
    zero_times : (p : ℕ) → none p ≡ 0 * only_at 0 1 p
    zero_times p = sym (native.Mathlib.Nat.zero-mul (only_at 0 1 p))

    zero_times' : (p : ℕ) → none p ≡ 0 * none p
    zero_times' p = refl

    dead : Dead (without idling_net (λ t. t ≡ true)) none
    dead (true, n) h = n refl
    dead (false, n) h = absurd (omega (arith, h 0))

    wrong : SameStandstill NoSupport idling_net (without idling_net (λ t. t ≡ true)) → ⊥
    wrong law = let x = invented idling_net (without idling_net (λ t. t ≡ true)) law dead in x.2 true (λ p. omega arith)

pub dropped_moves_invent_a_standstill : DroppedMovesInventAStandstill
dropped_moves_invent_a_standstill = (there, back, wrong)
  where
    there : Carries swapping_net true 0 1
    there = record { takes = refl; puts = refl; no_takes = λ r n. elsewhere 0 1 r n; no_puts = λ r n. elsewhere 1 1 r n }

    back : Carries swapping_net false 1 0
    back = record { takes = refl; puts = refl; no_takes = λ r n. elsewhere 1 1 r n; no_puts = λ r n. elsewhere 0 1 r n }

    One : Marking → Type 0
    One m = m 0 + m 1 ≡ 1

    kept : (t : Bool) (m : Marking) → Enabled swapping_net t m → One m → One (fire swapping_net t m)
    kept true m h i = let a = h 0 in omega arith
    kept false m h i = let a = h 1 in omega arith

    alive : (m : Marking) → One m → Dead swapping_net m → (0 < m 0) ⊎ (m 0 ≤ 0) → ⊥
    alive m i d (inl l) = d true (λ p. at p (cases_eq p 0))
      where
        at : (p : ℕ) → (p ≡ 0) ⊎ (p ≡ 0 → ⊥) → only_at 0 1 p ≤ m p
        at p (inl e) = rw e (omega arith)
        at p (inr n) = rw (elsewhere 0 1 p n) (omega arith)
    alive m i d (inr l) = d false (λ p. at p (cases_eq p 1))
      where
        at : (p : ℕ) → (p ≡ 1) ⊎ (p ≡ 1 → ⊥) → only_at 1 1 p ≤ m p
        at p (inl e) = rw e (omega arith)
        at p (inr n) = rw (elsewhere 1 1 p n) (omega arith)

    wrong : SameStandstill NoSupport swapping_net (without (fused 0 1 swapping_net) (λ _. Unit {0})) → ⊥
    wrong law =
        let x = invented swapping_net (without (fused 0 1 swapping_net) (λ _. Unit {0})) law (λ t h. t.1 tt) in
        let i = invariant swapping_net One (λ m e s k. omega (arith, s 0, s 1)) kept x.1.0 (only_at 0 1) x.0 refl x.1.1 in
        alive x.0 i x.2 (cases_lt 0 (x.0 0))

pub split_tokens_are_lost : SplitTokensAreLost
split_tokens_are_lost = (almost, halves, lost)
  where
    apart : (t : Splitting) → Feeder splitting_net 1 t → Consumer splitting_net 1 t → ⊥
    apart split h f = omega arith
    apart left h f = omega arith
    apart right h f = omega arith

    alone : (f : Splitting) → Consumer splitting_net 1 f → (q : ℕ) → q ≢ 1 → splitting_net.take f q ≡ 0
    alone split c q n = absurd (omega arith)
    alone left c q n = elsewhere 1 1 q n
    alone right c q n = elsewhere 1 1 q n

    almost : AlmostPostAgglomerable
    almost =
        record {
          sides = record { fed = (split, omega arith); consumed = (left, omega arith); apart = apart };
          consumers = record { alone = alone; hidden = λ f c q s. absurd s };
          marks = refl;
        }

    -- After the split one token goes to each side.
    after_split : Marking
    after_split = fire splitting_net split (only_at 0 1)

    within : (p w : ℕ) (m : Marking) → w ≤ m p → (q : ℕ) → only_at p w q ≤ m q
    within p w m h q = go (cases_eq q p)
      where
        go : (q ≡ p) ⊎ (q ≡ p → ⊥) → only_at p w q ≤ m q
        go (inl e) = rw e (rw (there_only p w) h)
        go (inr n) = rw (elsewhere p w q n) (omega arith)

    ends : (q : ℕ) → fire splitting_net right (fire splitting_net left after_split) q ≡ one_each q
    ends q = go (cases_eq q 0) (cases_eq q 1) (cases_eq q 2) (cases_eq q 3)
      where
        go : (q ≡ 0) ⊎ (q ≡ 0 → ⊥) → (q ≡ 1) ⊎ (q ≡ 1 → ⊥) → (q ≡ 2) ⊎ (q ≡ 2 → ⊥) → (q ≡ 3) ⊎ (q ≡ 3 → ⊥)
            → fire splitting_net right (fire splitting_net left after_split) q ≡ one_each q
        go (inl e) b c d = rw e refl
        go (inr a) (inl e) c d = rw e refl
        go (inr a) (inr b) (inl e) d = rw e refl
        go (inr a) (inr b) (inr c) (inl e) = rw e refl
        go (inr a) (inr b) (inr c) (inr d) = rw (ne_eqb q 0 a, ne_eqb q 1 b, ne_eqb q 2 c, ne_eqb q 3 d) refl

    halves : Reachable splitting_net one_each
    halves = (
      split ∷ left ∷ right ∷ [],
      (
        λ q. within 0 1 (only_at 0 1) (omega arith) q,
        (λ q. within 1 1 after_split (omega arith) q, (λ q. within 1 1 (fire splitting_net left after_split) (omega arith) q, ends)),
      ),
    )

    -- Products move two tokens at once: what lies on place 2 stays even.
    Even : Marking → Type 0
    Even m = m 2 % 2 ≡ 0

    even_put : (t : Merged splitting_net 1) → ((post splitting_net 1).take t 2 ≡ 0) × ((post splitting_net 1).put t 2 % 2 ≡ 0)
    even_put (inl (split, h, f)) = absurd (h (omega arith))
    even_put (inl (left, h, f)) = absurd (f (omega arith))
    even_put (inl (right, h, f)) = absurd (f (omega arith))
    even_put (inr (split, left, h, f)) = (refl, refl)
    even_put (inr (split, right, h, f)) = (refl, refl)
    even_put (inr (split, split, h, f)) = absurd (omega arith)
    even_put (inr (left, g, h, f)) = absurd (omega arith)
    even_put (inr (right, g, h, f)) = absurd (omega arith)

    kept : (t : Merged splitting_net 1) (m : Marking) → Enabled (post splitting_net 1) t m → Even m → Even (fire (post splitting_net 1) t m)
    kept t m h i = let e = even_put t in omega (arith, e.0, e.1)

    lost : Reachable (post splitting_net 1) one_each → ⊥
    lost r =
        let i : Even one_each = invariant (post splitting_net 1) Even (λ m e s k. ap (λ (n : ℕ). n % 2) (sym (s 2)) ∙ k) kept r.0 (only_at 0 1) one_each refl r.1 in
        omega arith

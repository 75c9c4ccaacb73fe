-- What is asked of the place that a transition takes from.
use Rattle.std.proofs.Common.{◌≡◌, ℕ, ◌*◌, ◌<◌, Bool, true, false, ◌&&◌, ltb, leb, ◌⊎◌, inl, inr, Option, Some, sym, ap, ◌∙◌, arith}
use Rattle.std.specs.Option.{unwrap_or}
use Rattle.std.proofs.lemmas.Bool.{cases_Bool, lt-ltb}
use Rattle.std.proofs.lemmas.Option.{none-some, same_Some}
use Rattle.net.specs.States.{State, mark, take}
use Rattle.theory.specs.Tests.{some, lowest, ahead?, suffices?}
use Rattle.theory.proofs.Says.{lowest_some, lowest_none}
use Rattle.moves.specs.Moves.{only_at}

-- The lowest number below `n` is below `n`.
lowest_below : (n : ℕ) (f : ℕ → Bool) (i : ℕ) → Some i ≡ lowest n f → i < n
lowest_below n f i e = go (cases_Bool (some n f))
  where
    go : (some n f ≡ true) ⊎ (some n f ≡ false) → i < n
    go (inl k) = let x = lowest_some n f k in omega (arith, same_Some _ _ (e ∙ x.1), x.2)
    go (inr k) = absurd (none-some i (sym (e ∙ lowest_none n f k)))

module _ (s : State) (t : ℕ) where
  abbrev from_source : Option ℕ
  from_source = lowest 64 (λ p. ltb 0 (take s t p))

  module _ (p : ℕ) (e : Some p ≡ from_source) where
    pub ahead_at : (b : Bool) → b ≡ only_at s t p → ahead? s t ≡ b
    ahead_at b h =
        ap (λ o. ltb (unwrap_or o 64) 64 && only_at s t (unwrap_or o 64)) (sym e) ∙ ap (λ c. c && only_at s t p) (lt-ltb p 64 (lowest_below 64 _ p e)) ∙ sym h

    pub suffices_at : (k : ℕ) (b : Bool) → b ≡ leb (k * take s t p) (mark s p) → suffices? s t k ≡ b
    suffices_at k b h = ap (λ o. leb (k * take s t (unwrap_or o 64)) (mark s (unwrap_or o 64))) (sym e) ∙ sym h

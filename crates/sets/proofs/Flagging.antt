-- Sets of places, and the flags of their members.
use Rattle.std.proofs.Common.{◌≡◌, ℕ, zero, suc, ◌<◌, Bool, true, false, not, ◌&&◌, ◌||◌, nat_eq, nat_lt, refl, sym, ap, ◌∙◌, arith}
use Rattle.std.proofs.lemmas.Bool.{lt-ltb, ne_eqb}
use mathlib.Core.Path.{fun_ext}
use Rattle.net.specs.declared.net.Side.{Side}
use Rattle.net.specs.States.{State, take, put}
use Rattle.checks.specs.Alone.{weight, spares?}
use Rattle.checks.proofs.Asking.{every_same}
use Rattle.sets.specs.Sets.{touches?}
use Rattle.theory.specs.Rewrites.{keeping}
use Rattle.theory.specs.Tests.{◌⇒◌, every, some, every_transition, takes_from?, puts_into?, falls?, siphon?}
use Rattle.theory.proofs.Says.{every_zero, every_suc, some_zero, some_suc}

not_both : (a b : Bool) → not (a && b) ≡ (not a || not b)
not_both true b = refl
not_both false b = refl

not_every : (n : ℕ) (f g : ℕ → Bool) → ((i : ℕ) → not (f i) ≡ g i) → not (every n f) ≡ some n g
not_every zero f g h = ap not (every_zero f) ∙ sym (some_zero g)
not_every (suc n) f g h =
    ap not (every_suc n f) ∙ not_both (every n f) (f n) ∙ ap (λ a. a || not (f n)) (not_every n f g h) ∙ ap (λ b. some n g || b) (h n) ∙ sym (some_suc n g)

some_below : (n : ℕ) (f g : ℕ → Bool) → ((i : ℕ) → i < n → f i ≡ g i) → some n f ≡ some n g
some_below zero f g h = some_zero f ∙ sym (some_zero g)
some_below (suc n) f g h =
    some_suc n f ∙ ap (λ a. a || f n) (some_below n f g (λ i l. h i (omega arith))) ∙ ap (λ b. some n g || b) (h n (omega arith)) ∙ sym (some_suc n g)

-- What does not spare a set touches it.
not_none : (x : Bool) (w : ℕ) → not (x ⇒ nat_eq w 0) ≡ (x && nat_lt 0 w)
not_none true zero = refl
not_none true (suc w) = rw (lt-ltb 0 (suc w) (omega arith), ne_eqb (suc w) 0 (λ e. omega (arith, e))) refl
not_none false w = refl

pub not_spared : (d : Side) (s : State) (z : ℕ → Bool) (t : ℕ) → not (spares? d s z t) ≡ touches? d s z t
not_spared d s z t = not_every 64 _ _ (λ p. not_none (z p) (weight d s t p))

-- Two sets with the same places are touched by the same transitions.
module _ (s : State) (z y : ℕ → Bool) (same : (p : ℕ) → p < 64 → z p ≡ y p) where
  taken_same : (t : ℕ) → takes_from? s z t ≡ takes_from? s y t
  taken_same t = some_below 64 _ _ (λ p l. ap (λ b. b && nat_lt 0 (take s t p)) (same p l))

  put_same : (t : ℕ) → puts_into? s z t ≡ puts_into? s y t
  put_same t = some_below 64 _ _ (λ p l. ap (λ b. b && nat_lt 0 (put s t p)) (same p l))

  pub siphon_same : siphon? s z ≡ siphon? s y
  siphon_same = every_same _ _ s.transitions (λ t. ap (λ a. a ⇒ takes_from? s z t) (put_same t) ∙ ap (λ b. puts_into? s y t ⇒ b) (taken_same t))

  pub falls_same : (x : ℕ → Bool) → every_transition s (λ t. takes_from? s z t ⇒ falls? s x t) ≡ every_transition s (λ t. takes_from? s y t ⇒ falls? s x t)
  falls_same x = every_same _ _ s.transitions (λ t. ap (λ a. a ⇒ falls? s x t) (taken_same t))

  pub kept_same : keeping (λ t. not (takes_from? s z t)) s ≡ keeping (λ t. not (takes_from? s y t)) s
  kept_same = ap (λ (f : ℕ → Bool). keeping f s) (fun_ext (λ t. ap not (taken_same t)))

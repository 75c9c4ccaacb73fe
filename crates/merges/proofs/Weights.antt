-- The weights at a place, by its first consumer.
use Rattle.std.proofs.Common.{◌≡◌, ℕ, ◌%◌, Bool, ◌&&◌, nat_eq, ap, ◌∙◌}
use Rattle.net.specs.States.{State, take, put}
use Rattle.theory.specs.Tests.{◌⇒◌, every_transition, first, feeder?, consumer?, one_consumer?, all_equal?, first_weight}

-- `f` is the only consumer of `p`, and the weights there are multiples of `w`; all of them are `w`.
abbrev pub only_and_multiples : State → ℕ → ℕ → ℕ → Bool
only_and_multiples s p f w =
    every_transition s (λ t. consumer? s p t ⇒ nat_eq t f) && every_transition s (λ h. feeder? s p h ⇒ nat_eq (put s h p % w) 0)

abbrev pub all_are : State → ℕ → ℕ → Bool
all_are s p w = every_transition s (λ t. (consumer? s p t ⇒ nat_eq (take s t p) w) && (feeder? s p t ⇒ nat_eq (put s t p) w))

module _ (s : State) (p f w : ℕ) (e : f ≡ first s.transitions (consumer? s p)) (d : w ≡ take s f p) where
  weight : w ≡ first_weight s p
  weight = d ∙ ap (λ z. take s z p) e

  pub one_by_first : only_and_multiples s p f w ≡ one_consumer? s p
  one_by_first = ap (λ z. only_and_multiples s p z w) e ∙ ap (λ z. only_and_multiples s p (first s.transitions (consumer? s p)) z) weight

  pub all_by_first : all_are s p w ≡ all_equal? s p
  all_by_first = ap (λ z. all_are s p z) weight

-- What a consumer and a feeder leave untouched, asked of their takes and of their puts.
use Rattle.std.proofs.Common.{◌≡◌, ℕ, Bool, ◌&&◌, ◌==◌, not, nat_eq, sym, ap}
use Rattle.net.specs.declared.net.Side.{Side}
use Rattle.net.specs.declared.net.Side.TheVariants.{Takes, Puts}
use Rattle.net.specs.States.{State, in_support, put}
use Rattle.checks.specs.Alone.{weight, touches_only?, spares_support?}
use Rattle.checks.proofs.Both.{every_both}
use Rattle.theory.specs.Tests.{◌⇒◌, every_place, feeder?, consumer?}

-- On side `d` a transition touches no place but `p`, and on side `e` none of the support: of each place, and one side after the other.
abbrev pub alone : Side → Side → State → ℕ → ℕ → Bool
alone d e s t p = every_place (λ q. (not (q == p) ⇒ nat_eq (weight d s t q) 0) && (in_support s q ⇒ nat_eq (weight e s t q) 0))

abbrev pub apart : Side → Side → State → ℕ → ℕ → Bool
apart d e s t p = touches_only? d s t p && spares_support? e s t

apart_alone : (d e : Side) (s : State) (t p : ℕ) → apart d e s t p ≡ alone d e s t p
apart_alone d e s t p = sym (every_both 64 _ _)

-- So asked of a consumer, and of a feeder.
abbrev pub consumer_apart : State → ℕ → ℕ → Bool
consumer_apart s p f = consumer? s p f ⇒ apart Takes Puts s f p

abbrev pub feeder_apart : State → ℕ → ℕ → Bool
feeder_apart s p h = feeder? s p h ⇒ (put s h p == 1 && apart Puts Takes s h p)

pub consumer_alone : (s : State) (p f : ℕ) → consumer_apart s p f ≡ (consumer? s p f ⇒ alone Takes Puts s f p)
consumer_alone s p f = ap (λ b. consumer? s p f ⇒ b) (apart_alone Takes Puts s f p)

pub feeder_alone : (s : State) (p h : ℕ) → feeder_apart s p h ≡ (feeder? s p h ⇒ (put s h p == 1 && alone Puts Takes s h p))
feeder_alone s p h = ap (λ b. feeder? s p h ⇒ (put s h p == 1 && b)) (apart_alone Puts Takes s h p)

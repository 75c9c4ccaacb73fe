-- What a transition that carries leaves untouched, asked of its takes and of its puts.
use Rattle.std.proofs.Common.{◌≡◌, ℕ, Bool, ◌&&◌, ◌==◌, sym, ap}
use Rattle.net.specs.declared.net.Side.TheVariants.{Takes, Puts}
use Rattle.net.specs.States.{State, take, put}
use Rattle.checks.specs.Alone.{touches_only?}
use Rattle.checks.proofs.Both.{every_both}
use Rattle.theory.specs.Tests.{carries?}

abbrev pub carries_apart : State → ℕ → ℕ → ℕ → Bool
carries_apart s a p q = (take s a p == 1) && (put s a q == 1 && (touches_only? Takes s a p && touches_only? Puts s a q))

pub carries_both : (s : State) (a p q : ℕ) → carries_apart s a p q ≡ carries? s a p q
carries_both s a p q = ap (λ b. (take s a p == 1) && (put s a q == 1 && b)) (sym (every_both 64 _ _))

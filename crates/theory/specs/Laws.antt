-- The net that a state holds, and the law of every step.
use Rattle.std.specs.Prelude.{◌≡◌, ℕ, ◌<◌, true, Ok}
use Rattle.net.specs.States.{State, stands, in_support, mark, take, put}
use Rattle.net.specs.Qualities.{Qualities}
use Rattle.theory.specs.Nets.{Net, Law}
use Rattle.theory.specs.Steps.{Step, step}

abbrev pub net_of : State → Net
net_of s =
    record {
      Trans = (t : ℕ) × (t < s.transitions);
      take = λ t. take s t.0;
      put = λ t. put s t.0;
      start = mark s;
    }

abbrev pub Supports : State → ℕ → Type 0
Supports s p = in_support s p ≡ true

-- What a taken step keeps: the support and the question, every support place standing, the qualities of a net, and the answers to
-- the open questions.
pub record Kept (s t : State) : Type 0 where
  pub support : t.support ≡ s.support
  pub question : t.question ≡ s.question
  pub standing : (p : ℕ) → in_support s p ≡ true → stands t p ≡ true
  pub qualities : Qualities t
  pub law : Law (Supports s) s.question (net_of s) (net_of t)

-- The law of all steps.
abbrev pub StepsAreLawful : Type 0
StepsAreLawful = (s t : State) (x : Step) → Qualities s → step s x ≡ Ok t → Kept s t

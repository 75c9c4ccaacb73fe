-- Refusals: tables of conditions in their order, and what each refusal of the net tells.
use Rattle.std.specs.Prelude.{◌≡◌, ℕ, Bool, true, cond, List, [], ◌∷◌, Ok, Err, Result}
use Rattle.net.specs.declared.net.NetFault.{NetFault}
use Rattle.net.specs.declared.net.NetFault.TheVariants.{WrongSize, TooManyPlaces, BadFlag, TooManyTransitions, NoTransition, NoPlace, BadWeight, ArcExists, BadQuestion}
use Rattle.net.specs.declared.net.Layer.{Layer}
use Rattle.net.specs.declared.net.Layer.TheVariants as layer
use Rattle.net.specs.declared.net.Origin.{Origin}
use Rattle.net.specs.declared.net.Told.{Told}
use Rattle.net.specs.declared.net.Placed.{Placed}

-- A line of a table: the refusal, unless the condition holds.
pub record Check (F : Type 0) : Type 0 where
  pub refusal : F
  pub holds : Bool

infix 70 ◌unless◌
abbrev pub ◌unless◌ : {F : Type 0} → F → Bool → Check F
f unless b = record { refusal = f; holds = b }

-- The first refusal of the table whose condition fails; else the result.
abbrev pub judged : {F X : Type 0} → List (Check F) → X → Result X F
judged [] x = Ok x
judged (c ∷ cs) x = cond c.holds (judged cs x) (Err c.refusal)

-- All conditions of the table hold.
abbrev pub Passes : {F : Type 0} → List (Check F) → Type 0
Passes [] = Unit {0}
Passes (c ∷ cs) = (c.holds ≡ true) × Passes cs

-- The number of each refusal of the net.
abbrev pub net_number : NetFault → ℕ
net_number WrongSize = 1
net_number TooManyPlaces = 5
net_number BadFlag = 6
net_number TooManyTransitions = 7
net_number NoTransition = 8
net_number NoPlace = 9
net_number BadWeight = 10
net_number ArcExists = 11
net_number BadQuestion = 12

-- Where a refusal of a layer arises: at byte `b`, after `n` commands or steps. In a call without bytes both are 0.
abbrev pub origin_at : Layer → ℕ → ℕ → Origin
origin_at l b n = record { layer = l; at = record { byte = b; count = n } }

-- What a refusal of the net tells.
abbrev pub net_told : NetFault → Told
net_told e = record { number = net_number e; origin = origin_at layer.Net 0 0 }

-- A result whose fault has where it arose beside it.
abbrev pub placed : {X F : Type 0} → Result X F → Origin → Result X (Placed F)
placed (Ok x) o = Ok x
placed (Err f) o = Err (record { fault = f; origin = o })

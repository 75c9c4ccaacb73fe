-- What a look answers: one number of the net, or the first refusal.
use Rattle.std.specs.Prelude.{ℕ, Bool, cond, List, [], ◌∷◌, length, Result, nat_eq, nat_lt}
use Rattle.net.specs.declared.net.Look.{Look}
use Rattle.net.specs.declared.net.Look.TheVariants as look
use Rattle.net.specs.declared.net.NetFault.{NetFault}
use Rattle.net.specs.declared.net.NetFault.TheVariants.{WrongSize, NoTransition, NoPlace}
use Rattle.net.specs.declared.net.Side.{Side}
use Rattle.net.specs.Sheets.{sheet_size, base, part}
use Rattle.net.specs.Refusals.{Check, ◌unless◌, judged}
use Rattle.net.specs.States.{State, sized, stands, in_support, mark, take, put, question_number, Answered}

-- 1 for yes, 0 for no.
abbrev pub flag : Bool → ℕ
flag b = cond b 1 0

-- The refusals of a look that names nothing, a place, or a transition and a place.
abbrev pub sheet_checks : State → List (Check NetFault)
sheet_checks s = WrongSize unless sized s ∷ []

abbrev pub place_checks : State → ℕ → List (Check NetFault)
place_checks s p = WrongSize unless sized s ∷ NoPlace unless stands s p ∷ []

abbrev pub arc_checks : State → ℕ → ℕ → List (Check NetFault)
arc_checks s t p = WrongSize unless sized s ∷ NoTransition unless nat_lt t s.transitions ∷ NoPlace unless stands s p ∷ []

-- Measuring a sheet.
abbrev pub measured : List ℕ → Result Unit NetFault
measured xs = judged (WrongSize unless nat_eq (length xs) sheet_size ∷ []) tt

-- May a call name this place? This transition and this place?
abbrev pub place_checked : State → ℕ → Result Unit NetFault
place_checked s p = judged (place_checks s p) tt

abbrev pub arc_checked : State → ℕ → ℕ → Result Unit NetFault
arc_checked s t p = judged (arc_checks s t p) tt

-- The weight of transition `t` at a place, on one side.
abbrev pub weighed : State → Side → ℕ → ℕ → Result ℕ NetFault
weighed s d t p = judged (arc_checks s t p) (part s.sheet (base d t) p)

abbrev pub looked : State → Look → Result ℕ NetFault
looked s look.Transitions = judged (sheet_checks s) s.transitions
looked s look.Question = judged (sheet_checks s) (question_number s.question)
looked s (look.Stands p) = judged (sheet_checks s) (flag (stands s p))
looked s (look.Support p) = judged (place_checks s p) (flag (in_support s p))
looked s (look.Mark p) = judged (place_checks s p) (mark s p)
looked s (look.Take t p) = judged (arc_checks s t p) (take s t p)
looked s (look.Put t p) = judged (arc_checks s t p) (put s t p)

-- A call that asks the sheet's size alone: it refuses a sheet of wrong size, and else leaves this state.
abbrev pub Leaves : Result Unit NetFault → State → State → State → Type 0
Leaves r after before next = Answered r after before (judged (sheet_checks before) next)

-- What each call of a draft does to its state: the table of its refusals, and the next state.
use Rattle.std.specs.Prelude.{ℕ, ◌+◌, ◌≤◌, Bool, true, cond, not, ◌&&◌, nat_lt, nat_le, List, [], ◌∷◌, ◌++◌, length, Result, ◌==◌, nat_eq, slice_index, slice_set}
use Rattle.net.specs.declared.net.NetFault.{NetFault}
use Rattle.net.specs.declared.net.NetFault.TheVariants.{WrongSize, TooManyPlaces, BadFlag, TooManyTransitions, BadWeight, ArcExists, BadQuestion}
use Rattle.std.specs.List.{position_or_len}
use Rattle.net.specs.declared.net.Side.{Side}
use Rattle.net.specs.declared.net.Question.{Question}
use Rattle.net.specs.declared.net.Question.TheVariants.{Reach, Standstill, Both}
use Rattle.net.specs.Sheets.{most_places, most_transitions, most_weight, most_mark, sheet_size, base, takes_base, puts_base}
use Rattle.net.specs.Refusals.{Check, ◌unless◌, judged}
use Rattle.net.specs.States.{State, sized, bare, empty, left}
use Rattle.net.specs.Looks.{sheet_checks, arc_checks}

-- The lowest number that no place has: places of a draft are numbered in the order in which they come.
abbrev pub next_place : List Bool → ℕ
next_place fs = position_or_len not fs

-- A place: its start mark, and whether it is in the support.
abbrev pub place_table : State → ℕ → List (Check NetFault)
place_table s f = WrongSize unless sized s ∷ TooManyPlaces unless nat_lt (next_place s.standing) most_places ∷ BadFlag unless nat_le f 1 ∷ []

abbrev pub with_place : State → ℕ → Bool → State
with_place s m b =
    let p = next_place s.standing in
    record {
      sheet = slice_set s.sheet p m;
      transitions = s.transitions;
      standing = slice_set s.standing p true;
      support = slice_set s.support p b;
      question = s.question;
    }

abbrev pub place_added : State → ℕ → ℕ → Result State NetFault
place_added s m f = judged (place_table s f) (with_place s m (f == 1))

-- A transition without arcs: its row, as yet unused, is 0.
abbrev pub transition_table : State → List (Check NetFault)
transition_table s = WrongSize unless sized s ∷ TooManyTransitions unless nat_lt s.transitions most_transitions ∷ []

abbrev pub with_transition : State → State
with_transition s =
    record {
      sheet = s.sheet;
      transitions = s.transitions + 1;
      standing = s.standing;
      support = s.support;
      question = s.question;
    }

abbrev pub transition_added : State → Result State NetFault
transition_added s = judged (transition_table s) (with_transition s)

-- An arc: its weight is in the limits, and there is none of its kind yet.
abbrev pub weight_checks : State → ℕ → ℕ → List (Check NetFault)
weight_checks s i w = BadWeight unless (nat_lt 0 w && nat_le w most_weight) ∷ ArcExists unless nat_eq (slice_index s.sheet i) 0 ∷ []

abbrev pub with_number : State → ℕ → ℕ → State
with_number s i w =
    record {
      sheet = slice_set s.sheet i w;
      transitions = s.transitions;
      standing = s.standing;
      support = s.support;
      question = s.question;
    }

abbrev pub arc_table : State → ℕ → ℕ → ℕ → ℕ → List (Check NetFault)
arc_table s from t p w = arc_checks s t p ++ weight_checks s (from + p) w

abbrev pub arc_added : State → Side → ℕ → ℕ → ℕ → Result State NetFault
arc_added s d t p w = judged (arc_table s (base d t) t p w) (with_number s (base d t + p) w)

abbrev pub arc_in_added : State → ℕ → ℕ → ℕ → Result State NetFault
arc_in_added s t p w = judged (arc_table s (takes_base t) t p w) (with_number s (takes_base t + p) w)

abbrev pub arc_out_added : State → ℕ → ℕ → ℕ → Result State NetFault
arc_out_added s t p w = judged (arc_table s (puts_base t) t p w) (with_number s (puts_base t + p) w)

-- The question of a number: 0, as if nobody had told one, is kept as 1.
abbrev pub question_of : ℕ → Question
question_of q = cond (nat_le q 1) Reach (cond (q == 2) Standstill Both)

abbrev pub number_checks : ℕ → List (Check NetFault)
number_checks q = BadQuestion unless nat_le q 3 ∷ []

abbrev pub question_asked : ℕ → Result Question NetFault
question_asked q = judged (number_checks q) (question_of q)

abbrev pub question_table : State → ℕ → List (Check NetFault)
question_table s q = WrongSize unless sized s ∷ number_checks q

abbrev pub with_question : State → ℕ → State
with_question s q =
    record {
      sheet = s.sheet;
      transitions = s.transitions;
      standing = s.standing;
      support = s.support;
      question = question_of q;
    }

abbrev pub question_told : State → ℕ → Result State NetFault
question_told s q = judged (question_table s q) (with_question s q)

abbrev pub cleared : State → Result State NetFault
cleared s = judged (sheet_checks s) empty

-- A started draft: a sheet of the right size is cleared, one of another size is left untouched.
abbrev pub started : List ℕ → State
started xs = cond (length xs == sheet_size) empty (bare xs)

-- The calls that fill a draft. A mark is a number of 32 bits; the other numbers may be of any size.
pub data Call : Type 0 where
  place : (m : ℕ) → m ≤ most_mark → ℕ → Call
  transition : Call
  arc_in : ℕ → ℕ → ℕ → Call
  arc_out : ℕ → ℕ → ℕ → Call
  question : ℕ → Call
  clear : Call

abbrev pub called : State → Call → Result State NetFault
called s (place m _ f) = place_added s m f
called s transition = transition_added s
called s (arc_in t p w) = arc_in_added s t p w
called s (arc_out t p w) = arc_out_added s t p w
called s (question q) = question_told s q
called s clear = cleared s

-- The state after a list of calls, refused ones included.
abbrev pub after_calls : State → List Call → State
after_calls s [] = s
after_calls s (c ∷ cs) = after_calls (left s (called s c)) cs

-- The state of a net as plain data: what a sheet and its bookkeeping stand for.
use Rattle.std.specs.Prelude.{◌≡◌, ℕ, Bool, false, List, [], length, replicate, Ok, Err, Result, ◌==◌, slice_index_or}
use Rattle.net.specs.declared.net.Net.{Net}
use Rattle.net.specs.declared.net.Question.{Question}
use Rattle.net.specs.declared.net.Question.TheVariants.{Reach, Standstill, Both}
use Rattle.net.specs.Sheets.{sheet_size, most_places, mark_at, take_at, put_at, Row, rows_in, sheet_of}

-- The sheet, the number of transitions, which places stand, which are in the support, and the question.
pub record State : Type 0 where
  pub sheet : List ℕ
  pub transitions : ℕ
  pub standing : List Bool
  pub support : List Bool
  pub question : Question

abbrev pub view : Net → State
view n =
    record {
      sheet = n.sheet.now;
      transitions = n.shape.transitions;
      standing = n.shape.standing;
      support = n.shape.support;
      question = n.shape.question;
    }

-- A sheet of another size holds no net.
abbrev pub sized : State → Bool
sized s = length s.sheet == sheet_size

abbrev pub stands : State → ℕ → Bool
stands s p = slice_index_or s.standing p false

abbrev pub in_support : State → ℕ → Bool
in_support s p = slice_index_or s.support p false

-- The start mark of a place, what a transition takes from it and puts there, and the rows.
abbrev pub mark : State → ℕ → ℕ
mark s p = mark_at s.sheet p

abbrev pub take : State → ℕ → ℕ → ℕ
take s t p = take_at s.sheet t p

abbrev pub put : State → ℕ → ℕ → ℕ
put s t p = put_at s.sheet t p

abbrev pub rows : State → List Row
rows s = rows_in s.sheet s.transitions

-- No place: 64 flags that are all false.
abbrev pub nowhere : List Bool
nowhere = replicate most_places false

-- The number of a question, and the question of a number; 0 is kept as 1.
abbrev pub question_number : Question → ℕ
question_number Reach = 1
question_number Standstill = 2
question_number Both = 3

-- The state over a sheet that holds no place, no transition and no question told.
abbrev pub bare : List ℕ → State
bare xs = record { sheet = xs; transitions = 0; standing = nowhere; support = nowhere; question = Reach }

-- The empty net: a sheet of zeros.
abbrev pub empty : State
empty = bare (sheet_of (λ _. 0) [])

-- What a call answers, and the state that it leaves: at a refusal, the one before.
abbrev pub said : {F : Type 0} → Result State F → Result Unit F
said (Ok s) = Ok tt
said (Err e) = Err e

abbrev pub left : {F : Type 0} → State → Result State F → State
left before (Ok s) = s
left before (Err e) = before

-- The call answers and leaves what the definition gives.
pub record Answered {F : Type 0} (r : Result Unit F) (after before : State) (d : Result State F) : Type 0 where
  pub answer : r ≡ said d
  pub state : after ≡ left before d

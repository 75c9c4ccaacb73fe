-- The meaning of a net stream: from a list of bytes to a net and the bytes used, or a fault.
use Rattle.std.specs.Prelude.{◌≡◌, ℕ, zero, suc, ◌+◌, ◌*◌, true, cond, List, [], ◌∷◌, length, drop, is_some, Some, None, Ok, Err, Option, Result, ◌==◌, nat_le, nat_lt, slice_index}
use Rattle.net.specs.declared.net.Layer.TheVariants as layer
use Rattle.net.specs.declared.net.NetFault.{NetFault}
use Rattle.net.specs.declared.net.NetFault.TheVariants.{WrongSize}
use Rattle.net.specs.Refusals.{Check, ◌unless◌, judged}
use Rattle.net.specs.States.{State, sized, empty}
use Rattle.net.specs.Drafts.{place_added, transition_added, arc_in_added, arc_out_added, question_told}
use Rattle.stream.specs.declared.command.Command.{Command}
use Rattle.stream.specs.declared.command.Command.TheVariants.{Place, Transition, ArcIn, ArcOut, End}
use Rattle.stream.specs.declared.command.Opcode.{Opcode}
use Rattle.stream.specs.declared.command.Opcode.TheVariants as kind
use Rattle.stream.specs.declared.faults.Cause.{Cause}
use Rattle.stream.specs.declared.faults.Cause.TheVariants.{Short, Unknown, Net}
use Rattle.stream.specs.declared.faults.ReadFault.{ReadFault}
use Rattle.stream.specs.Faults.{fault}

-- Numbers of one, two and four bytes, the most significant first.
abbrev pub one : List ℕ → ℕ → ℕ
one bs i = slice_index bs i

abbrev pub two : List ℕ → ℕ → ℕ
two bs i = 256 * one bs i + one bs (i + 1)

abbrev pub four : List ℕ → ℕ → ℕ
four bs i = 65536 * two bs i + two bs (i + 2)

-- The kind of a command, by its first byte.
abbrev pub opcode : ℕ → Result Opcode Cause
opcode b =
    cond (b == 0x10) (Ok kind.Place)
    (cond (b == 0x11) (Ok kind.Transition)
    (cond (b == 0x12) (Ok kind.ArcIn) (cond (b == 0x13) (Ok kind.ArcOut) (cond (b == 0x1f) (Ok kind.End) (Err Unknown)))))

-- The command of a kind at the front of the bytes, if they hold a whole one.
abbrev pub if_whole : ℕ → List ℕ → Command → Option Command
if_whole width bs c = cond (nat_lt width (length bs)) (Some c) None

abbrev pub parsed : Opcode → List ℕ → Option Command
parsed kind.Place bs = if_whole 5 bs (Place (four bs 1) (one bs 5))
parsed kind.Transition bs = if_whole 0 bs Transition
parsed kind.ArcIn bs = if_whole 4 bs (ArcIn (one bs 1) (one bs 2) (two bs 3))
parsed kind.ArcOut bs = if_whole 4 bs (ArcOut (one bs 1) (one bs 2) (two bs 3))
parsed kind.End bs = if_whole 1 bs (End (one bs 1))

-- How many operand bytes follow the first byte of a command.
abbrev pub operands : ℕ → Option ℕ
operands b =
    cond (b == 0x10) (Some 5)
    (cond (b == 0x11) (Some 0) (cond (b == 0x12) (Some 4) (cond (b == 0x13) (Some 4) (cond (b == 0x1f) (Some 1) None))))

abbrev pub width_or : Option ℕ → ℕ
width_or (Some w) = w
width_or None = 0

-- The command at the front of the bytes, if they hold a whole one.
abbrev pub command : List ℕ → Command
command bs =
    cond (one bs 0 == 0x10) (Place (four bs 1) (one bs 5))
    (cond (one bs 0 == 0x11) Transition
    (cond (one bs 0 == 0x12) (ArcIn (one bs 1) (one bs 2) (two bs 3))
    (cond (one bs 0 == 0x13) (ArcOut (one bs 1) (one bs 2) (two bs 3)) (End (one bs 1)))))

abbrev pub command_table : List ℕ → List (Check Cause)
command_table bs =
    Short unless nat_lt 0 (length bs)
    ∷ Unknown unless is_some (operands (one bs 0))
    ∷ Short unless nat_le (width_or (operands (one bs 0)) + 1) (length bs)
    ∷ []

abbrev pub decoded : List ℕ → Result Command Cause
decoded bs = judged (command_table bs) (command bs)

-- The bytes of a command.
abbrev pub size : Command → ℕ
size (Place m f) = 6
size Transition = 1
size (ArcIn t p w) = 5
size (ArcOut t p w) = 5
size (End q) = 2

-- What a command does to the draft.
abbrev pub applied : State → Command → Result State NetFault
applied s (Place m f) = place_added s m f
applied s Transition = transition_added s
applied s (ArcIn t p w) = arc_in_added s t p w
applied s (ArcOut t p w) = arc_out_added s t p w
applied s (End q) = question_told s q

-- One command at the front of the bytes, which start at `byte` after `count` commands.
pub record Step : Type 0 where
  pub state : State
  pub command : Command

abbrev pub with_state : Command → ℕ → ℕ → Result State NetFault → Result Step ReadFault
with_state c byte count (Ok t) = Ok (record { state = t; command = c })
with_state c byte count (Err e) = Err (fault (Net e) layer.Net byte count)

abbrev pub with_command : State → ℕ → ℕ → Result Command Cause → Result Step ReadFault
with_command s byte count (Ok c) = with_state c byte count (applied s c)
with_command s byte count (Err e) = Err (fault e layer.Reader byte count)

abbrev pub stepped : State → List ℕ → ℕ → ℕ → Result Step ReadFault
stepped s bs byte count = with_command s byte count (decoded bs)

-- What one command answers, and the state that it leaves.
abbrev pub command_or_fault : Result Step ReadFault → Result Command ReadFault
command_or_fault (Ok x) = Ok x.command
command_or_fault (Err e) = Err e

abbrev pub state_or : State → Result Step ReadFault → State
state_or s (Ok x) = x.state
state_or s (Err e) = s

pub record Stepped (r : Result Command ReadFault) (after before : State) (d : Result Step ReadFault) : Type 0 where
  pub answer : r ≡ command_or_fault d
  pub state : after ≡ state_or before d

-- A reading: the net with its support and question, and the bytes used.
pub record Reading : Type 0 where
  pub state : State
  pub used : ℕ

-- After a command: the end command ends the reading, else it goes on behind the command.
abbrev pub goes_on : (State → List ℕ → ℕ → ℕ → Result Reading ReadFault) → List ℕ → ℕ → ℕ → State → Command → Result Reading ReadFault
goes_on rest bs byte count t (Place m f) = rest t (drop 6 bs) (byte + 6) (count + 1)
goes_on rest bs byte count t Transition = rest t (drop 1 bs) (byte + 1) (count + 1)
goes_on rest bs byte count t (ArcIn u p w) = rest t (drop 5 bs) (byte + 5) (count + 1)
goes_on rest bs byte count t (ArcOut u p w) = rest t (drop 5 bs) (byte + 5) (count + 1)
goes_on rest bs byte count t (End q) = Ok (record { state = t; used = byte + 2 })

abbrev pub after_step : (State → List ℕ → ℕ → ℕ → Result Reading ReadFault) → List ℕ → ℕ → ℕ → Result Step ReadFault → Result Reading ReadFault
after_step rest bs byte count (Ok x) = goes_on rest bs byte count x.state x.command
after_step rest bs byte count (Err e) = Err e

-- Commands in a row, no more than there are bytes.
abbrev pub read_on : ℕ → State → List ℕ → ℕ → ℕ → Result Reading ReadFault
read_on zero s bs byte count = Err (fault Short layer.Reader byte count)
read_on (suc fuel) s bs byte count = after_step (read_on fuel) bs byte count (stepped s bs byte count)

-- The meaning of the bytes: reading starts from the empty net.
abbrev pub reading : List ℕ → Result Reading ReadFault
reading bs = read_on (length bs) empty bs 0 0

-- Reading into a draft: a sheet of wrong size is refused before any byte is looked at.
abbrev pub reading_into : State → List ℕ → Result Reading ReadFault
reading_into s bs = cond (sized s) (reading bs) (Err (fault (Net WrongSize) layer.Net 0 0))

-- What a reading answers, and the draft that it leaves: empty after a refusal, untouched where it has no net.
abbrev pub used_or_fault : Result Reading ReadFault → Result ℕ ReadFault
used_or_fault (Ok r) = Ok r.used
used_or_fault (Err e) = Err e

abbrev pub left_or_empty : State → Result Reading ReadFault → State
left_or_empty s (Ok r) = r.state
left_or_empty s (Err e) = cond (sized s) empty s

-- Filling a draft from its state on: what it answers, and the state that it leaves; after a fault, some state of the size.
abbrev pub Ends : State → Result Reading ReadFault → Type 0
Ends t (Ok r) = t ≡ r.state
Ends t (Err e) = sized t ≡ true

pub record Filled (r : Result ℕ ReadFault) (after : State) (d : Result Reading ReadFault) : Type 0 where
  pub answer : r ≡ used_or_fault d
  pub state : Ends after d

pub record Read (r : Result ℕ ReadFault) (after before : State) (bs : List ℕ) : Type 0 where
  pub answer : r ≡ used_or_fault (reading_into before bs)
  pub state : after ≡ left_or_empty before (reading_into before bs)

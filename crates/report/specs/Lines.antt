-- The lines that the program prints for its input.
use Rattle.std.specs.Prelude.{ℕ, ◌+◌, cond, List, [], ◌∷◌, ◌++◌, length, drop, Ok, Err, Result, Some, None, Option, ◌==◌, nat_lt}
use Rattle.std.specs.List.{range_with_len, filter_map, flat_map}
use Rattle.net.specs.declared.net.Look.{Look}
use Rattle.net.specs.declared.net.Look.TheVariants as look
use Rattle.net.specs.declared.net.NetFault.{NetFault}
use Rattle.net.specs.declared.net.Side.{Side}
use Rattle.net.specs.declared.net.Side.TheVariants.{Takes, Puts}
use Rattle.net.specs.States.{State}
use Rattle.net.specs.Looks.{looked}
use Rattle.stream.specs.declared.faults.ReadFault.{ReadFault}
use Rattle.stream.specs.Faults.{read_told}
use Rattle.stream.specs.Streams.{Reading, reading}
use Rattle.house.specs.House.{HouseFault, house_number, house_width, taken_by_house}
use Rattle.session.specs.declared.faults.SessionFault.{SessionFault}
use Rattle.session.specs.Faults.{session_told}
use Rattle.session.specs.Feeds.{Meaning, meaning, End, fed}
use Rattle.report.specs.declared.line.Line.{Line}
use Rattle.report.specs.declared.line.Line.TheVariants.{Long, Net, Taken, Refused, Place, Take, Put}

-- The most bytes that the program reads.
abbrev pub most_input : ℕ
most_input = 32768

-- A standing place has a line: its number and its mark.
abbrev pub shown_place : ℕ → Result ℕ NetFault → Option Line
shown_place p (Ok m) = Some (Place p m)
shown_place p (Err e) = None

abbrev pub place_lines : State → List Line
place_lines s = filter_map (λ p. shown_place p (looked s (look.Mark p))) (range_with_len 0 64)

-- An arc has a line: its transition, its place and its weight.
abbrev pub side_look : Side → ℕ → ℕ → Look
side_look Takes t p = look.Take t p
side_look Puts t p = look.Put t p

abbrev pub side_line : Side → ℕ → ℕ → ℕ → Line
side_line Takes t p w = Take t p w
side_line Puts t p w = Put t p w

abbrev pub shown_arc : Side → ℕ → ℕ → Result ℕ NetFault → Option Line
shown_arc k t p (Ok w) = cond (w == 0) None (Some (side_line k t p w))
shown_arc k t p (Err e) = None

abbrev pub side_lines : State → Side → ℕ → List Line
side_lines s k t = filter_map (λ p. shown_arc k t p (looked s (side_look k t p))) (range_with_len 0 64)

-- For each transition its takes by place, then its puts by place.
abbrev pub transition_lines : State → ℕ → List Line
transition_lines s t = side_lines s Takes t ++ side_lines s Puts t

abbrev pub arc_lines : State → List Line
arc_lines s = flat_map (transition_lines s) (range_with_len 0 s.transitions)

abbrev pub net_lines : State → List Line
net_lines s = place_lines s ++ arc_lines s

-- The steps behind the net: how many were taken and, where one was refused, its number and the byte of the input where it starts.
abbrev pub step_lines : ℕ → Result ℕ (SessionFault HouseFault) → List Line
step_lines used (Ok n) = Taken n ∷ []
step_lines used (Err f) = Taken f.origin.at.count ∷ Refused (session_told house_number f).number (used + f.origin.at.byte) ∷ []

-- Then the net that stands.
abbrev pub end_lines : ℕ → End HouseFault → List Line
end_lines used e = step_lines used e.said ++ net_lines e.state

-- The bytes behind the net stream are fed to a session with the house book.
abbrev pub house : Meaning HouseFault
house = meaning house_width taken_by_house

-- A refused net has one line: the number of the refusal, and the byte where the refused command starts.
abbrev pub fault_line : ReadFault → Line
fault_line f = Net (read_told f).number (read_told f).origin.at.byte

abbrev pub reading_lines : Result Reading ReadFault → List ℕ → List Line
reading_lines (Ok r) bs = end_lines r.used (fed house r.state (drop r.used bs))
reading_lines (Err f) bs = fault_line f ∷ []

-- The lines for an input.
abbrev pub reported : List ℕ → List Line
reported bs = cond (nat_lt most_input (length bs)) (Long ∷ []) (reading_lines (reading bs) bs)

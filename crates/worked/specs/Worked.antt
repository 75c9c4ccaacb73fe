-- Worked nets: inputs, a net stream and a step behind it, with the lines that are printed for them.
use Rattle.std.specs.Prelude.{ℕ, ◌≡◌, List, [], ◌∷◌, ◌++◌}
use Rattle.report.specs.declared.line.Line.{Line}
use Rattle.report.specs.declared.line.Line.TheVariants.{Taken, Refused, Place, Take, Put}
use Rattle.report.specs.Lines.{reported}

pub record Example : Type 0 where
  pub input : List ℕ
  pub lines : List Line

-- Each input is printed with its lines, by the definition of what is printed.
abbrev pub Hold : List Example → Type 0
Hold [] = Unit {0}
Hold (e ∷ es) = (reported e.input ≡ e.lines) × Hold es

-- The commands of the net stream, with weights of one byte.
abbrev pub place : ℕ → ℕ → List ℕ
place mark flag = 0x10 ∷ 0 ∷ 0 ∷ 0 ∷ mark ∷ flag ∷ []

abbrev pub transition : List ℕ
transition = 0x11 ∷ []

abbrev pub arc_in : ℕ → ℕ → ℕ → List ℕ
arc_in t p weight = 0x12 ∷ t ∷ p ∷ 0 ∷ weight ∷ []

abbrev pub arc_out : ℕ → ℕ → ℕ → List ℕ
arc_out t p weight = 0x13 ∷ t ∷ p ∷ 0 ∷ weight ∷ []

abbrev pub end : ℕ → List ℕ
end question = 0x1f ∷ question ∷ []

-- The relay net: transition 0 moves a token from place 0 to place 1, transition 1 from place 1 to place 2, which is in the support. It
-- has 42 bytes.
abbrev pub relay : ℕ → List ℕ
relay question =
    place 1 0 ++ (place 0 0 ++ (place 0 1 ++ (transition ++ (transition
    ++ (arc_in 0 0 1 ++ (arc_out 0 1 1 ++ (arc_in 1 1 1 ++ (arc_out 1 2 1 ++ end question))))))))

abbrev pub relay_lines : List Line
relay_lines = Place 0 1 ∷ Place 1 0 ∷ Place 2 0 ∷ Take 0 0 1 ∷ Put 0 1 1 ∷ Take 1 1 1 ∷ Put 1 2 1 ∷ []

-- Agglomeration at place 1 leaves one transition, from place 0 to place 2.
abbrev pub merged_lines : List Line
merged_lines = Taken 1 ∷ Place 0 1 ∷ Place 2 0 ∷ Take 0 0 1 ∷ Put 0 2 1 ∷ []

abbrev pub refused_at : ℕ → ℕ → List Line → List Line
refused_at byte number net = Taken 0 ∷ Refused number byte ∷ net

-- The splitting net: one token of place 0 becomes two on place 1. Transition 1 moves one token from there to place 2; and transition 2,
-- where there is one, to place 3. The question is reach, and there is no support.
abbrev pub split_with : List ℕ → List ℕ → List ℕ
split_with transitions arcs =
    place 1 0 ++ (place 0 0 ++ (place 0 0 ++ (place 0 0 ++ (transition ++ (transition ++ (transitions
    ++ (arc_in 0 0 1 ++ (arc_out 0 1 2 ++ (arc_in 1 1 1 ++ (arc_out 1 2 1 ++ (arcs ++ end 1)))))))))))

abbrev pub split : List ℕ
split = split_with transition (arc_in 2 1 1 ++ arc_out 2 3 1)

abbrev pub split_lines : List Line
split_lines =
    Place 0 1 ∷ Place 1 0 ∷ Place 2 0 ∷ Place 3 0 ∷ Take 0 0 1 ∷ Put 0 1 2 ∷ Take 1 1 1 ∷ Put 1 2 1 ∷ Take 2 1 1 ∷ Put 2 3 1 ∷ []

abbrev pub ◌shows◌ : List ℕ → List Line → Example
input shows lines = record { input = input; lines = lines }

infix 20 ◌shows◌
abbrev pub worked : List Example
worked =
    -- pre-agglomeration of the relay net at its middle place
    ((relay 1 ++ (0x2b ∷ 1 ∷ [])) shows merged_lines)
    -- post-agglomeration there: the consumer puts into the support
    ∷ ((relay 1 ++ (0x2a ∷ 1 ∷ [])) shows refused_at 42 17 relay_lines)
    -- free agglomeration there, for reach, and for standstill
    ∷ ((relay 1 ++ (0x2c ∷ 1 ∷ [])) shows merged_lines)
    ∷ ((relay 2 ++ (0x2c ∷ 1 ∷ [])) shows refused_at 42 13 relay_lines)
    -- transition 0 fired ahead once, twice, and not at all
    ∷ ((relay 1 ++ (0x2d ∷ 0 ∷ 0 ∷ 1 ∷ []))
    shows (Taken 1 ∷ Place 0 0 ∷ Place 1 1 ∷ Place 2 0 ∷ Take 0 0 1 ∷ Put 0 1 1 ∷ Take 1 1 1 ∷ Put 1 2 1 ∷ []))
    ∷ ((relay 1 ++ (0x2d ∷ 0 ∷ 0 ∷ 2 ∷ [])) shows refused_at 42 18 relay_lines)
    ∷ ((relay 1 ++ (0x2d ∷ 0 ∷ 0 ∷ 0 ∷ [])) shows refused_at 42 15 relay_lines)
    -- limited to places 0 and 1, without the support
    ∷ ((relay 1 ++ (0x29 ∷ 3 ∷ 0 ∷ 0 ∷ 0 ∷ 0 ∷ 0 ∷ 0 ∷ 0 ∷ [])) shows refused_at 42 16 relay_lines)
    -- post-agglomeration of the splitting net, with two consumers and with one
    ∷ ((split ++ (0x2a ∷ 1 ∷ [])) shows refused_at 59 17 split_lines)
    ∷ ((split_with [] [] ++ (0x2a ∷ 1 ∷ []))
    shows (Taken 1 ∷ Place 0 1 ∷ Place 2 0 ∷ Place 3 0 ∷ Take 0 0 1 ∷ Put 0 2 2 ∷ []))
    ∷ []

abbrev pub WorkedNets : Type 0
WorkedNets = Hold worked

-- How the bytes of a step are framed: a first byte that a book owns, and as many operand bytes as its width says.
use Rattle.std.specs.Prelude.{◌≡◌, ℕ, ◌+◌, ◌≤◌, true, List, [], ◌∷◌, ◌++◌, length, is_some, Some, None, Ok, Err, Option, Result, nat_le, nat_lt, slice_index}
use Rattle.net.specs.Refusals.{Check, ◌unless◌, judged}
use Rattle.net.specs.States.{State, sized}
use Rattle.books.specs.declared.faults.Misfit.{Misfit}
use Rattle.books.specs.declared.faults.Misfit.TheVariants.{Short, Unknown, Long}

-- What a book says of a first byte: the width of its operands, or nothing where the book does not own it.
abbrev pub Widths : Type 0
Widths = ℕ → Option ℕ

abbrev pub width_or : Option ℕ → ℕ
width_or (Some w) = w
width_or None = 0

-- The length of the step at the front of the bytes: the first is there, it is owned, and its operands are there.
abbrev pub step_length : Widths → List ℕ → ℕ
step_length width bs = width_or (width (slice_index bs 0)) + 1

abbrev pub front_table : Widths → List ℕ → List (Check Misfit)
front_table width bs =
    Short unless nat_lt 0 (length bs)
    ∷ Unknown unless is_some (width (slice_index bs 0))
    ∷ Short unless nat_le (step_length width bs) (length bs)
    ∷ []

abbrev pub front : Widths → List ℕ → Result ℕ Misfit
front width bs = judged (front_table width bs) (step_length width bs)

abbrev pub Within : {F : Type 0} → Result ℕ F → ℕ → Type 0
Within (Ok n) len = n ≤ len
Within (Err e) len = Unit {0}

-- The bytes are one whole step: beside that, nothing follows.
abbrev pub frame_table : Widths → List ℕ → List (Check Misfit)
frame_table width bs = front_table width bs ++ Long unless nat_le (length bs) (step_length width bs) ∷ []

abbrev pub framed : Widths → List ℕ → Result Unit Misfit
framed width bs = judged (frame_table width bs) tt

abbrev pub misfit_number : Misfit → ℕ
misfit_number Short = 2
misfit_number Unknown = 3
misfit_number Long = 4

-- The widths of a book are at most 16.
abbrev pub Narrow : Widths → Type 0
Narrow width = (b w : ℕ) → width b ≡ Some w → w ≤ 16

-- Bytes that are no whole step of the book's own are refused by it with the number of the misfit.
abbrev pub RefusesMisfits : {F : Type 0} → (F → ℕ) → Widths → (State → List ℕ → Result State F) → Type 0
RefusesMisfits {F} number width taken =
    (s : State) (bs : List ℕ) (e : Misfit) → sized s ≡ true → framed width bs ≡ Err e → (f : F) × (taken s bs ≡ Err f) × (number f ≡ misfit_number e)

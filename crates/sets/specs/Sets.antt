-- The second house book owns 28 and 29: steps that name a set of places.
use Rattle.std.specs.Prelude.{ℕ, Bool, ◌&&◌, nat_lt, List, Result}
use Rattle.net.specs.declared.net.Side.{Side}
use Rattle.net.specs.States.{State}
use Rattle.checks.specs.Alone.{weight}
use Rattle.theory.specs.Tests.{some_place}
use Rattle.theory.specs.declared.refusal.Refusal.{Refusal}
use Rattle.books.specs.declared.faults.BookFault.{BookFault}
use Rattle.books.specs.Frames.{Widths}
use Rattle.books.specs.House.{owned_width, step_of, book_taken}

-- The width of the operands.
abbrev pub set_width : Widths
set_width b = owned_width 0x28 0x29 b

-- Does transition `t` touch the set on this side: does it take from it, or put into it?
abbrev pub touches? : Side → State → (ℕ → Bool) → ℕ → Bool
touches? d s z t = some_place (λ p. z p && nat_lt 0 (weight d s t p))

-- What the book gives.
abbrev pub set_taken : State → List ℕ → Result State (BookFault Refusal 0x28)
set_taken s bs = book_taken set_width step_of s bs

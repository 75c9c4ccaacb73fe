-- The first house book owns 20 to 27: steps that drop one transition, keep one, or remove one place.
use Rattle.std.specs.Prelude.{ℕ, List, Result}
use Rattle.net.specs.States.{State}
use Rattle.theory.specs.declared.refusal.Refusal.{Refusal}
use Rattle.books.specs.declared.faults.BookFault.{BookFault}
use Rattle.books.specs.Frames.{Widths}
use Rattle.books.specs.House.{owned_width, step_of, book_taken}

-- The width of the operands.
abbrev pub basic_width : Widths
basic_width b = owned_width 0x20 0x27 b

-- What the book gives.
abbrev pub basic_taken : State → List ℕ → Result State (BookFault Refusal 0x20)
basic_taken s bs = book_taken basic_width step_of s bs

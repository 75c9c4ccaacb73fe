-- The fourth house book owns 2D and 2E: tokens are moved by firings ahead of time, or by fusing two places.
use Rattle.std.specs.Prelude.{ℕ, Bool, not, ◌&&◌, List, Result, ◌==◌, nat_eq, nat_lt}
use Rattle.net.specs.States.{State, in_support, take, put}
use Rattle.theory.specs.declared.refusal.Refusal.{Refusal}
use Rattle.theory.specs.Tests.{◌⇒◌, every_place, every_transition}
use Rattle.books.specs.declared.faults.BookFault.{BookFault}
use Rattle.books.specs.Frames.{Widths}
use Rattle.books.specs.House.{owned_width, step_of, book_taken}

-- The width of the operands.
abbrev pub move_width : Widths
move_width b = owned_width 0x2d 0x2e b

-- What the book gives.
abbrev pub move_taken : State → List ℕ → Result State (BookFault Refusal 0x2d)
move_taken s bs = book_taken move_width step_of s bs

-- The last parts of the test of arcs of 2D, of any place `p` in place of the source: `t` puts nothing into `p` and nothing into the support, and
-- `p` is outside the support; before that, `t` takes from no other place, and no other transition takes from `p`.
abbrev pub hidden_at : State → ℕ → ℕ → Bool
hidden_at s t p = put s t p == 0 && (every_place (λ q. in_support s q ⇒ nat_eq (put s t q) 0) && not (in_support s p))

abbrev pub only_at : State → ℕ → ℕ → Bool
only_at s t p =
    every_place (λ q. not (q == p) ⇒ nat_eq (take s t q) 0) && (every_transition s (λ u. nat_lt 0 (take s u p) ⇒ nat_eq u t) && hidden_at s t p)

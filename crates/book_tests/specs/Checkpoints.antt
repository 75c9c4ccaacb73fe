-- A customer's book with one step, 80 p k: place p has at least k tokens at the start. It changes nothing.
use Rattle.std.specs.Prelude.{ℕ, cond, List, [], ◌∷◌, Some, None, Result, ◌==◌, nat_le}
use Rattle.net.specs.Refusals.{Check, ◌unless◌, judged}
use Rattle.net.specs.States.{State, stands, mark}
use Rattle.net.specs.Looks.{measured}
use Rattle.books.specs.declared.faults.BookFault.{BookFault}
use Rattle.books.specs.Faults.{from_net, from_bytes, from_step}
use Rattle.books.specs.Frames.{Widths, framed}
use Rattle.books.specs.House.{one, two, after, with_fault}
use Rattle.book_tests.specs.declared.checkpoint.CheckpointRefusal.{CheckpointRefusal}
use Rattle.book_tests.specs.declared.checkpoint.CheckpointRefusal.TheVariants.{Gone, Low}

abbrev pub checkpoint_width : Widths
checkpoint_width b = cond (b == 0x80) (Some 3) None

abbrev pub checkpoint_number : CheckpointRefusal → ℕ
checkpoint_number Gone = 100
checkpoint_number Low = 101

abbrev pub checkpoint_table : State → ℕ → ℕ → List (Check CheckpointRefusal)
checkpoint_table s p k = Gone unless stands s p ∷ Low unless nat_le k (mark s p) ∷ []

abbrev pub checkpoint_taken : State → List ℕ → Result State (BookFault CheckpointRefusal 0x80)
checkpoint_taken s bs =
    after from_net (measured s.sheet)
    (after from_bytes (framed checkpoint_width bs) (with_fault from_step (judged (checkpoint_table s (one bs 1) (two bs 2)) s)))

-- The faults of the books.
use Rattle.std.specs.Prelude.{ℕ}
use Rattle.net.specs.declared.net.NetFault.{NetFault}
use Rattle.net.specs.Refusals.{net_number}
use Rattle.books.specs.declared.faults.Misfit.{Misfit}
use Rattle.books.specs.declared.faults.BookFault.{BookFault}
use Rattle.books.specs.declared.faults.BookFault.TheVariants.{Net, Bytes, Step}
use Rattle.books.specs.Frames.{misfit_number}

-- The number of a book's fault, by the numbers of its refusals.
abbrev pub book_number : {R : Type 0} {first : ℕ} → (R → ℕ) → BookFault R first → ℕ
book_number number (Net e) = net_number e
book_number number (Bytes e) = misfit_number e
book_number number (Step e) = number e

abbrev pub from_net : {R : Type 0} {first : ℕ} → NetFault → BookFault R first
from_net e = Net e

abbrev pub from_bytes : {R : Type 0} {first : ℕ} → Misfit → BookFault R first
from_bytes e = Bytes e

abbrev pub from_step : {R : Type 0} {first : ℕ} → R → BookFault R first
from_step e = Step e

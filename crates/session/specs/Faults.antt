-- What a refusal of the session holds and tells.
use Rattle.std.specs.Prelude.{ℕ, Ok, Err, Result}
use Rattle.net.specs.declared.net.Layer.{Layer}
use Rattle.net.specs.declared.net.Layer.TheVariants as layers
use Rattle.net.specs.declared.net.NetFault.{NetFault}
use Rattle.net.specs.declared.net.Placed.{Placed}
use Rattle.net.specs.declared.net.Position.{Position}
use Rattle.net.specs.declared.net.Told.{Told}
use Rattle.net.specs.Refusals.{net_number, origin_at}
use Rattle.books.specs.declared.faults.Misfit.{Misfit}
use Rattle.books.specs.Frames.{misfit_number}
use Rattle.session.specs.declared.faults.BookRefusal.{BookRefusal}
use Rattle.session.specs.declared.faults.Cause.{Cause}
use Rattle.session.specs.declared.faults.Cause.TheVariants as causes
use Rattle.session.specs.declared.faults.SessionFault.{SessionFault}

abbrev pub refused : {F : Type 0} → Cause F → Layer → ℕ → ℕ → SessionFault F
refused c l b n = record { cause = c; origin = origin_at l b n }

-- The net refuses, the bytes do not fit, the book refuses.
abbrev pub net_refuses : {F : Type 0} → NetFault → ℕ → ℕ → SessionFault F
net_refuses e b n = refused (causes.Net e) layers.Net b n

abbrev pub bytes_misfit : {F : Type 0} → Misfit → ℕ → ℕ → SessionFault F
bytes_misfit e b n = refused (causes.Bytes e) layers.Session b n

abbrev pub book_refuses : {F : Type 0} → F → ℕ → ℕ → SessionFault F
book_refuses e b n = refused (causes.Book e) layers.Book b n

-- No book refuses.
abbrev pub IsBookless : {F : Type 0} → Cause F → Type 0
IsBookless (causes.Net e) = Unit {0}
IsBookless (causes.Bytes e) = Unit {0}
IsBookless (causes.Book e) = ⊥

-- Lower faults with where they arose.
abbrev pub from_net : {F : Type 0} → Placed NetFault → SessionFault F
from_net p = record { cause = causes.Net p.fault; origin = p.origin }

abbrev pub from_bytes : {F : Type 0} → Placed Misfit → SessionFault F
from_bytes p = record { cause = causes.Bytes p.fault; origin = p.origin }

abbrev pub from_book : {F : Type 0} → BookRefusal F → SessionFault F
from_book p = book_refuses p.fault p.at.byte p.at.count

abbrev pub with_place : {X F : Type 0} → Result X F → Position → Result X (BookRefusal F)
with_place (Ok x) at = Ok x
with_place (Err f) at = Err (record { fault = f; at = at })

-- The number of a refusal, and all that it tells.
abbrev pub cause_number : {F : Type 0} → (F → ℕ) → Cause F → ℕ
cause_number number (causes.Net e) = net_number e
cause_number number (causes.Bytes e) = misfit_number e
cause_number number (causes.Book e) = number e

abbrev pub session_told : {F : Type 0} → (F → ℕ) → SessionFault F → Told
session_told number e = record { number = cause_number number e.cause; origin = e.origin }

-- What a refusal of the reader tells.
use Rattle.std.specs.Prelude.{ℕ}
use Rattle.net.specs.declared.net.Layer.{Layer}
use Rattle.net.specs.declared.net.NetFault.{NetFault}
use Rattle.net.specs.declared.net.Placed.{Placed}
use Rattle.net.specs.declared.net.Told.{Told}
use Rattle.net.specs.Refusals.{net_number, origin_at}
use Rattle.stream.specs.declared.faults.Cause.{Cause}
use Rattle.stream.specs.declared.faults.Cause.TheVariants.{Short, Unknown, Net}
use Rattle.stream.specs.declared.faults.ReadFault.{ReadFault}

abbrev pub fault : Cause → Layer → ℕ → ℕ → ReadFault
fault c l b n = record { cause = c; origin = origin_at l b n }

-- The reader's fault holds the net's whole, with its origin.
abbrev pub from_net : Placed NetFault → ReadFault
from_net p = record { cause = Net p.fault; origin = p.origin }

abbrev pub cause_number : Cause → ℕ
cause_number Short = 2
cause_number Unknown = 3
cause_number (Net e) = net_number e

abbrev pub read_told : ReadFault → Told
read_told f = record { number = cause_number f.cause; origin = f.origin }

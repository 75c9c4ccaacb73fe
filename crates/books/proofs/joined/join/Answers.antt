use Rattle.std.proofs.Common.{refl}
use Rattle.books.specs.Joining.{silent_in_front}
use Rattle.books.proofs.joined.join.Goals as goal

pub returns : goal.returns
returns g c = record { joined = (refl, refl); silent = silent_in_front g.P.Book.width_of g.Q.Book.width_of g.P.Book.taken g.Q.Book.taken }

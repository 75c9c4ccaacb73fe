-- The empty net's sheet has the size.
use Rattle.std.proofs.Common.{◌≡◌, true, [], length}
use Rattle.std.proofs.lemmas.Bool.{eq-eqb}
use Rattle.net.specs.Sheets.{cell}
use Rattle.net.specs.States.{sized, empty}
use Rattle.net.proofs.Writes.{length_by}

pub empty_sized : sized empty ≡ true
empty_sized = eq-eqb (length empty.sheet) 12352 (length_by (cell (λ _. 0) []))

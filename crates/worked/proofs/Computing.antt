-- Worked nets by computing.
use mathlib.Core.Path.{refl}
use Rattle.net.specs.Sheets.{sheet_by}
use Rattle.theory.specs.Tests.{every, some, lowest}
use Rattle.theory.specs.Rewrites.{flags_by}
use Rattle.worked.specs.Worked.{WorkedNets}

pub worked_nets : WorkedNets
unfolding sheet_by every some lowest flags_by
worked_nets = (refl, (refl, (refl, (refl, (refl, (refl, (refl, (refl, (refl, (refl, tt))))))))))

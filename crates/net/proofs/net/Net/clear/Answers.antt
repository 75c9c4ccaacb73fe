use Rattle.net.proofs.Tidying.{wiped_tidy}
use Rattle.net.proofs.net.Net.clear.Goals as goal

pub invariant_of-self-2 : goal.invariant_of-self-2
invariant_of-self-2 c = record { tidy = wiped_tidy c.wipe.new.sheet 0 c.wipe.ensures }

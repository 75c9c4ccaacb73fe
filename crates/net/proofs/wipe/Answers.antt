use Rattle.std.proofs.Common.{rules, arith}
use Rattle.net.proofs.Wiping.{wiped}
use Rattle.net.proofs.wipe.Goals as goal

pub returns : goal.returns
returns c = wiped _ c.args.sheet.now _ (omega arith) c.requires.size.0 (search rules) c.requires.unused

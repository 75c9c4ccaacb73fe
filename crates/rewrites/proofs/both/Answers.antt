use Rattle.std.proofs.Common.{rules, false, ◌&&◌, get_or}
use Rattle.checks.proofs.Made.{made}
use Rattle.rewrites.proofs.both.Goals as goal

pub returns-clause-flags : goal.returns-clause-flags
returns-clause-flags c = λ p h.
    made (λ q. get_or c.args.standing.now q false && get_or c.args.stays.now q false) (λ j y q e. search rules) c.from_fn.result 64
    c.from_fn.ensures.items p false h

pub returns-clause-long : goal.returns-clause-long
returns-clause-long c = c.from_fn.ensures.items.long

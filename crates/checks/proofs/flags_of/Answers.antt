use Rattle.std.proofs.Common.{rules, false}
use Rattle.theory.specs.Tests.{member}
use Rattle.checks.proofs.Made.{made}
use Rattle.checks.proofs.flags_of.Goals as goal

pub returns : goal.returns
returns c = λ p h.
    made (member c.args.set.now) (λ j y q e. search rules) c.from_fn.result 64 c.from_fn.ensures.items p false h

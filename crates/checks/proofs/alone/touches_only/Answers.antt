use Rattle.std.proofs.Common.{rules, ◌≡◌, ◌==◌, Ok, not, nat_eq, ap, ◌∙◌}
use Rattle.net.specs.Looks.{measured}
use Rattle.theory.specs.Tests.{◌⇒◌}
use Rattle.checks.proofs.Asking.{every_same}
use Rattle.checks.proofs.Within.{size}
use Rattle.checks.proofs.alone.touches_only.Goals as goal

pub returns-then-is_ok : goal.returns-then-is_ok
returns-then-is_ok c =
    let e : Ok tt ≡ measured c.args.net.now.sheet.now = search rules in
    c.holds_only.ensures ∙ every_same _ _ 64 (λ q. ap (λ w. not (q == c.args.p) ⇒ nat_eq w 0) (c.weights_of.ensures.sized (size c.args.net.now e) q))

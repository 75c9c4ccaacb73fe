use Rattle.std.proofs.Common.{rules, ◌≡◌, false, Ok, nat_eq, sym, ap, ◌∙◌, arith}
use Rattle.std.specs.Prelude.{slice_index}
use Rattle.net.specs.Looks.{measured}
use Rattle.checks.specs.Alone.{flagged}
use Rattle.theory.specs.Tests.{◌⇒◌, every}
use Rattle.checks.proofs.Asking.{every_same, front_fails}
use Rattle.checks.proofs.Within.{size}
use Rattle.checks.proofs.alone.spares.Goals as goal

pub returns-then-holds_none : goal.returns-then-holds_none
returns-then-holds_none c =
    let e : Ok tt ≡ measured c.args.net.now.sheet.now = search rules in
    c.holds_none-then-holds_none.ensures ∙ ap (λ n. every n (λ q. flagged c.args.flags.now q ⇒ nat_eq (slice_index c.weights_of-row.result.now q) 0)) c.places.ensures.1
    ∙ every_same _ _ 64 (λ q. ap (λ w. flagged c.args.flags.now q ⇒ nat_eq w 0) (c.weights_of-row.ensures.sized (size c.args.net.now e) q))

pub returns-else-holds_none : goal.returns-else-holds_none
returns-else-holds_none c =
    let e : Ok tt ≡ measured c.args.net.now.sheet.now = search rules in
    let no : false ≡ c.holds_none.result = sym c.if-holds_none.false in
    c.if-holds_none.false
    ∙ front_fails (λ q. flagged c.args.flags.now q ⇒ nat_eq (slice_index c.weights_of-row.result.now q) 0) 4 64 (omega arith) (no ∙ c.holds_none.ensures)
    ∙ every_same _ _ 64 (λ q. ap (λ w. flagged c.args.flags.now q ⇒ nat_eq w 0) (c.weights_of-row.ensures.sized (size c.args.net.now e) q))

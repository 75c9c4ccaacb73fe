use Rattle.std.proofs.Common.{◌≡◌, ℕ, Bool, ◌&&◌, ◌==◌, ◌*◌, sym, ap, ◌∙◌}
use Rattle.net.specs.States.{State, view, take, put}
use Rattle.theory.specs.Tests.{every_place, multiple?}
use Rattle.checks.proofs.Both.{every_both}
use Rattle.basics.proofs.conditions.is_multiple.Goals as goal

both_sides : (s : State) (t u k : ℕ) (b : Bool) → every_place (λ p. take s t p == (k * take s u p)) ≡ b
    → (b && every_place (λ p. put s t p == (k * put s u p))) ≡ multiple? s t u k
both_sides s t u k b e =
    ap (λ c. c && every_place (λ p. put s t p == (k * put s u p))) (sym e)
    ∙ sym (every_both 64 (λ p. take s t p == (k * take s u p)) (λ p. put s t p == (k * put s u p)))

pub returns-then-are_times : goal.returns-then-are_times
returns-then-are_times c =
    c.are_times-then-are_times.ensures ∙ both_sides (view c.args.net.now) c.args.t c.args.u c.args.k _ (sym c.are_times.ensures ∙ c.if-are_times.true)

pub returns-else-are_times : goal.returns-else-are_times
returns-else-are_times c =
    c.if-are_times.false ∙ both_sides (view c.args.net.now) c.args.t c.args.u c.args.k _ (sym c.are_times.ensures ∙ c.if-are_times.false)

-- The lines of the steps and of the net that stands, one after another.
use Rattle.std.proofs.Common.{◌≡◌, ℕ, List, ◌++◌, Result, ap, ◌∙◌}
use Rattle.std.proofs.lemmas.List.{append_assoc}
use Rattle.net.specs.States.{State}
use Rattle.house.specs.House.{HouseFault}
use Rattle.session.specs.declared.faults.SessionFault.{SessionFault}
use Rattle.session.specs.Feeds.{End}
use Rattle.report.specs.declared.line.Line.{Line}
use Rattle.report.specs.Lines.{place_lines, arc_lines, step_lines, end_lines}

pub all_lines : (b c d : List Line) (used : ℕ) (said : Result ℕ (SessionFault HouseFault)) (n o : State) (E : End HouseFault)
    → b ≡ step_lines used said → c ≡ b ++ place_lines n → d ≡ c ++ arc_lines o
    → said ≡ E.said → n ≡ E.state → o ≡ E.state → d ≡ end_lines used E
all_lines b c d used said n o E steps places arcs e f g =
    arcs ∙ ap (λ (l : List Line). l ++ arc_lines o) places ∙ ap (λ (l : List Line). (l ++ place_lines n) ++ arc_lines o) steps
    ∙ append_assoc (step_lines used said) (place_lines n) (arc_lines o)
    ∙ ap (λ (r : Result ℕ (SessionFault HouseFault)). step_lines used r ++ (place_lines n ++ arc_lines o)) e
    ∙ ap (λ (s : State). step_lines used E.said ++ (place_lines s ++ arc_lines o)) f
    ∙ ap (λ (s : State). step_lines used E.said ++ (place_lines E.state ++ arc_lines s)) g

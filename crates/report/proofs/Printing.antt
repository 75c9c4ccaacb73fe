-- The text of lines, one after another.
use Rattle.std.proofs.Common.{◌≡◌, ℕ, ◌+◌, ◌<◌, List, [], ◌++◌, length, get_or, take, sym, ap, ◌∙◌}
use Rattle.std.proofs.lemmas.List.{take_more, flat_map_more}
use Rattle.report.specs.declared.line.Line.{Line}
use Rattle.report.specs.Texts.{ended_line, printed}

pub printed_more : (ls : List Line) (i : ℕ) (d : Line) (out out₁ : List ℕ) → i < length ls → out ≡ printed (take i ls) → out₁ ≡ out ++ ended_line (get_or ls i d)
    → out₁ ≡ printed (take (i + 1) ls)
printed_more ls i d out out₁ h a b =
    b ∙ ap (λ (l : List ℕ). l ++ ended_line (get_or ls i d)) a ∙ flat_map_more ended_line [] (take i ls) (get_or ls i d) ∙ ap printed (sym (take_more ls i d h))

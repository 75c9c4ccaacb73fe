-- What a call answers and leaves whose questions have passed.
use Rattle.std.proofs.Common.{◌≡◌, ℕ, Bool, List, [], ◌∷◌, length, Ok, Result, sym, ap, ◌∙◌}
use Rattle.std.proofs.lemmas.Bool.{eqb-true}
use Rattle.net.specs.declared.net.NetFault.{NetFault}
use Rattle.net.specs.declared.net.NetFault.TheVariants.{WrongSize}
use Rattle.net.specs.Looks.{measured}
use Rattle.net.specs.Refusals.{Check, ◌unless◌, judged}
use Rattle.net.specs.Sheets.{Row, sheet_of}
use Rattle.net.specs.States.{State, sized, said, left, Answered}
use Rattle.net.proofs.Tables.{passed, passing}
use Rattle.theory.specs.Rewrites.{rewritten}

pub size : (s : State) → measured s.sheet ≡ Ok tt → length s.sheet ≡ 12352
size s h = eqb-true (length s.sheet) 12352 (passed (WrongSize unless sized s ∷ []) tt tt h).0.0

pub answered : (s : State) (cs : List (Check NetFault)) → ◌≡◌ {A = Result Unit NetFault} (judged cs tt) (Ok tt) → (t next : State) → t ≡ next → Answered (Ok tt) t s (judged cs next)
answered s cs h t next e = record { answer = ap said (sym right); state = e ∙ ap (left s) (sym right) }
  where
    right : judged cs next ≡ Ok next
    right = passing cs next (passed cs tt tt h).0

-- A state by its sheet and the number of its rows.
pub rewritten_is : (s : State) (ys : List ℕ) (k : ℕ) (marks : ℕ → ℕ) (rs : List Row) (standing flags : List Bool) → ys ≡ sheet_of marks rs → k ≡ length rs
    → flags ≡ standing
    → record { sheet = ys; transitions = k; standing = flags; support = s.support; question = s.question } ≡ rewritten s marks rs standing
rewritten_is s ys k marks rs standing flags e f g =
    λ i. record { sheet = e i; transitions = f i; standing = g i; support = s.support; question = s.question }

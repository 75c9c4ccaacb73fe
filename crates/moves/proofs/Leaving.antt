-- Calls that ask a sheet's size alone: on a sheet of the right size they leave their state.
use Rattle.std.proofs.Common.{◌≡◌, [], ◌∷◌, Bool, true, cond, length, Ok, Err, Result, sym, ap, ◌∙◌}
use Rattle.std.proofs.lemmas.Bool.{eq-eqb}
use Rattle.net.specs.declared.net.NetFault.{NetFault}
use Rattle.net.specs.declared.net.NetFault.TheVariants.{WrongSize}
use Rattle.net.specs.Looks.{measured, sheet_checks}
use Rattle.net.specs.Refusals.{◌unless◌, judged}
use Rattle.net.specs.States.{State, said, left, Answered, sized}
use Rattle.net.proofs.Tables.{passed, passing}

pub asked_size : (s : State) → measured s.sheet ≡ Ok tt → sized s ≡ true
asked_size s h = (passed (WrongSize unless sized s ∷ []) tt tt h).0.0

pub size_asked : (s next t : State) (r : Result Unit NetFault) → sized s ≡ true → (r ≡ Ok tt) × (t ≡ next) → Answered r t s (judged (sheet_checks s) next)
size_asked s next t r e d =
    record {
      answer = d.0 ∙ ap (λ (b : Bool). said (cond {A = Result State NetFault} b (Ok next) (Err WrongSize))) (sym e);
      state = d.1 ∙ ap (λ (b : Bool). left s (cond {A = Result State NetFault} b (Ok next) (Err WrongSize))) (sym e);
    }

module _ (s : State) (size : length s.sheet ≡ 12352) where
  pub sheet_right : measured s.sheet ≡ Ok tt
  sheet_right = passing (sheet_checks s) tt (eq-eqb (length s.sheet) 12352 size, tt)

  pub left_next : (r : Result Unit NetFault) (t next : State) → Answered r t s (judged (sheet_checks s) next) → t ≡ next
  left_next r t next a = a.state ∙ ap (left s) (passing (sheet_checks s) next (eq-eqb (length s.sheet) 12352 size, tt))

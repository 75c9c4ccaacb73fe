-- What becomes of a net's rows is what its definition says.
use Rattle.std.proofs.Common.{◌≡◌, ℕ, ◌≤◌, Bool, not, eqb, List, length, Ok, sym, refl, ap, ◌∙◌, subst}
use Rattle.std.proofs.lemmas.List.{length-map}
use Rattle.std.proofs.lemmas.List.FromFn.{length-range_with_len}
use Rattle.net.specs.Looks.{measured, sheet_checks}
use Rattle.net.specs.Refusals.{judged}
use Rattle.net.specs.Sheets.{row_at}
use Rattle.net.specs.States.{State, mark, Answered}
use Rattle.net.specs.Tidy.{Tidy}
use Rattle.theory.specs.Rewrites.{kept_rows, keeping, dropping}
use Rattle.theory.specs.Tests.{those}
use Rattle.rewrites.specs.Rows.{Kept}
use Rattle.rewrites.proofs.Closing.{kept_all_rows, kept_tidy, kept_all}
use Rattle.rewrites.proofs.Sized.{size, answered, rewritten_is}
use Rattle.rewrites.proofs.Those.{those_all}

module _ (s : State) (asked : measured s.sheet ≡ Ok tt) (tidy : Tidy s.sheet s.transitions) (keep : ℕ → Bool) (ys : List ℕ)
    (p : Kept s.sheet ys (those keep s.transitions) s.transitions) where
  pub rows_tidy : (m : ℕ) → length (those keep s.transitions) ≤ m → Tidy ys m
  rows_tidy m few = λ e. kept_tidy s.sheet ys (those keep s.transitions) s.transitions p (tidy (size s asked)) m few

  pub rows_kept : (k : ℕ) → k ≡ length (those keep s.transitions) → length ys ≡ 12352
      → Answered (Ok tt) (record { sheet = ys; transitions = k; standing = s.standing; support = s.support; question = s.question }) s
      (judged (sheet_checks s) (keeping keep s))
  rows_kept k count whole =
      answered s (sheet_checks s) asked _ (keeping keep s)
      (rewritten_is s ys k (mark s) (kept_rows keep s) s.standing s.standing
      (kept_all s.sheet ys (those keep s.transitions) s.transitions p (tidy (size s asked)) whole)
      (count ∙ sym (length-map (those keep s.transitions) (row_at s.sheet))) refl)

-- Where the transition does not stand, none is dropped.
pub none_dropped : (s : State) → measured s.sheet ≡ Ok tt → Tidy s.sheet s.transitions → (t : ℕ) → s.transitions ≤ t
    → Answered (Ok tt) s s (judged (sheet_checks s) (dropping t s))
none_dropped s asked tidy t g =
    rows_kept s asked tidy (λ v. not (eqb v t)) s.sheet
    (subst (λ l. Kept s.sheet s.sheet l s.transitions) (sym (those_all t s.transitions g)) (kept_all_rows s.sheet s.transitions)) s.transitions
    (sym (length-range_with_len 0 s.transitions) ∙ ap length (sym (those_all t s.transitions g))) (size s asked)

-- A net is limited to a set of places: transitions are dropped, then places go.
use Rattle.std.proofs.Common.{◌≡◌, ℕ, ◌≤◌, Bool, true, false, cond, not, ◌&&◌, List, map, Ok, Err, Result, sym, refl, subst, ap, ◌∙◌}
use Rattle.std.proofs.lemmas.Bool.{eq-eqb}
use Rattle.net.specs.declared.net.NetFault.{NetFault}
use Rattle.net.specs.declared.net.NetFault.TheVariants.{WrongSize}
use Rattle.net.specs.Looks.{sheet_checks}
use Rattle.net.specs.Refusals.{judged}
use Rattle.net.specs.Sheets.{Row, cell}
use Rattle.net.specs.States.{State, sized, stands, mark, rows, said, left, Answered}
use Rattle.net.proofs.Tables.{ok_not_err}
use Rattle.net.proofs.Writes.{length_by}
use Rattle.rewrites.proofs.Keeping.{done}
use Rattle.theory.specs.Nexts.{inside}
use Rattle.theory.specs.Rewrites.{rewritten, in_row, flags_by, kept_rows, keeping, limiting}
use Rattle.theory.specs.Tests.{takes_from?, outside}
use Rattle.rewrites.specs.Rows.{limited_to}
use Rattle.rewrites.proofs.Reading.{kept_marks, kept_back}

sized_kept : (keep : ℕ → Bool) (s : State) → sized (keeping keep s) ≡ true
sized_kept keep s = eq-eqb _ 12352 (length_by (cell (mark s) (kept_rows keep s)))

limited_kept : (z : ℕ → Bool) (s : State) → s.transitions ≤ 96
    → limited_to z (keeping (λ t. not (takes_from? s (outside z) t)) s) ≡ limiting z s
limited_kept z s few =
    ap (λ (m : ℕ → ℕ). rewritten s (inside z m) (map (in_row z) (rows (keeping stays s))) flags) (kept_marks stays s few)
    ∙ ap (λ (rs : List Row). rewritten s (inside z (mark s)) (map (in_row z) rs) flags) (kept_back stays s few)
  where
    stays : ℕ → Bool
    stays t = not (takes_from? s (outside z) t)

    flags : List Bool
    flags = flags_by (λ p. stands s p && z p)

-- Both rewrites, one after the other: the first lets the second be refused by nothing.
right : (s t : State) → sized s ≡ true → judged (sheet_checks s) t ≡ Ok t
right s t e = ap (λ (b : Bool). cond {A = Result State NetFault} b (Ok t) (Err WrongSize)) e

sized_of : (q : Result Unit NetFault) (mid s t : State) → Answered q mid s (judged (sheet_checks s) t) → q ≡ Ok tt → sized s ≡ true
sized_of q mid s t a h = go (sized s) refl
  where
    go : (b : Bool) → sized s ≡ b → sized s ≡ true
    go true e = e
    go false e = absurd (ok_not_err (sym (a.answer ∙ ap (λ (b : Bool). said (cond {A = Result State NetFault} b (Ok t) (Err WrongSize))) e) ∙ h))

module _ (z : ℕ → Bool) (s mid end : State) (few : s.transitions ≤ 96) (q r : Result Unit NetFault)
    (a : Answered q mid s (judged (sheet_checks s) (keeping (λ t. not (takes_from? s (outside z) t)) s))) (h : q ≡ Ok tt) where
  abbrev kept : State
  kept = keeping (λ t. not (takes_from? s (outside z) t)) s

  size : sized s ≡ true
  size = sized_of q mid s kept a h

  pub limited_twice : Answered r end mid (judged (sheet_checks mid) (limited_to z mid)) → Answered r end s (judged (sheet_checks s) (limiting z s))
  limited_twice b =
      record {
        answer = k.answer ∙ ap said (right kept (limited_to z kept) (sized_kept _ s)) ∙ sym (ap said (right s (limiting z s) size));
        state =
            k.state ∙ ap (left kept) (right kept (limited_to z kept) (sized_kept _ s)) ∙ limited_kept z s few
            ∙ sym (ap (left s) (right s (limiting z s) size));
      }
    where
      k : Answered r end kept (judged (sheet_checks kept) (limited_to z kept))
      k = subst (λ (t : State). Answered r end t (judged (sheet_checks t) (limited_to z t))) (done q mid s kept size a) b

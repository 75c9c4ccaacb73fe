-- Rows that stay, and others behind them, of states alone.
use Rattle.std.proofs.Common.{◌≡◌, ℕ, ◌+◌, ◌≤◌, Bool, true, false, cond, Ok, Err, Result, refl, List, map, length, set, sym, ap, ◌∙◌, subst, arith}
use Rattle.std.proofs.lemmas.Bool.{eq-eqb, le-leb}
use Rattle.net.specs.Sheets.{Row, cell}
use Rattle.net.specs.declared.net.NetFault.{NetFault}
use Rattle.net.specs.declared.net.NetFault.TheVariants.{WrongSize}
use Rattle.net.specs.Looks.{sheet_checks}
use Rattle.net.specs.Refusals.{judged}
use Rattle.net.specs.States.{State, sized, mark, Answered}
use Rattle.net.proofs.Tables.{ok_not_err}
use Rattle.net.proofs.Writes.{length_by}
use Rattle.theory.specs.Rewrites.{kept_rows, keeping}
use Rattle.rewrites.specs.Rows.{append_checks, Extended}
use Rattle.products.specs.Products.{numbers, apart?, replacing}
use Rattle.products.proofs.Appending.{appended_count, appended_all}

-- A state with other flags of places.
abbrev pub flagged : State → List Bool → State
flagged u standing =
    record { sheet = u.sheet; transitions = u.transitions; standing = standing; support = u.support; question = u.question }

-- A rewrite that refuses only a sheet of wrong size, and has not refused.
pub kept : (s t next : State) (r : Result Unit NetFault) → r ≡ Ok tt → Answered r t s (judged (sheet_checks s) next) → (sized s ≡ true) × (t ≡ next)
kept s t next r e a = go (sized s) refl a
  where
    go : (b : Bool) → sized s ≡ b → Answered r t s (cond {A = Result State NetFault} b (Ok next) (Err WrongSize)) → (sized s ≡ true) × (t ≡ next)
    go true h a = (h, a.state)
    go false h a = absurd (ok_not_err (sym a.answer ∙ e))

-- What is asked of a sheet's size alone, and passes.
pub answered : (s t next : State) → sized s ≡ true → t ≡ next → Answered (Ok tt) t s (judged (sheet_checks s) next)
answered s t next z e =
    subst (λ (b : Bool). Answered (Ok tt) t s (cond {A = Result State NetFault} b (Ok next) (Err WrongSize))) (sym z) (record { answer = refl; state = e })

-- The rows that stay are closed up in `t`, and there is room for those of `bs`.
module _ (p : ℕ) (s : State) (bs : List (List ℕ)) (fits : length (kept_rows (apart? s p) s) + length bs ≤ 96) where
  pub kept_room : (t : State) → t ≡ keeping (apart? s p) s → (length t.sheet ≡ 12352) × (t.transitions + length bs ≤ 96)
  kept_room t e =
      (ap (λ (u : State). length u.sheet) e ∙ length_by (cell (mark s) (kept_rows (apart? s p) s)), omega (arith, ap (λ (u : State). u.transitions) e))

  -- So they are appended.
  pub room_passes : (t : State) → t ≡ keeping (apart? s p) s → ◌≡◌ {A = Result Unit NetFault} (judged (append_checks t (length bs)) tt) (Ok tt)
  room_passes t e =
      let room = kept_room t e in rw (eq-eqb (length t.sheet) 12352 room.0, le-leb (t.transitions + length bs) 96 room.1)

  pub replaced : (t u : State) (standing : List Bool) → t ≡ keeping (apart? s p) s → Extended u t bs → standing ≡ set u.standing p false
      → (qs : List Row) → bs ≡ map numbers qs → flagged u standing ≡ replacing qs p s
  replaced t u standing e x b qs f = at (subst (λ (v : State). Extended u v bs) e x)
    where
      rs : List Row
      rs = kept_rows (apart? s p) s

      at : Extended u (keeping (apart? s p) s) bs → flagged u standing ≡ replacing qs p s
      at y =
          let whole = y.size ∙ length_by (cell (mark s) rs) in
          let sheet = appended_all (mark s) rs qs bs u.sheet fits f y.sheet whole in
          let count = y.transitions ∙ appended_count (mark s) rs qs bs u.sheet fits f y.sheet whole in
          let flags = b ∙ ap (λ l. set l p false) y.standing in
          λ i. record { sheet = sheet i; transitions = count i; standing = flags i; support = y.support i; question = y.question i }

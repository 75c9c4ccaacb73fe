-- Marks and rows read back from the sheet that they make.
use Rattle.std.proofs.Common.{◌≡◌, ℕ, ◌+◌, ◌*◌, ◌<◌, ◌≤◌, Bool, ◌⊎◌, List, length, get_or, sym, ap, ◌∙◌, inl, inr, arith}
use mathlib.Core.Path.{fun_ext}
use Rattle.std.proofs.lemmas.Bool.{cases_lt}
use Rattle.std.proofs.lemmas.List.{length-map, get_or-map}
use Rattle.std.proofs.lemmas.List.FromFn.{fill_by_all}
use Rattle.net.specs.Sheets.{Row, no_row, row_at, rows_in, part, mark_at, sheet_of}
use Rattle.net.specs.States.{State, mark, rows}
use Rattle.theory.specs.Tests.{those}
use Rattle.theory.specs.Rewrites.{kept_rows, keeping}
use Rattle.theory.proofs.Listed.{start_in, takes_in, puts_in}
use Rattle.theory.proofs.Meaning.{part_past}
use Rattle.theory.proofs.Rewriting.{length_kept}

-- Two functions of places are the same if they are so at the 64 places and 0 past them.
by_places : (f g : ℕ → ℕ) → ((p : ℕ) → p < 64 → f p ≡ g p) → ((p : ℕ) → 64 ≤ p → f p ≡ 0) → ((p : ℕ) → 64 ≤ p → g p ≡ 0) → f ≡ g
by_places f g same a b = fun_ext (λ p. go p (cases_lt p 64))
  where
    go : (p : ℕ) → (p < 64) ⊎ (64 ≤ p) → f p ≡ g p
    go p (inl l) = same p l
    go p (inr h) = a p h ∙ sym (b p h)

row_same : (r s : Row) → r.takes ≡ s.takes → r.puts ≡ s.puts → r ≡ s
row_same r s e f = λ i. record { takes = e i; puts = f i }

module _ (marks : ℕ → ℕ) (rs : List Row) (fits : length rs ≤ 96) where
  pub marks_back : ((p : ℕ) → 64 ≤ p → marks p ≡ 0) → mark_at (sheet_of marks rs) ≡ marks
  marks_back past = by_places (mark_at (sheet_of marks rs)) marks (λ p l. start_in marks rs fits p l) (λ p g. part_past (sheet_of marks rs) 0 p g) past

  pub rows_back : ((k p : ℕ) → k < length rs → 64 ≤ p → ((get_or rs k no_row).takes p ≡ 0) × ((get_or rs k no_row).puts p ≡ 0))
      → rows_in (sheet_of marks rs) (length rs) ≡ rs
  rows_back past = sym (fill_by_all (row_at (sheet_of marks rs)) rs (length rs) no_row (λ i. length rs) row)
    where
      row : (k : ℕ) → k < length rs → get_or rs k no_row ≡ row_at (sheet_of marks rs) k
      row k h =
          row_same (get_or rs k no_row) (row_at (sheet_of marks rs) k)
          (by_places (get_or rs k no_row).takes (part (sheet_of marks rs) (64 + 128 * k)) (λ p l. sym (takes_in marks rs fits k p l)) (λ p g. (past k p h g).0)
          (λ p g. part_past (sheet_of marks rs) (64 + 128 * k) p g))
          (by_places (get_or rs k no_row).puts (part (sheet_of marks rs) (128 + 128 * k)) (λ p l. sym (puts_in marks rs fits k p l)) (λ p g. (past k p h g).1)
          (λ p g. part_past (sheet_of marks rs) (128 + 128 * k) p g))

-- Where transitions are dropped, the marks and the rows that are kept can be read back.
module _ (keep : ℕ → Bool) (s : State) (few : s.transitions ≤ 96) where
  fits : length (kept_rows keep s) ≤ 96
  fits = omega (arith, length_kept keep s)

  pub kept_marks : mark (keeping keep s) ≡ mark s
  kept_marks = marks_back (mark s) (kept_rows keep s) fits (λ p g. part_past s.sheet 0 p g)

  pub kept_back : rows (keeping keep s) ≡ kept_rows keep s
  kept_back = rows_back (mark s) (kept_rows keep s) fits past
    where
      past : (k p : ℕ) → k < length (kept_rows keep s) → 64 ≤ p
          → ((get_or (kept_rows keep s) k no_row).takes p ≡ 0) × ((get_or (kept_rows keep s) k no_row).puts p ≡ 0)
      past k p h g =
          let e = get_or-map (row_at s.sheet) (those keep s.transitions) k 0 no_row
          (omega (arith, length-map (those keep s.transitions) (row_at s.sheet))) in (
            ap (λ (r : Row). r.takes p) e ∙ part_past s.sheet (64 + 128 * get_or (those keep s.transitions) k 0) p g,
            ap (λ (r : Row). r.puts p) e ∙ part_past s.sheet (128 + 128 * get_or (those keep s.transitions) k 0) p g,
          )

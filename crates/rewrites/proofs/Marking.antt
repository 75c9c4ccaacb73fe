-- A sheet with new marks in front of its rows.
use Rattle.std.proofs.Common.{◌≡◌, ℕ, ◌+◌, ◌*◌, ◌<◌, ◌≤◌, List, length, get_or, sym, ap, ◌∙◌, arith}
use Rattle.std.proofs.lemmas.List.FromFn.{length-map-range_with_len, get_or-map-range_with_len}
use Rattle.net.specs.Sheets.{Row, no_row, row_at, rows_in, number, sheet_of}
use Rattle.net.specs.Tidy.{Tidied}
use Rattle.theory.proofs.Listed.{sheet_from}
use Rattle.rewrites.proofs.Closing.{row_numbers}

pub length_rows_in : (xs : List ℕ) (n : ℕ) → length (rows_in xs n) ≡ n
length_rows_in xs n = length-map-range_with_len (row_at xs) 0 n

-- What has the marks in front, and all else as a tidy sheet, is the sheet of these marks and its rows.
module _ (n : ℕ) (xs ms ys : List ℕ) (tidied : Tidied xs n) (whole : length ys ≡ 12352)
    (front : (p : ℕ) → p < 64 → get_or ys p 0 ≡ get_or ms p 0) (same : (i : ℕ) → 64 ≤ i → get_or ys i 0 ≡ get_or xs i 0) where
  pub marked_tidy : Tidied ys n
  marked_tidy =
      record { unused = λ i h. same i (omega arith) ∙ tidied.unused i h; weights = λ i h. omega (arith, same i h, tidied.weights i h) }

  rowed : (t j : ℕ) → t < length (rows_in xs n) → j < 128 → get_or ys (64 + 128 * t + j) 0 ≡ number (get_or (rows_in xs n) t no_row) j
  rowed t j h b =
      same (64 + 128 * t + j) (omega arith) ∙ row_numbers xs t j b
      ∙ ap (λ (r : Row). number r j) (sym (get_or-map-range_with_len (row_at xs) 0 n t t no_row (omega (arith, length_rows_in xs n)) (omega arith)))

  pub marked_all : ys ≡ sheet_of (λ p. get_or ms p 0) (rows_in xs n)
  marked_all =
      sheet_from ys (λ p. get_or ms p 0) (rows_in xs n) whole front rowed
      (λ i h b. same i (omega arith) ∙ tidied.unused i (omega (arith, h, length_rows_in xs n)))

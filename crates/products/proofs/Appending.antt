-- Rows that are appended to those of a sheet, of lists alone.
use Rattle.std.proofs.Common.{◌≡◌, ℕ, ◌+◌, ◌-◌, ◌*◌, ◌<◌, ◌≤◌, ◌⊎◌, List, [], ◌++◌, map, length, get_or, sym, refl, ap, ◌∙◌, inl, inr, arith, length-append}
use Rattle.std.proofs.lemmas.Bool.{cases_lt, lt-ltb}
use Rattle.std.proofs.lemmas.List.{get_or_append_left, get_or-append_right, get_or-map, length-map}
use Rattle.std.proofs.lemmas.List.FromFn.{fill_by_all, get_or-map-range_with_len}
use Rattle.net.specs.Sheets.{Row, no_row, number, sheet_of}
use Rattle.theory.proofs.Listed.{cell_in, row_in, past_in, sheet_from}
use Rattle.rewrites.specs.Rows.{Appended}
use Rattle.products.specs.Products.{numbers}

-- A number of a row.
pub numbers_at : (r : Row) (j : ℕ) → j < 128 → get_or (numbers r) j 0 ≡ number r j
unfolding numbers
numbers_at r j h = get_or-map-range_with_len (number r) 0 128 j j 0 h (omega arith)

pub all_numbers : (r : Row) (xs : List ℕ) → length xs ≡ 128 → ((j : ℕ) → j < 128 → get_or xs j 0 ≡ number r j) → xs ≡ numbers r
unfolding numbers
all_numbers r xs h e = fill_by_all (number r) xs 128 0 h e

-- A made sheet with other rows behind its own is again a made sheet.
module _ (marks : ℕ → ℕ) (rs qs : List Row) (bs : List (List ℕ)) (ys : List ℕ) (fits : length rs + length bs ≤ 96) (filled : bs ≡ map numbers qs)
    (p : Appended (sheet_of marks rs) ys bs (length rs) (length bs)) (whole : length ys ≡ 12352) where
  few : length rs ≤ 96
  few = omega arith

  count : length bs ≡ length qs
  count = ap length filled ∙ length-map qs numbers

  pub appended_count : length rs + length bs ≡ length (rs ++ qs)
  appended_count = ap (λ n. length rs + n) count ∙ sym (length-append rs qs)

  marked : (q : ℕ) → q < 64 → get_or ys q 0 ≡ marks q
  marked q h = p.before q (omega arith) ∙ cell_in marks rs few q ∙ rw (lt-ltb q 64 h)

  row_of : (u j : ℕ) → u < length qs → j < 128 → get_or (get_or bs u []) j 0 ≡ number (get_or qs u no_row) j
  row_of u j h b =
      ap (λ l. get_or (get_or l u []) j 0) filled ∙ ap (λ l. get_or l j 0) (get_or-map numbers qs u no_row [] h) ∙ numbers_at (get_or qs u no_row) j b

  rowed : (t j : ℕ) → t < length (rs ++ qs) → j < 128 → get_or ys (64 + 128 * t + j) 0 ≡ number (get_or (rs ++ qs) t no_row) j
  rowed t j h b = go (cases_lt t (length rs))
    where
      go : (t < length rs) ⊎ (length rs ≤ t) → get_or ys (64 + 128 * t + j) 0 ≡ number (get_or (rs ++ qs) t no_row) j
      go (inl l) =
          p.before (64 + 128 * t + j) (omega arith) ∙ row_in marks rs few (64 + 128 * t + j) t j (omega arith) b
          ∙ ap (λ (r : Row). number r j) (sym (get_or_append_left rs qs no_row t l))
      go (inr g) =
          ap (λ i. get_or ys i 0) (omega arith) ∙ p.rows (t - length rs) j (omega (arith, appended_count)) b
          ∙ row_of (t - length rs) j (omega (arith, appended_count, count)) b
          ∙ ap (λ (r : Row). number r j) (sym (get_or-append_right rs qs (length rs) t no_row refl g))

  pub appended_all : ys ≡ sheet_of marks (rs ++ qs)
  appended_all =
      sheet_from ys marks (rs ++ qs) whole marked rowed
      (λ i h b. p.after i (omega (arith, appended_count)) ∙ past_in marks rs few i (omega (arith, appended_count)))

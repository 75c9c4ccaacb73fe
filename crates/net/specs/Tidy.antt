-- What holds of every net's sheet, whatever is done to it.
use Rattle.std.specs.Prelude.{◌≡◌, ℕ, ◌≤◌, List, length, slice_index}
use Rattle.net.specs.Sheets.{sheet_size, most_places, most_weight, takes_base}

-- On a sheet of the right size the numbers past the last row are 0, and weights are in their limit.
pub record Tidied (xs : List ℕ) (n : ℕ) : Type 0 where
  pub unused : (i : ℕ) → takes_base n ≤ i → slice_index xs i ≡ 0
  pub weights : (i : ℕ) → most_places ≤ i → slice_index xs i ≤ most_weight

abbrev pub Tidy : List ℕ → ℕ → Type 0
Tidy xs n = length xs ≡ sheet_size → Tidied xs n

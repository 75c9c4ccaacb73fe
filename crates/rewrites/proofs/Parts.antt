-- A sheet whose parts are all changed alike: 64 numbers of marks, then 64 of takes and 64 of puts for each transition.
use Rattle.std.proofs.Common.{◌≡◌, ℕ, ◌+◌, ◌-◌, ◌*◌, ◌<◌, ◌≤◌, ◌⊎◌, List, length, get_or, sym, ap, ◌∙◌, inl, inr, arith}
use Rattle.std.proofs.lemmas.Bool.{cases_lt, lt-ltb, le-ltb}
use Rattle.std.proofs.lemmas.List.{length-map, get_or-map}
use Rattle.std.proofs.lemmas.List.FromFn.{length-map-range_with_len, get_or-map-range_with_len}
use Rattle.net.specs.Sheets.{Row, no_row, row_at, rows_in, number, part, mark_at, sheet_of}
use Rattle.theory.proofs.Listed.{sheet_from}
use Rattle.rewrites.specs.Rows.{changed_row, changed_in}

module _ (F : (ℕ → ℕ) → ℕ → ℕ) (n : ℕ) (xs : List ℕ) where
  pub length_changed : length (changed_in F xs n) ≡ n
  length_changed = length-map (rows_in xs n) (changed_row F) ∙ length-map-range_with_len (row_at xs) 0 n

  row_changed : (t : ℕ) → t < n → get_or (changed_in F xs n) t no_row ≡ changed_row F (row_at xs t)
  row_changed t h =
      get_or-map (changed_row F) (rows_in xs n) t no_row no_row (omega (arith, length-map-range_with_len (row_at xs) 0 n))
      ∙ ap (changed_row F) (get_or-map-range_with_len (row_at xs) 0 n t t no_row h (omega arith))

  module _ (zs : List ℕ) (whole : length zs ≡ 12352)
      (parts : (k q : ℕ) → k < 1 + 2 * n → q < 64 → get_or zs (64 * k + q) 0 ≡ F (part xs (64 * k)) q)
      (after : (i : ℕ) → 64 + 128 * n ≤ i → i < 12352 → get_or zs i 0 ≡ 0) where
    marked : (q : ℕ) → q < 64 → get_or zs q 0 ≡ F (mark_at xs) q
    marked q h = ap (λ i. get_or zs i 0) (omega arith) ∙ parts 0 q (omega arith) h

    -- A part that begins at `b`.
    at : (i b k q : ℕ) → i ≡ 64 * k + q → b ≡ 64 * k → k < 1 + 2 * n → q < 64 → get_or zs i 0 ≡ F (part xs b) q
    at i b k q e d h l = ap (λ j. get_or zs j 0) e ∙ parts k q h l ∙ ap (λ j. F (part xs j) q) (sym d)

    numbered : (t j : ℕ) → t < n → j < 128 → (j < 64) ⊎ (64 ≤ j) → get_or zs (64 + 128 * t + j) 0 ≡ number (changed_row F (row_at xs t)) j
    numbered t j h b (inl l) = rw (lt-ltb j 64 l) (at (64 + 128 * t + j) (64 + 128 * t) (1 + 2 * t) j (omega arith) (omega arith) (omega arith) l)
    numbered t j h b (inr g) =
        rw (le-ltb j 64 g) (at (64 + 128 * t + j) (128 + 128 * t) (2 + 2 * t) (j - 64) (omega arith) (omega arith) (omega arith) (omega arith))

    rowed : (t j : ℕ) → t < length (changed_in F xs n) → j < 128 → get_or zs (64 + 128 * t + j) 0 ≡ number (get_or (changed_in F xs n) t no_row) j
    rowed t j h b =
        let l : t < n = omega (arith, length_changed) in
        numbered t j l b (cases_lt j 64) ∙ ap (λ (r : Row). number r j) (sym (row_changed t l))

    pub parts_all : zs ≡ sheet_of (F (mark_at xs)) (changed_in F xs n)
    parts_all = sheet_from zs (F (mark_at xs)) (changed_in F xs n) whole marked rowed (λ i h b. after i (omega (arith, length_changed)) b)

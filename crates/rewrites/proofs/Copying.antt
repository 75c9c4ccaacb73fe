-- A row that is copied between two parts of a sheet, of lists alone.
use Rattle.std.proofs.Common.{rules, ◌≡◌, ℕ, ◌+◌, ◌-◌, ◌<◌, ◌≤◌, ◌⊎◌, List, ◌++◌, length, take, drop, get_or, inl, inr, sym, ap, ◌∙◌, arith}
use Rattle.std.proofs.lemmas.Bool.{cases_lt}
use Rattle.std.proofs.lemmas.List.{places, get_or-take, get_or-drop, get_or_append_left, get_or-append_right, length-take-le, length-drop}
use borrow.Rule.Slice.PartMut.{put_mid}

-- The sheet is parted at `m`, and the first 128 numbers behind are written over those of the front from `a` on.
module _ (xs front back row : List ℕ) (m a k : ℕ) (first : front ≡ take m xs) (rest : back ≡ drop m xs) (same : row ≡ take 128 back) (count : k ≡ 128)
    (before : a + k ≤ m) (whole : m + k ≤ length xs) where
  long : length front ≡ m
  long = ap length first ∙ length-take-le m xs (omega arith)

  row_long : length row ≡ k
  row_long = ap length same ∙ length-take-le 128 back (omega (arith, ap length rest, length-drop m xs)) ∙ sym count

  put_long : length (put_mid a k front row) ≡ m
  put_long =
      let l : length front ≡ m = long in
      let r : length row ≡ k = row_long in
      search (rules, places)

  pub copied_row : (j to from : ℕ) → j < 128 → to ≡ a + j → from ≡ m + j → get_or (put_mid a k front row ++ back) to 0 ≡ get_or xs from 0
  copied_row j to from h e d =
      ap (λ i. get_or (put_mid a k front row ++ back) i 0) e ∙ get_or_append_left (put_mid a k front row) back 0 (a + j) (omega (arith, put_long)) ∙ at ∙ ap (λ l. get_or l j 0) same ∙ get_or-take 128 back j 0 h
      ∙ ap (λ l. get_or l j 0) rest ∙ get_or-drop m xs j 0 ∙ ap (λ i. get_or xs i 0) (sym d)
    where
      at : get_or (put_mid a k front row) (a + j) 0 ≡ get_or row j 0
      at =
          let l : length front ≡ m = long in
          let r : length row ≡ k = row_long in
          search (rules, places)

  pub copied_after : (i : ℕ) → a + k ≤ i → get_or (put_mid a k front row ++ back) i 0 ≡ get_or xs i 0
  copied_after i h = go (cases_lt i m)
    where
      go : (i < m) ⊎ (m ≤ i) → get_or (put_mid a k front row ++ back) i 0 ≡ get_or xs i 0
      go (inl l) =
          get_or_append_left (put_mid a k front row) back 0 i (omega (arith, put_long)) ∙ at ∙ ap (λ z. get_or z i 0) first ∙ get_or-take m xs i 0 l
        where
          at : get_or (put_mid a k front row) i 0 ≡ get_or front i 0
          at =
              let w : length front ≡ m = long in
              let r : length row ≡ k = row_long in
              search (rules, places)
      go (inr g) =
          get_or-append_right (put_mid a k front row) back m i 0 put_long g ∙ ap (λ z. get_or z (i - m) 0) rest ∙ get_or-drop m xs (i - m) 0
          ∙ ap (λ z. get_or xs z 0) (omega arith)

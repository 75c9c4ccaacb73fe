-- One write to a list, and a whole sheet by its numbers.
use Rattle.std.proofs.Common.{◌≡◌, ℕ, ◌-◌, ◌%◌, ◌<◌, ltb, ◌≢◌, ◌⊎◌, List, [], length, get_or, set, sym, refl, ◌∙◌, subst, inl, inr, arith, get_or-set_other, get_or-set_same}
use Rattle.std.proofs.lemmas.Bool.{cases_eq, cond_both}
use Rattle.std.proofs.lemmas.List.FromFn.{fill_by_all, length-map-range_with_len, get_or-map-range_with_len}
use Rattle.net.specs.Sheets.{sheet_by, sheet_of, cell, number, no_row}

-- What stands at `k` after a write at `i`.
pub after_set : (s : List ℕ) (i v k : ℕ) → i < length s → (P : ℕ → Type 0) → (k ≡ i → P v) → (k ≢ i → P (get_or s k 0)) → P (get_or (set s i v) k 0)
after_set s i v k h P same other = go (cases_eq k i)
  where
    go : (k ≡ i) ⊎ (k ≡ i → ⊥) → P (get_or (set s i v) k 0)
    go (inl e) = subst (λ z. P (get_or (set s i v) z 0)) (sym e) (rw get_or-set_same (same e))
    go (inr n) = rw get_or-set_other (other n)

pub made_by : (f : ℕ → ℕ) (ys : List ℕ) → length ys ≡ 12352 → ((i : ℕ) → i < 12352 → get_or ys i 0 ≡ f i) → ys ≡ sheet_by f
unfolding sheet_by
made_by f ys h e = fill_by_all f ys 12352 0 h e

-- Without marks and rows all is 0.
pub empty_cell : (i : ℕ) → cell (λ _. 0) [] i ≡ 0
empty_cell i =
    cond_both (ltb i 64) 0 (number no_row ((i - 64) % 128)) (λ z. z ≡ 0) (λ _. refl)
    (λ _. cond_both (ltb ((i - 64) % 128) 64) 0 0 (λ z. z ≡ 0) (λ _. refl) (λ _. refl))

pub all_zero : (ys : List ℕ) → length ys ≡ 12352 → ((i : ℕ) → i < 12352 → get_or ys i 0 ≡ 0) → ys ≡ sheet_of (λ _. 0) []
all_zero ys h e = made_by (cell (λ _. 0) []) ys h (λ i l. e i l ∙ sym (empty_cell i))

-- The numbers of a made sheet.
pub length_by : (f : ℕ → ℕ) → length (sheet_by f) ≡ 12352
unfolding sheet_by
length_by f = length-map-range_with_len f 0 12352

pub number_by : (f : ℕ → ℕ) (i : ℕ) → i < 12352 → get_or (sheet_by f) i 0 ≡ f i
unfolding sheet_by
number_by f i h = get_or-map-range_with_len f 0 12352 i i 0 h (omega arith)

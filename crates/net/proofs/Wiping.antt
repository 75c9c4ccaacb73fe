-- A sheet whose front is written over with 0, where all behind it is 0.
use Rattle.std.proofs.Common.{◌≡◌, ℕ, ◌<◌, ◌≤◌, ◌⊎◌, List, [], ◌++◌, length, drop, replicate, get_or, inl, inr, arith, rules}
use Rattle.std.proofs.lemmas.Bool.{cases_lt}
use Rattle.std.proofs.lemmas.List.{places, length-append, length-replicate, length-drop}
use Rattle.net.specs.Sheets.{sheet_of}
use Rattle.net.proofs.Writes.{all_zero}

pub wiped : (m : ℕ) (xs ys : List ℕ) → m ≤ 12352 → length xs ≡ 12352 → ys ≡ replicate m 0 → ((i : ℕ) → m ≤ i → get_or xs i 0 ≡ 0)
    → ys ++ drop m xs ≡ sheet_of (λ _. 0) []
wiped m xs ys few size e unused =
    let l = length-append (replicate m 0) (drop m xs) in
    let r = length-replicate {A = ℕ} m 0 in
    let d = length-drop m xs in
    all_zero (ys ++ drop m xs) (rw e (omega (arith, l, r, d, size, few))) at
  where
    at : (i : ℕ) → i < 12352 → get_or (ys ++ drop m xs) i 0 ≡ 0
    at i h = rw e (go (cases_lt i m))
      where
        go : (i < m) ⊎ (m ≤ i) → get_or (replicate m 0 ++ drop m xs) i 0 ≡ 0
        go (inl l) = search (rules, places, l)
        go (inr g) = search (rules, places, unused i g)

-- Parts of a sheet that are lent.
use Rattle.std.proofs.Common.{◌≡◌, ℕ, ◌+◌, ◌-◌, ◌<◌, ◌≤◌, List, ◌⊎◌, inl, inr, length, take, drop, replicate, get_or, ap, ◌∙◌, arith}
use Rattle.std.specs.Prelude.{slice_index}
use Rattle.std.proofs.lemmas.Bool.{cases_lt, lt-ltb, le-ltb, le-leb, lt-leb}
use Rattle.std.proofs.lemmas.List.{get_or-replicate, get_or_past, get_or-take, get_or-drop, length-replicate, length-take}
use Rattle.net.specs.Sheets.{part}
use Rattle.checks.specs.Rows.{whole}

zeros : (p : ℕ) → slice_index (replicate 64 0) p ≡ 0
zeros p = go (cases_lt p 64)
  where
    go : (p < 64) ⊎ (64 ≤ p) → slice_index (replicate 64 0) p ≡ 0
    go (inl l) = get_or-replicate 64 p 0 0 l
    go (inr g) = get_or_past (replicate 64 0) p 0 (omega (arith, length-replicate {A = ℕ} 64 0))

pub none_whole : (xs : List ℕ) (from p : ℕ) → length xs < from + 64 → slice_index (replicate 64 0) p ≡ whole xs from p
none_whole xs from p h = rw (lt-leb (from + 64) (length xs) h) (zeros p)

pub chunk_whole : (xs ys : List ℕ) (k from : ℕ) → from + 64 ≤ length xs → k ≡ length xs - from → ys ≡ take 64 (take k (drop from xs)) → (p : ℕ) → slice_index ys p ≡ whole xs from p
chunk_whole xs ys k from h rest same p = rw (le-leb (from + 64) (length xs) h) (go (cases_lt p 64))
  where
    go : (p < 64) ⊎ (64 ≤ p) → slice_index ys p ≡ part xs from p
    go (inl l) = rw (lt-ltb p 64 l) (ap (λ zs. get_or zs p 0) same ∙ get_or-take 64 (take k (drop from xs)) p 0 l ∙ get_or-take k (drop from xs) p 0 (omega arith) ∙ get_or-drop from xs p 0)
    go (inr g) = rw (le-ltb p 64 g) (get_or_past ys p 0 (omega (arith, ap length same, length-take 64 (take k (drop from xs)))))

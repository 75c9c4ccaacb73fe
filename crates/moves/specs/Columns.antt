-- The numbers of one place in the parts of a sheet: part 0 has the marks, parts 1 + 2 × t and 2 + 2 × t the takes and the puts of t.
use Rattle.std.specs.Prelude.{◌≡◌, ℕ, ◌+◌, ◌*◌, ◌<◌, ◌≤◌, ◌≢◌, List, slice_index}

-- The numbers of two places added up fit in the marks and the first `n` rows.
abbrev pub SumsFit : List ℕ → ℕ → ℕ → ℕ → Type 0
SumsFit xs n p q = (k : ℕ) → k < 1 + 2 * n → slice_index xs (64 * k + p) + slice_index xs (64 * k + q) ≤ 4294967295

-- In `ys` the numbers of `q` are added to those of `p` in the first `m` parts; all else is as in `xs`.
pub record Added (xs ys : List ℕ) (m p q : ℕ) : Type 0 where
  pub sums : (k : ℕ) → k < m → slice_index ys (64 * k + p) ≡ slice_index xs (64 * k + p) + slice_index xs (64 * k + q)
  pub later : (k : ℕ) → m ≤ k → slice_index ys (64 * k + p) ≡ slice_index xs (64 * k + p)
  pub others : (k r : ℕ) → r < 64 → r ≢ p → slice_index ys (64 * k + r) ≡ slice_index xs (64 * k + r)

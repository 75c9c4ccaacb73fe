-- The rows without some places, what closing rows up leaves and what clearing places leaves, and a net with rows behind its own.
use Rattle.std.specs.Prelude.{◌≡◌, ℕ, ◌+◌, ◌*◌, ◌<◌, ◌≤◌, Bool, if◌then◌else◌, ◌&&◌, List, [], ◌∷◌, map, length, nat_le, slice_index, slice_index_or}
use Rattle.net.specs.declared.net.NetFault.{NetFault}
use Rattle.net.specs.declared.net.NetFault.TheVariants.{WrongSize, TooManyTransitions}
use Rattle.net.specs.Refusals.{Check, ◌unless◌}
use Rattle.net.specs.Sheets.{Row, rows_in, most_transitions}
use Rattle.net.specs.States.{State, sized, stands, mark}
use Rattle.theory.specs.Nexts.{inside}
use Rattle.theory.specs.Rewrites.{rewritten, flags_by}

-- The first `n` rows of a sheet with their takes and their puts changed by `F`.
abbrev pub changed_row : ((ℕ → ℕ) → ℕ → ℕ) → Row → Row
changed_row F r = record { takes = F r.takes; puts = F r.puts }

abbrev pub changed_in : ((ℕ → ℕ) → ℕ → ℕ) → List ℕ → ℕ → List Row
changed_in F xs n = map (changed_row F) (rows_in xs n)

-- The places outside a set go; no transition is dropped.
abbrev pub limited_to : (ℕ → Bool) → State → State
limited_to z s = rewritten s (inside z (mark s)) (changed_in (inside z) s.sheet s.transitions) (flags_by (λ p. stands s p && z p))

-- The rows of `xs` with the numbers `l` stand first in `ys`; all else is as in `xs`.
pub record Closed (xs ys l : List ℕ) : Type 0 where
  pub marks : (i : ℕ) → i < 64 → slice_index ys i ≡ slice_index xs i
  pub rows : (u j : ℕ) → u < length l → j < 128 → slice_index ys (64 + 128 * u + j) ≡ slice_index xs (64 + 128 * slice_index l u + j)
  pub rest : (i : ℕ) → 64 + 128 * length l ≤ i → slice_index ys i ≡ slice_index xs i

-- The same, and the rows behind them are 0 as far as the first `n` rows reach.
pub record Kept (xs ys l : List ℕ) (n : ℕ) : Type 0 where
  pub marks : (i : ℕ) → i < 64 → slice_index ys i ≡ slice_index xs i
  pub rows : (u j : ℕ) → u < length l → j < 128 → slice_index ys (64 + 128 * u + j) ≡ slice_index xs (64 + 128 * slice_index l u + j)
  pub wiped : (i : ℕ) → 64 + 128 * length l ≤ i → i < 64 + 128 * n → slice_index ys i ≡ 0
  pub rest : (i : ℕ) → 64 + 128 * n ≤ i → slice_index ys i ≡ slice_index xs i

-- The first `m` parts of a sheet, of 64 numbers each, have 0 at the places of which `stays` is false; all else is as in `xs`.
pub record Limited (xs ys : List ℕ) (stays : ℕ → Bool) (m : ℕ) : Type 0 where
  pub parts : (k p : ℕ) → k < m → p < 64 → slice_index ys (64 * k + p) ≡ (if stays p then slice_index xs (64 * k + p) else 0)
  pub rest : (i : ℕ) → 64 * m ≤ i → slice_index ys i ≡ slice_index xs i

-- The first `k` of the rows `bs` stand in the sheet `ys` behind its first `n` rows; all else is as in `xs`.
pub record Appended (xs ys : List ℕ) (bs : List (List ℕ)) (n k : ℕ) : Type 0 where
  pub before : (i : ℕ) → i < 64 + 128 * n → slice_index ys i ≡ slice_index xs i
  pub rows : (u j : ℕ) → u < k → j < 128 → slice_index ys (64 + 128 * (n + u) + j) ≡ slice_index (slice_index_or bs u []) j
  pub after : (i : ℕ) → 64 + 128 * (n + k) ≤ i → slice_index ys i ≡ slice_index xs i

-- What is asked of a net before `k` rows are appended to its own.
abbrev pub append_checks : State → ℕ → List (Check NetFault)
append_checks s k = WrongSize unless sized s ∷ TooManyTransitions unless nat_le (s.transitions + k) most_transitions ∷ []

-- The net with the rows `bs` behind those that it had.
pub record Extended (after before : State) (bs : List (List ℕ)) : Type 0 where
  pub sheet : Appended before.sheet after.sheet bs before.transitions (length bs)
  pub size : length after.sheet ≡ length before.sheet
  pub transitions : after.transitions ≡ before.transitions + length bs
  pub standing : after.standing ≡ before.standing
  pub support : after.support ≡ before.support
  pub question : after.question ≡ before.question

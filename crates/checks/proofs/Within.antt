-- The weights of a net on a sheet of the right size are within their limit.
use Rattle.std.proofs.Common.{◌≡◌, ℕ, ◌+◌, ◌*◌, ◌<◌, ◌≤◌, true, Ok, length, sym, arith}
use Rattle.std.proofs.lemmas.Bool.{lt-ltb, le-leb, eqb-true}
use Rattle.net.specs.declared.net.Net.{Net}
use Rattle.net.specs.Looks.{measured, sheet_checks}
use Rattle.net.specs.Sheets.{part, most_weight}
use Rattle.net.specs.States.{view}
use Rattle.net.proofs.Tables.{passed}
use Rattle.theory.specs.Tests.{row_fits?, rows_fit?}
use Rattle.theory.proofs.Says.{every_from}

module _ (n : Net) (e : Ok tt ≡ measured n.sheet.now) where
  pub size : length n.sheet.now ≡ 12352
  size = eqb-true (length n.sheet.now) 12352 (passed (sheet_checks (view n)) tt tt (sym e)).0.0

  within : (i p : ℕ) → 64 ≤ i → p < 64 → part n.sheet.now i p ≤ most_weight
  within i p h l = rw (lt-ltb p 64 l) ((n.tidy size).weights (i + p) (omega arith))

  pub row_within : (t : ℕ) → row_fits? (view n) t ≡ true
  row_within t =
      every_from 64 _ (λ p l. rw (le-leb _ _ (within (64 + 128 * t) p (omega arith) l)) (le-leb _ _ (within (128 + 128 * t) p (omega arith) l)))

  pub rows_within : rows_fit? (view n) ≡ true
  rows_within = every_from n.shape.transitions _ (λ t l. row_within t)

use Rattle.std.proofs.Common.{ℕ, ◌+◌, ◌<◌, ◌≤◌, arith}
use Rattle.std.proofs.lemmas.Bool.{le-leb, lt-ltb}
use Rattle.net.specs.Sheets.{mark_at, most_mark}
use Rattle.theory.proofs.Says.{every_from}
use Rattle.merges.proofs.marks_fit.Goals as goal

pub returns : goal.returns
returns c = every_from 64 _ (λ p l. le-leb _ _ (below p l))
  where
    below : (p : ℕ) → p < 64 → mark_at c.args.sheet.now p ≤ most_mark
    below p l = rw (lt-ltb p 64 l) (omega (arith, c.type_inv.sheet (0 + p)))

use Rattle.std.proofs.Common.{rules, tests, refl, ◌+◌, List, ℕ, Bool, false, nat_eq}
use Rattle.std.specs.Prelude.{slice_index, slice_index_or}
use Rattle.theory.specs.Tests.{◌⇒◌}
use Rattle.checks.proofs.Asking.{every_none, every_more}
use Rattle.checks.proofs.alone.holds_none.Goals as goal

abbrev none_at : List ℕ → List Bool → ℕ → Bool
none_at row flags q = slice_index_or flags q false ⇒ nat_eq (slice_index row q) 0

pub loop-q-init : goal.loop-q-init
loop-q-init c = every_none (none_at c.args.row.now c.args.flags.now) 0 refl

pub loop-q-preserved : goal.loop-q-preserved
loop-q-preserved c =
    every_more (none_at c.args.row.now c.args.flags.now) c.loop-q.q (c.loop-q.q + 1) _ _ refl c.loop-q.invariant (search (rules, tests))

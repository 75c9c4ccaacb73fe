use Rattle.std.proofs.Common.{◌∙◌, false, get_or, sym, arith}
use Rattle.net.specs.States.{view}
use Rattle.rewrites.proofs.Kept.{rows_tidy, rows_kept}
use Rattle.rewrites.proofs.keep_transitions.Goals as goal

pub invariant_of-net-2 : goal.invariant_of-net-2
invariant_of-net-2 c =
    record {
      tidy =
          rows_tidy (view c.args.net.now) (sym c.check_size.ensures ∙ c.in_ok-check_size.was) c.args.net.now.tidy (λ t. get_or c.args.keep.now t false)
          c.keep_rows-net.new.sheet c.keep_rows-net.ensures.kept c.keep_rows-net.result (omega (arith, c.keep_rows-net.ensures.count));
    }

pub returns-clause-exact : goal.returns-clause-exact
returns-clause-exact c =
    rows_kept (view c.args.net.now) (sym c.check_size.ensures ∙ c.in_ok-check_size.was) c.args.net.now.tidy (λ t. get_or c.args.keep.now t false)
    c.keep_rows-net.new.sheet c.keep_rows-net.ensures.kept c.keep_rows-net.result c.keep_rows-net.ensures.count c.keep_rows-net.ensures.size

use Rattle.std.proofs.Common.{◌∙◌, eqb, sym, arith}
use Rattle.net.specs.States.{view}
use Rattle.rewrites.proofs.Kept.{rows_tidy, rows_kept}
use Rattle.rewrites.proofs.keep_only.Goals as goal

pub invariant_of-net-2 : goal.invariant_of-net-2
invariant_of-net-2 c =
    record {
      tidy =
          rows_tidy (view c.args.net.now) (sym c.check_size.ensures ∙ c.in_ok-check_size.was) c.args.net.now.tidy (λ v. eqb v c.args.t)
          c.keep_row-net.new.sheet c.keep_row-net.ensures.kept c.keep_row-net.result (omega (arith, c.keep_row-net.ensures.count));
    }

pub returns-clause-exact : goal.returns-clause-exact
returns-clause-exact c =
    rows_kept (view c.args.net.now) (sym c.check_size.ensures ∙ c.in_ok-check_size.was) c.args.net.now.tidy (λ v. eqb v c.args.t)
    c.keep_row-net.new.sheet c.keep_row-net.ensures.kept c.keep_row-net.result c.keep_row-net.ensures.count c.keep_row-net.ensures.size

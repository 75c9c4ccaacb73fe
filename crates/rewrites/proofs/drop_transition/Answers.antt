use Rattle.std.proofs.Common.{◌-◌, ◌∙◌, not, eqb, sym, arith}
use Rattle.net.specs.States.{view}
use Rattle.rewrites.proofs.Closing.{length_others}
use Rattle.rewrites.proofs.Kept.{rows_tidy, rows_kept, none_dropped}
use Rattle.rewrites.proofs.drop_transition.Goals as goal

pub invariant_of-net-then-t-n : goal.invariant_of-net-then-t-n
invariant_of-net-then-t-n c =
    let n = c.args.net.now.shape.transitions in
    record {
      tidy =
          rows_tidy (view c.args.net.now) (sym c.check_size.ensures ∙ c.in_ok-check_size.was) c.args.net.now.tidy (λ v. not (eqb v c.args.t))
          c.drop_row.new.sheet c.drop_row.ensures.kept (n - 1) (omega (arith, length_others c.args.t n c.if-t-n.true));
    }

pub returns-then-t-n-clause-exact : goal.returns-then-t-n-clause-exact
returns-then-t-n-clause-exact c =
    let n = c.args.net.now.shape.transitions in
    rows_kept (view c.args.net.now) (sym c.check_size.ensures ∙ c.in_ok-check_size.was) c.args.net.now.tidy (λ v. not (eqb v c.args.t))
    c.drop_row.new.sheet c.drop_row.ensures.kept (n - 1) (sym (length_others c.args.t n c.if-t-n.true)) c.drop_row.ensures.size

pub returns-else-t-n-clause-exact : goal.returns-else-t-n-clause-exact
returns-else-t-n-clause-exact c =
    none_dropped (view c.args.net.now) (sym c.check_size.ensures ∙ c.in_ok-check_size.was) c.args.net.now.tidy c.args.t c.if-t-n.false

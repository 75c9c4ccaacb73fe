use Rattle.std.proofs.Common.{rules, sym, ◌∙◌}
use Rattle.net.specs.States.{view}
use Rattle.net.proofs.Tables.{ok_not_err}
use Rattle.theory.specs.Rewrites.{keeping}
use Rattle.products.specs.Products.{apart?, replacing}
use Rattle.products.proofs.Replacing.{kept, answered, room_passes, replaced}
use Rattle.products.proofs.replace_rows.Goals as goal

pub returns-in_err-append_rows-clause-exact : goal.returns-in_err-append_rows-clause-exact
returns-in_err-append_rows-clause-exact c = λ qs f.
    let x = kept (view c.args.net.now) (view c.keep_where.new.net) (keeping (apart? (view c.args.net.now) c.args.p) (view c.args.net.now)) c.keep_where.result (search rules) c.keep_where.ensures.exact in
    let e = room_passes c.args.p (view c.args.net.now) c.args.rows.now c.requires (view c.keep_where.new.net) x.1 in
    absurd (ok_not_err (sym c.in_err-append_rows.was ∙ c.append_rows.ensures.answer ∙ e))

pub returns-clause-exact : goal.returns-clause-exact
returns-clause-exact c = λ qs f.
    let x = kept (view c.args.net.now) (view c.keep_where.new.net) (keeping (apart? (view c.args.net.now) c.args.p) (view c.args.net.now)) c.keep_where.result (search rules) c.keep_where.ensures.exact in
    answered (view c.args.net.now) _ (replacing qs c.args.p (view c.args.net.now)) x.0
    (replaced c.args.p (view c.args.net.now) c.args.rows.now c.requires (view c.keep_where.new.net) (view c.append_rows.new.net) c.flags_without-net.result x.1
    c.in_ok-append_rows.ensures.appended c.flags_without-net.ensures qs f)

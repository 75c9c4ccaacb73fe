use Rattle.std.proofs.Common.{rules}
use Rattle.net.specs.Views.{drafted}
use Rattle.std.proofs.lemmas.Result.{IfOk-weaker}
use Rattle.report.proofs.Readings.{refused_reading, taken_reading, read_lines}
use Rattle.report.proofs.report_over.Goals as goal

pub returns-in_ok-vec-in-Err : goal.returns-in_ok-vec-in-Err
returns-in_ok-vec-in-Err c =
    let e = refused_reading c.args.sheet.now c.args.input.now (drafted c.start-draft.result) (drafted c.read.new.draft) c.in-Err.fault c.requires c.start-draft.ensures.drafted c.in-Err.ensures.exact in
    rw e (search rules)

pub slice_bounds-session_lines-count : goal.slice_bounds-session_lines-count
slice_bounds-session_lines-count c =
    (taken_reading c.args.sheet.now c.args.input.now (drafted c.start-draft.result) (drafted c.read.new.draft) c.in-Ok.used c.requires c.start-draft.ensures.drafted c.in-Ok.ensures.exact).within

pub slice_bounds-session_lines-start : goal.slice_bounds-session_lines-start
slice_bounds-session_lines-start c =
    let w = taken_reading c.args.sheet.now c.args.input.now (drafted c.start-draft.result) (drafted c.read.new.draft) c.in-Ok.used c.requires c.start-draft.ensures.drafted c.in-Ok.ensures.exact in
    search (rules, w.within)

pub returns-in-Ok : goal.returns-in-Ok
returns-in-Ok c =
    let w = taken_reading c.args.sheet.now c.args.input.now (drafted c.start-draft.result) (drafted c.read.new.draft) c.in-Ok.used c.requires c.start-draft.ensures.drafted c.in-Ok.ensures.exact in
    IfOk-weaker c.session_lines.result _ _ (λ v h. read_lines v.items c.args.input.now c.in-Ok.used _ _ w c.open.ensures.exact h) c.session_lines.ensures

use Rattle.std.proofs.Common.{rules}
use Rattle.std.proofs.lemmas.List.{places}
use Rattle.rewrites.proofs.Closing.{kept_others}
use Rattle.rewrites.proofs.drop_row.Goals as goal

pub returns-clause-kept : goal.returns-clause-kept
returns-clause-kept c =
    kept_others c.args.t c.args.n c.requires.1.1 c.args.sheet.now _ c.wipe_rows.new.sheet (λ i h. search (rules, places))
    (λ i h k. search (rules, places)) (λ i h. search (rules, places)) c.wipe_rows.ensures.before c.wipe_rows.ensures.wiped c.wipe_rows.ensures.after

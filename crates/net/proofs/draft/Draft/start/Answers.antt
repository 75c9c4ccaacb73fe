use Rattle.net.proofs.Tidying.{started_tidy}
use Rattle.net.proofs.Keeps.{started_bare, bare_sound, drafts_have_qualities}
use Rattle.net.proofs.draft.Draft.start.Goals as goal

pub invariant_of-result-2 : goal.invariant_of-result-2
invariant_of-result-2 c = record { tidy = started_tidy c.args.sheet.now c.prepare.new.sheet c.prepare.ensures }

pub invariant_of-result-3 : goal.invariant_of-result-3
invariant_of-result-3 c = record { sound = bare_sound c.args.sheet.now c.prepare.new.sheet c.prepare.ensures }

pub returns-clause-drafted : goal.returns-clause-drafted
returns-clause-drafted c = started_bare c.args.sheet.now c.prepare.new.sheet c.prepare.ensures

pub returns-clause-qualities : goal.returns-clause-qualities
returns-clause-qualities c = drafts_have_qualities

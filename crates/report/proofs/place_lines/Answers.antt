use Rattle.std.proofs.Common.{refl, rules}
use Rattle.std.proofs.lemmas.Iterator.{YieldsList-from_range}
use Rattle.std.proofs.lemmas.Iterator.Consumers.{YieldsList-from_filter_map}
use Rattle.std.proofs.lemmas.Iterator.Adapters.{items_from_extend}
use Rattle.net.specs.declared.net.Look.TheVariants.{Mark}
use Rattle.net.specs.Looks.{looked}
use Rattle.net.specs.States.{view}
use Rattle.report.specs.Lines.{shown_place}
use Rattle.report.proofs.place_lines.Goals as goal

pub returns : goal.returns
returns c =
    let h = items_from_extend c.extend.result c.extend.ensures.ran
    (YieldsList-from_filter_map _ (λ p. shown_place p (looked (view c.args.net.now) (Mark p)))
    (YieldsList-from_range 0 64 64 c.filter_map.ensures.source refl) c.filter_map.ensures.closure (λ x r q k. search rules)) in
    search rules

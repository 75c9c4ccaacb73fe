use Rattle.std.proofs.Common.{refl, rules, arith}
use Rattle.std.proofs.lemmas.Iterator.{YieldsList-from_range}
use Rattle.std.proofs.lemmas.Iterator.Consumers.{YieldsList-from_filter_map, YieldsList-from_chain}
use Rattle.std.proofs.lemmas.Iterator.Adapters.{items_from_extend, YieldsList-from_flat_map}
use Rattle.net.specs.declared.net.Side.TheVariants.{Takes, Puts}
use Rattle.net.specs.Looks.{looked}
use Rattle.net.specs.States.{view}
use Rattle.report.specs.Lines.{side_look, shown_arc, transition_lines}
use Rattle.report.proofs.arc_lines.Goals as goal

pub returns : goal.returns
returns c =
    let h = items_from_extend c.extend.result c.extend.ensures.ran
    (YieldsList-from_flat_map _ _ _ (λ y. y) (transition_lines (view c.args.net.now)) _ (λ x u q k. (
      search rules,
      λ j b.
          YieldsList-from_chain
          (YieldsList-from_filter_map _ (λ p. shown_arc Takes x p (looked (view c.args.net.now) (side_look Takes x p))) {f = (c.args.net, x)}
          (YieldsList-from_range 0 64 64 (search rules) refl) (search rules) (λ y r g l. search rules))
          (YieldsList-from_filter_map _ (λ p. shown_arc Puts x p (looked (view c.args.net.now) (side_look Puts x p))) {f = (c.args.net, x)}
          (YieldsList-from_range 0 64 64 (search rules) refl) (search rules) (λ y r g l. search rules))
          (search rules) (search rules),
    ))
    (YieldsList-from_range 0 c.args.net.now.shape.transitions c.args.net.now.shape.transitions c.flat_map.ensures.source (omega arith))
    c.flat_map.ensures.closure c.flat_map.ensures.front c.flat_map.ensures.back c.flat_map.ensures.done) in
    search rules

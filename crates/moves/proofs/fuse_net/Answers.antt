use Rattle.std.proofs.Common.{◌<◌, ◌+◌, ◌*◌, ◌∙◌, length, sym, arith}
use Rattle.std.proofs.lemmas.Bool.{eqb-true, eqb-false}
use Rattle.std.specs.Result.{IfOk}
use Rattle.net.specs.States.{view}
use Rattle.net.proofs.Keeps.{flag_below}
use Rattle.theory.specs.Rewrites.{fusing}
use Rattle.moves.specs.Columns.{Added}
use Rattle.moves.proofs.Fusing.{sums_fit, added_tidy, fused_net}
use Rattle.moves.proofs.Leaving.{asked_size, size_asked}
use Rattle.moves.proofs.fuse_net.Goals as goal

pub add_place-requires-clause-places : goal.add_place-requires-clause-places
add_place-requires-clause-places c = (
  c.args.net.now.shape.few,
  (
    omega (arith, c.from.ensures, flag_below c.args.net.now.shape.standing c.args.fusion.p c.requires.places.0),
    (
      omega (arith, c.from-2.ensures, flag_below c.args.net.now.shape.standing c.args.fusion.q c.requires.places.1.0),
      λ e. eqb-false c.args.fusion.p c.args.fusion.q c.requires.places.1.1 (sym c.from.ensures ∙ e ∙ c.from-2.ensures),
    ),
  ),
)

pub add_place-requires-clause-sums : goal.add_place-requires-clause-sums
add_place-requires-clause-sums c =
    let a : c.args.fusion.p < 64 = omega (arith, flag_below c.args.net.now.shape.standing c.args.fusion.p c.requires.places.0) in
    let b : c.args.fusion.q < 64 = omega (arith, flag_below c.args.net.now.shape.standing c.args.fusion.q c.requires.places.1.0) in
    rw (c.from.ensures, c.from-2.ensures) (sums_fit (view c.args.net.now) c.args.fusion.p c.args.fusion.q a b c.requires.sums)

pub invariant_of-net : goal.invariant_of-net
invariant_of-net c =
    let a : c.args.fusion.p < 64 = omega (arith, flag_below c.args.net.now.shape.standing c.args.fusion.p c.requires.places.0) in
    let b : c.args.fusion.q < 64 = omega (arith, flag_below c.args.net.now.shape.standing c.args.fusion.q c.requires.places.1.0) in
    let x : IfOk c.add_place.result (λ _. Added (view c.args.net.now).sheet c.add_place.new.sheet (1 + 2 * c.args.net.now.shape.transitions) c.args.fusion.p c.args.fusion.q) =
    rw (sym c.from.ensures, sym c.from-2.ensures) c.add_place.ensures.added in
    record {
      tidy = added_tidy (view c.args.net.now) c.args.fusion.p c.args.fusion.q a b c.requires.sums c.add_place.new.sheet c.add_place.result (omega arith) c.add_place.ensures.answer x c.args.net.now.tidy;
    }

pub returns-clause-exact : goal.returns-clause-exact
returns-clause-exact c =
    let a : c.args.fusion.p < 64 = omega (arith, flag_below c.args.net.now.shape.standing c.args.fusion.p c.requires.places.0) in
    let b : c.args.fusion.q < 64 = omega (arith, flag_below c.args.net.now.shape.standing c.args.fusion.q c.requires.places.1.0) in
    let x : Added (view c.args.net.now).sheet c.add_place.new.sheet (1 + 2 * c.args.net.now.shape.transitions) c.args.fusion.p c.args.fusion.q =
    rw (sym c.from.ensures, sym c.from-2.ensures) c.in_ok-add_place.ensures.added in
    let size = asked_size (view c.args.net.now) (sym c.add_place.ensures.answer ∙ c.in_ok-add_place.was) in
    size_asked (view c.args.net.now) (fusing c.args.fusion.p c.args.fusion.q (view c.args.net.now)) (view c.remove_place.new.net) c.remove_place.result size
    (fused_net (view c.args.net.now) c.add_place.new.sheet c.args.fusion.p c.args.fusion.q a b (eqb-false c.args.fusion.p c.args.fusion.q c.requires.places.1.1)
    x c.remove_place.result (view c.remove_place.new.net) (omega (arith, eqb-true (length c.args.net.now.sheet.now) 12352 size))
    c.requires.places.1.0 (rw (sym c.from-3.ensures) c.remove_place.ensures.exact))

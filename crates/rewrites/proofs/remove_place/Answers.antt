use Rattle.std.proofs.Common.{◌∙◌, false, not, eqb, set, sym, refl}
use Rattle.net.specs.Looks.{place_checks}
use Rattle.net.specs.States.{view}
use Rattle.theory.specs.Nexts.{off}
use Rattle.rewrites.proofs.Limiting.{limited_tidy, off_stays, places_left}
use Rattle.rewrites.proofs.remove_place.Goals as goal

pub invariant_of-net : goal.invariant_of-net
invariant_of-net c =
    record {
      tidy = λ _.
          limited_tidy c.args.net.now.sheet.now c.clear_place.new.sheet (λ q. not (eqb q c.args.p)) c.args.net.now.shape.transitions c.clear_place.ensures.cleared
          (c.args.net.now.tidy (c.check_place.ensures.within c.in_ok-check_place.was).0);
    }

pub returns-clause-exact : goal.returns-clause-exact
returns-clause-exact c =
    let s = view c.args.net.now in
    places_left s (place_checks s c.args.p) (sym c.check_place.ensures.value ∙ c.in_ok-check_place.was)
    (c.args.net.now.tidy (c.check_place.ensures.within c.in_ok-check_place.was).0) (λ q. not (eqb q c.args.p)) c.clear_place.new.sheet
    c.clear_place.ensures.cleared (off c.args.p) (set s.standing c.args.p false) (set s.standing c.args.p false) (off_stays c.args.p) c.clear_place.ensures.size refl

use Rattle.std.proofs.Common.{◌&&◌, ◌∙◌, false, get_or, sym, ap}
use Rattle.net.specs.Looks.{sheet_checks}
use Rattle.net.specs.States.{view, stands}
use Rattle.theory.specs.Nexts.{inside}
use Rattle.theory.specs.Rewrites.{flags_by}
use Rattle.theory.specs.Tests.{member}
use Rattle.rewrites.proofs.Limiting.{limited_tidy, inside_stays, places_left, all_flags}
use Rattle.rewrites.proofs.Sized.{size}
use Rattle.rewrites.proofs.limit_places.Goals as goal

pub invariant_of-net-2 : goal.invariant_of-net-2
invariant_of-net-2 c =
    record {
      tidy = λ _.
          limited_tidy c.args.net.now.sheet.now c.limit_parts.new.sheet (λ p. get_or c.flags_of-stays.result p false) c.args.net.now.shape.transitions
          c.limit_parts.ensures.limited (c.args.net.now.tidy (size (view c.args.net.now) (sym c.check_size.ensures ∙ c.in_ok-check_size.was)));
    }

pub returns-clause-exact : goal.returns-clause-exact
returns-clause-exact c =
    let s = view c.args.net.now in
    let asked = sym c.check_size.ensures ∙ c.in_ok-check_size.was in
    places_left s (sheet_checks s) asked (c.args.net.now.tidy (size s asked)) (λ p. get_or c.flags_of-stays.result p false) c.limit_parts.new.sheet
    c.limit_parts.ensures.limited (inside (member c.args.set.now)) _ (flags_by (λ p. stands s p && member c.args.set.now p))
    (inside_stays c.flags_of-stays.result (member c.args.set.now) c.flags_of-stays.ensures) c.limit_parts.ensures.size
    (all_flags (λ p. stands s p && member c.args.set.now p) c.both-net.result c.both-net.ensures.long
    (λ i h. c.both-net.ensures.flags i h ∙ ap (λ b. stands s i && b) (c.flags_of-stays.ensures i h)))

-- What a step leaves is sound, by the law of the book.
use Rattle.std.proofs.Common.{◌≡◌, true, [], ◌∷◌, Ok, Err, Result, sym, refl, ap, ◌∙◌, subst}
use mathlib.Core.Bool.{Bool-set}
use mathlib.Core.Logic.{∥∥₁_elim, ∥∥₁_map}
use Rattle.std.proofs.lemmas.Bool.{eqb-true, eq-eqb}
use Rattle.net.specs.declared.net.Origin.{Origin}
use Rattle.net.specs.declared.net.NetFault.TheVariants.{WrongSize}
use Rattle.net.specs.declared.net.Placed.{Placed}
use Rattle.net.specs.Refusals.{◌unless◌, placed}
use Rattle.net.specs.States.{State, sized, left, Answered}
use Rattle.net.specs.Looks.{measured}
use Rattle.net.specs.Qualities.{Qualities, Sound}
use Rattle.net.proofs.Tables.{passed, ok_same, ok_not_err}
use Rattle.theory.specs.Laws.{Kept}
use Rattle.net.specs.declared.net.Position.{Position}
use Rattle.session.specs.declared.faults.BookRefusal.{BookRefusal}
use Rattle.session.specs.Faults.{with_place}

-- A fault's place is no result.
pub placed_ok : {X F : Type 0} (r : Result X F) (q : Result X (Placed F)) (o : Origin) (x : X) → q ≡ placed r o → q ≡ Ok x → r ≡ Ok x
placed_ok {X} (Ok y) q o x e h = ap (λ (z : X). Ok z) (ok_same (sym e ∙ h))
placed_ok (Err f) q o x e h = absurd (ok_not_err (sym e ∙ h))

pub with_place_ok : {X F : Type 0} (r : Result X F) (q : Result X (BookRefusal F)) (at : Position) (x : X) → q ≡ with_place r at → q ≡ Ok x → r ≡ Ok x
with_place_ok {X} (Ok y) q at x e h = ap (λ (z : X). Ok z) (ok_same (sym e ∙ h))
with_place_ok (Err f) q at x e h = absurd (ok_not_err (sym e ∙ h))

pub measured_sized : (s : State) → measured s.sheet ≡ Ok tt → sized s ≡ true
measured_sized s h = (passed (WrongSize unless sized s ∷ []) tt tt h).0.0

module _ {F : Type 0} (before : State) (size : sized before ≡ true) (d : Result State F) (law : (t : State) → Qualities before → d ≡ Ok t → Kept before t) where
  left_sound : (e : Result State F) → d ≡ e → Sound before → Sound (left before e)
  left_sound (Ok t) h g = λ _. (law t (g (eqb-true _ _ size)) h).qualities
  left_sound (Err f) h g = g

  pub answered_sound : (r : Result Unit F) (after : State) → Answered r after before d → ∥ Sound before ∥₁ → ∥ Sound after ∥₁
  answered_sound r after a g = ∥∥₁_map g (λ k. subst Sound (sym a.state) (left_sound d refl k))

  left_sized : (e : Result State F) → d ≡ e → Sound before → sized (left before e) ≡ true
  left_sized (Ok t) h g = eq-eqb _ _ (law t (g (eqb-true _ _ size)) h).qualities.size
  left_sized (Err f) h g = size

  pub answered_sized : (r : Result Unit F) (after : State) → Answered r after before d → ∥ Sound before ∥₁ → sized after ≡ true
  answered_sized r after a g = ∥∥₁_elim g (Bool-set _ _) (λ k. ap sized a.state ∙ left_sized d refl k)

-- Each write of a net leaves its sheet tidy.
use Rattle.std.proofs.Common.{◌≡◌, ℕ, Bool, true, false, cond, eqb, refl, ap, ◌+◌, ◌*◌, ◌<◌, ◌≤◌, List, length, set, arith, length-set, sym, subst, ◌∙◌}
use Rattle.std.proofs.lemmas.Bool.{eq-eqb, true≢false}
use Rattle.net.specs.Drafts.{started}
use Rattle.net.specs.States.{empty, bare}
use Rattle.net.specs.Tidy.{Tidy}
use Rattle.net.proofs.Keeps.{empty_zero}
use Rattle.net.proofs.Writes.{after_set}

pub weight_tidy : (xs : List ℕ) (n at w : ℕ) → at < 64 + 128 * n → at < length xs → w ≤ 65535 → Tidy xs n → Tidy (set xs at w) n
weight_tidy xs n at w l k few t h =
    let size : length xs ≡ 12352 = sym (length-set xs _ _) ∙ h in
    let y = t size in
    record {
      unused = λ i g. after_set xs at w i k (λ z. z ≡ 0) (λ e. absurd (omega arith)) (λ _. y.unused i g);
      weights = λ i g. after_set xs at w i k (λ z. z ≤ 65535) (λ _. few) (λ _. y.weights i g);
    }

pub empty_tidy : (n : ℕ) → Tidy empty.sheet n
empty_tidy n h = record { unused = λ i g. empty_zero i; weights = λ i g. omega (arith, empty_zero i) }

pub wiped_tidy : (xs : List ℕ) (n : ℕ) → xs ≡ empty.sheet → Tidy xs n
wiped_tidy xs n e = subst (λ ys. Tidy ys n) (sym e) (empty_tidy n)

-- A sheet that was prepared for a draft.
pub started_tidy : (xs ys : List ℕ) → ys ≡ (started xs).sheet → Tidy ys 0
started_tidy xs ys e = go (eqb (length xs) 12352) refl e
  where
    go : (b : Bool) → eqb (length xs) 12352 ≡ b → ys ≡ (cond b empty (bare xs)).sheet → Tidy ys 0
    go true k h = wiped_tidy ys 0 h
    go false k h = λ size. absurd (true≢false (sym (eq-eqb (length xs) 12352 (ap length (sym h) ∙ size)) ∙ k))

-- An array that is made by one call for each index, of a closure that changes nothing.
use Rattle.std.proofs.Common.{◌≡◌, ℕ, zero, suc, ◌+◌, ◌<◌, ◌≤◌, List, ◌⊎◌, inl, inr, get_or, sym, ap, ◌∙◌, subst, arith}
use Rattle.std.proofs.lemmas.Bool.{cases_eq}
use Rattle.std.specs.Array.{IsFromFnResult, IsFromFnResultFrom}
use denote.Param.Members.{Mut, Called}

module _ {F B : Type 0} {g : Mut F (ℕ × Unit {0}) B} {f : F} (value : ℕ → B) (same : (j : ℕ) (y : B) (q : F) → Called g f (j, tt) y q → (q ≡ f) × (y ≡ value j)) where
  made_from : (ys : List B) (n i : ℕ) → IsFromFnResultFrom g f ys i n → (k : ℕ) (d : B) → i ≤ k → k < i + n → get_or ys k d ≡ value k
  made_from ys zero i m k d l h = absurd (omega arith)
  made_from ys (suc n) i m k d l h = go (made_from ys n (i + 1)) (cases_eq k i)
    where
      told : (m.0 ≡ f) × (m.1 ≡ value i)
      told = same i m.1 m.0 m.3

      go : (IsFromFnResultFrom g f ys (i + 1) n → (k : ℕ) (d : B) → i + 1 ≤ k → k < i + 1 + n → get_or ys k d ≡ value k) → (k ≡ i) ⊎ (k ≡ i → ⊥) → get_or ys k d ≡ value k
      go rest (inl e) = ap (λ j. get_or ys j d) e ∙ m.2.1 d ∙ told.1 ∙ ap value (sym e)
      go rest (inr e) = rest (subst (λ q. IsFromFnResultFrom g q ys (i + 1) n) told.0 m.4) k d (omega arith) (omega arith)

  pub made : (ys : List B) (n : ℕ) → IsFromFnResult g f ys n → (k : ℕ) (d : B) → k < n → get_or ys k d ≡ value k
  made ys n m k d h = made_from ys n 0 m.each k d (omega arith) (omega arith)

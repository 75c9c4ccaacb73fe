-- Flags that are written one after the other.
use Rattle.std.proofs.Common.{◌≡◌, ℕ, ◌+◌, ◌<◌, ◌≤◌, Bool, false, ◌&&◌, ltb, ◌⊎◌, inl, inr, List, length, replicate, get_or, set, sym, ap, subst, ◌∙◌, arith, length-set, get_or-set_same, get_or-set_other}
use Rattle.std.proofs.lemmas.Bool.{cases_eq, cases_lt, lt-ltb, le-ltb}
use Rattle.std.proofs.lemmas.List.{get_or-replicate, get_or_past, length-replicate}

-- The flags of the numbers below `n` are those of the test, and the others are false.
pub record Flagged (f : ℕ → Bool) (fs : List Bool) (n : ℕ) : Type 0 where
  pub size : length fs ≡ 96
  pub flags : (j : ℕ) → get_or fs j false ≡ (ltb j n && f j)

pub flagged_none : (f : ℕ → Bool) (n : ℕ) → n ≡ 0 → Flagged f (replicate 96 false) n
flagged_none f n e = record { size = length-replicate 96 false; flags = λ j. none j (cases_lt j 96) ∙ ap (λ b. b && f j) (sym (le-ltb j n (omega arith))) }
  where
    none : (j : ℕ) → (j < 96) ⊎ (96 ≤ j) → get_or (replicate 96 false) j false ≡ false
    none j (inl l) = get_or-replicate 96 j false false l
    none j (inr g) = get_or_past (replicate 96 false) j false (omega (arith, length-replicate 96 false))

same_test : (f : ℕ → Bool) (n j : ℕ) → (j ≡ n → ⊥) → (ltb j n && f j) ≡ (ltb j (n + 1) && f j)
same_test f n j e = go (cases_lt j n)
  where
    go : (j < n) ⊎ (n ≤ j) → (ltb j n && f j) ≡ (ltb j (n + 1) && f j)
    go (inl l) = ap (λ b. b && f j) (lt-ltb j n l ∙ sym (lt-ltb j (n + 1) (omega arith)))
    go (inr g) = ap (λ b. b && f j) (le-ltb j n g ∙ sym (le-ltb j (n + 1) (omega arith)))

flagged_set : (f : ℕ → Bool) (fs : List Bool) (n : ℕ) → n < 96 → Flagged f fs n → Flagged f (set fs n (f n)) (n + 1)
flagged_set f fs n h x = record { size = length-set fs n (f n) ∙ x.size; flags = λ j. go j (cases_eq j n) }
  where
    go : (j : ℕ) → (j ≡ n) ⊎ (j ≡ n → ⊥) → get_or (set fs n (f n)) j false ≡ (ltb j (n + 1) && f j)
    go j (inl e) = ap (λ k. get_or (set fs n (f n)) k false) e ∙ get_or-set_same fs n (f n) false (omega (arith, x.size)) ∙ ap (λ b. b && f n) (sym (lt-ltb n (n + 1) (omega arith))) ∙ ap (λ k. ltb k (n + 1) && f k) (sym e)
    go j (inr e) = get_or-set_other fs n j (f n) false e ∙ x.flags j ∙ same_test f n j e

pub flagged_more : (f : ℕ → Bool) (fs : List Bool) (n i : ℕ) (b : Bool) (m : ℕ) → i ≡ n → b ≡ f i → m ≡ n + 1 → n < 96 → Flagged f fs n
    → Flagged f (set fs i b) m
flagged_more f fs n i b m e k l h x =
    subst (λ j. Flagged f (set fs i b) j) (sym l) (subst (λ c. Flagged f (set fs i c) (n + 1)) (sym k)
    (subst (λ j. Flagged f (set fs j (f j)) (n + 1)) (sym e) (flagged_set f fs n h x)))

-- What is in the lists by which next states are named.
use Rattle.std.proofs.Common.{◌≡◌, ℕ, zero, suc, ◌+◌, ◌<◌, ◌≤◌, Bool, true, false, ◌⊎◌, List, [], ◌∷◌, map, filter, sym, refl, ap, ◌∙◌, subst, inl, inr, arith}
use mathlib.Core.List.Memᴰ
use mathlib.Core.List.{Memᴰ}
use Rattle.std.specs.List.{range_with_len}
use Rattle.std.proofs.lemmas.Bool.{cases_Bool, cases_eq}
use Rattle.net.specs.Sheets.{Row}
use Rattle.theory.specs.Tests.{those}
use Rattle.theory.specs.Rewrites.{crossed}

pub in_counting : (a n t : ℕ) → a ≤ t → t < a + n → Memᴰ t (range_with_len a n)
in_counting a zero t h l = absurd (omega arith)
in_counting a (suc n) t h l = go (in_counting (a + 1) n t) (cases_eq t a)
  where
    go : (a + 1 ≤ t → t < a + 1 + n → Memᴰ t (range_with_len (a + 1) n)) → (t ≡ a) ⊎ (t ≡ a → ⊥) → Memᴰ t (range_with_len a (suc n))
    go below (inl e) = Memᴰ.head e
    go below (inr k) = Memᴰ.tail (below (omega arith) (omega arith))

pub of_counting : (a n t : ℕ) → Memᴰ t (range_with_len a n) → (a ≤ t) × (t < a + n)
of_counting a zero t m = absurd (Memᴰ.not-nil m)
of_counting a (suc n) t m = go (of_counting (a + 1) n t) (Memᴰ.cases_cons m)
  where
    go : (Memᴰ t (range_with_len (a + 1) n) → (a + 1 ≤ t) × (t < a + 1 + n)) → (t ≡ a) ⊎ Memᴰ t (range_with_len (a + 1) n) → (a ≤ t) × (t < a + suc n)
    go below (inl e) = omega arith
    go below (inr k) = omega (arith, below k)

in_kept : {A : Type 0} (keep : A → Bool) {a : A} {l : List A} → Memᴰ a l → keep a ≡ true → Memᴰ a (filter keep l)
in_kept keep {a} (Memᴰ.head {x} {xs} e) k = rw ((ap keep (sym e)), k) (Memᴰ.head e)
in_kept keep {a} (Memᴰ.tail {x} {xs} m) k = go (cases_Bool (keep x)) (in_kept keep m k)
  where
    go : (keep x ≡ true) ⊎ (keep x ≡ false) → Memᴰ a (filter keep xs) → Memᴰ a (filter keep (x ∷ xs))
    go (inl e) i = rw e (Memᴰ.tail i)
    go (inr e) i = rw e i

of_kept : {A : Type 0} (keep : A → Bool) {a : A} (l : List A) → Memᴰ a (filter keep l) → Memᴰ a l × (keep a ≡ true)
of_kept keep [] m = absurd (Memᴰ.not-nil m)
of_kept keep {a} (x ∷ xs) m = go (of_kept keep xs) (cases_Bool (keep x))
  where
    last : (keep x ≡ true) → (Memᴰ a (filter keep xs) → Memᴰ a xs × (keep a ≡ true)) → (a ≡ x) ⊎ Memᴰ a (filter keep xs)
        → Memᴰ a (x ∷ xs) × (keep a ≡ true)
    last e below (inl i) = (Memᴰ.head i, ap keep i ∙ e)
    last e below (inr k) = let r = below k in (Memᴰ.tail r.0, r.1)

    go : (Memᴰ a (filter keep xs) → Memᴰ a xs × (keep a ≡ true)) → (keep x ≡ true) ⊎ (keep x ≡ false)
        → Memᴰ a (x ∷ xs) × (keep a ≡ true)
    go below (inl e) = last e below (Memᴰ.cases_cons (rw e at m))
    go below (inr e) = let r = below (rw e at m) in (Memᴰ.tail r.0, r.1)

pub in_those : (keep : ℕ → Bool) (n t : ℕ) → t < n → keep t ≡ true → Memᴰ t (those keep n)
in_those keep n t l k = in_kept keep (in_counting 0 n t (omega arith) (omega arith)) k

pub of_those : (keep : ℕ → Bool) (n t : ℕ) → Memᴰ t (those keep n) → (t < n) × (keep t ≡ true)
of_those keep n t m =
    let r = of_kept keep (range_with_len 0 n) m in
    (omega (arith, of_counting 0 n t r.0), r.1)

pub in_crossed : (f : ℕ → ℕ → Row) {h g : ℕ} {hs gs : List ℕ} → Memᴰ h hs → Memᴰ g gs → Memᴰ (f h g) (crossed f hs gs)
in_crossed f {g} {gs} (Memᴰ.head {x} {xs} e) m =
    Memᴰ.append_left (crossed f xs gs) (subst (λ z. Memᴰ (f z g) (map (f x) gs)) (sym e) (Memᴰ.map (f x) m))
in_crossed f {gs} (Memᴰ.tail {x} {xs} l) m = Memᴰ.append_right (map (f x) gs) (in_crossed f l m)

pub of_crossed : (f : ℕ → ℕ → Row) {r : Row} (hs gs : List ℕ) → Memᴰ r (crossed f hs gs)
    → (h : ℕ) × (g : ℕ) × Memᴰ h hs × Memᴰ g gs × (f h g ≡ r)
of_crossed f [] gs m = absurd (Memᴰ.not-nil m)
of_crossed f {r} (x ∷ xs) gs m = go (of_crossed f xs gs) (Memᴰ.append_cases (map (f x) gs) m)
  where
    go : (Memᴰ r (crossed f xs gs) → (h : ℕ) × (g : ℕ) × Memᴰ h xs × Memᴰ g gs × (f h g ≡ r))
        → Memᴰ r (map (f x) gs) ⊎ Memᴰ r (crossed f xs gs)
        → (h : ℕ) × (g : ℕ) × Memᴰ h (x ∷ xs) × Memᴰ g gs × (f h g ≡ r)
    go below (inl i) = let y = Memᴰ.of_map (f x) gs i in (x, y.0, Memᴰ.head refl, y.1, y.2)
    go below (inr i) = let y = below i in (y.0, y.1, Memᴰ.tail y.2, y.3, y.4)

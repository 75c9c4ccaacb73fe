-- A test of every number below `n` that is asked of one number after the other, to the end.
use Rattle.std.proofs.Common.{◌≡◌, ℕ, ◌+◌, ◌≤◌, Bool, true, false, ◌&&◌, List, [], ◌∷◌, fold, refl, sym, ap, ◌∙◌, arith}
use Rattle.std.specs.List.{range_with_len, list_all}
use mathlib.Core.Path.{fun_ext}
use Rattle.theory.specs.Tests.{every}
use Rattle.theory.proofs.Says.{every_zero, every_suc, every_at, every_from}

pub every_none : (f : ℕ → Bool) (n : ℕ) → n ≡ 0 → true ≡ every n f
every_none f n e = sym (ap (λ k. every k f) e ∙ every_zero f)

pub every_more : (f : ℕ → Bool) (n m : ℕ) (a b : Bool) → m ≡ n + 1 → a ≡ every n f → b ≡ f n → (a && b) ≡ every m f
every_more f n m a b e x y = ap (λ c. c && b) x ∙ ap (λ c. every n f && c) y ∙ sym (every_suc n f) ∙ ap (λ k. every k f) (omega (arith, e))

pub every_done : (f : ℕ → Bool) (n m : ℕ) (a : Bool) → n ≡ m → a ≡ every n f → a ≡ every m f
every_done f n m a e x = x ∙ ap (λ k. every k f) e

pub every_same : (f g : ℕ → Bool) (n : ℕ) → ((i : ℕ) → f i ≡ g i) → every n f ≡ every n g
every_same f g n h = ap (every n) (fun_ext h)

-- The same by a fold.
folded : (f : ℕ → Bool) (b : Bool) (xs : List ℕ) → fold (λ a x. a && f x) b xs ≡ (b && list_all f xs)
folded f true [] = refl
folded f false [] = refl
folded f true (x ∷ xs) = folded f (f x) xs
folded f false (x ∷ xs) = folded f false xs

pub every_folded : (f : ℕ → Bool) (n : ℕ) → fold (λ a x. a && f x) true (range_with_len 0 n) ≡ every n f
unfolding every
every_folded f n = folded f true (range_with_len 0 n)

-- Where the test fails of one of the first numbers, it fails of one of all.
failed : (a b : Bool) → (b ≡ true → a ≡ true) → false ≡ a → false ≡ b
failed a false h e = refl
failed a true h e = e ∙ h refl

pub front_fails : (f : ℕ → Bool) (m n : ℕ) → m ≤ n → false ≡ every m f → false ≡ every n f
front_fails f m n l = failed (every m f) (every n f) (λ e. every_from m f (λ i h. every_at n f e i (omega arith)))

-- Two tests of every number below `n`, asked together or one after the other.
use Rattle.std.proofs.Common.{◌≡◌, ℕ, List, [], ◌∷◌, Bool, true, false, ◌&&◌, refl, ap, ◌∙◌}
use Rattle.std.specs.List.{range_with_len, list_all}
use Rattle.theory.specs.Tests.{every}

swapped : (a b c d : Bool) → ((a && b) && (c && d)) ≡ ((a && c) && (b && d))
swapped true true c d = refl
swapped true false true d = refl
swapped true false false d = refl
swapped false b c d = refl

all_both : (f g : ℕ → Bool) (xs : List ℕ) → list_all (λ q. f q && g q) xs ≡ (list_all f xs && list_all g xs)
all_both f g [] = refl
all_both f g (x ∷ xs) = ap (λ b. (f x && g x) && b) (all_both f g xs) ∙ swapped (f x) (g x) (list_all f xs) (list_all g xs)

pub every_both : (n : ℕ) (f g : ℕ → Bool) → every n (λ q. f q && g q) ≡ (every n f && every n g)
unfolding every
every_both n f g = all_both f g (range_with_len 0 n)

-- The limits of the products, asked of the lists of feeders and consumers, and of the numbers of a row.
use Rattle.std.proofs.Common.{◌≡◌, ℕ, ◌+◌, ◌-◌, ◌<◌, ◌≤◌, Bool, true, false, cond, ◌&&◌, ◌⊎◌, leb, List, [], ◌∷◌, ◌++◌, filter, inl, inr, refl, ap, ◌∙◌, subst, arith}
use mathlib.Core.Path.{fun_ext}
use Rattle.std.specs.List.{range_with_len, list_all}
use Rattle.std.proofs.lemmas.Bool.{cases_lt, lt-ltb, le-ltb}
use Rattle.std.proofs.lemmas.Bool.Decides.{same_from_decides}
use Rattle.std.proofs.lemmas.List.Folds.{list_all-map, list_all-append}
use Rattle.net.specs.Sheets.{Row, number, most_weight}
use Rattle.net.specs.States.{State}
use Rattle.theory.specs.Tests.{◌⇒◌, every, those, feeder?, consumer?, feeders, consumers, products_fit?}
use Rattle.theory.proofs.Says.{Says, leb_says, and_says, every_says, restated}
use Rattle.products.specs.declared.pairs.Kind.{Kind}
use Rattle.products.specs.Products.{product_row, row_in_limits?, feeders_fit?, numbers}

-- What is asked of those of which a test holds, is asked of their list.
kept_all : (keep g : ℕ → Bool) (xs : List ℕ) → list_all (λ x. keep x ⇒ g x) xs ≡ list_all g (filter keep xs)
kept_all keep g [] = refl
kept_all keep g (x ∷ xs) = go (keep x) (kept_all keep g xs)
  where
    go : (b : Bool) → list_all (λ y. keep y ⇒ g y) xs ≡ list_all g (filter keep xs)
        → ((b ⇒ g x) && list_all (λ y. keep y ⇒ g y) xs) ≡ list_all g (cond b (x ∷ filter keep xs) (filter keep xs))
    go true e = ap (λ c. g x && c) e
    go false e = e

every_those : (n : ℕ) (keep g : ℕ → Bool) → every n (λ x. keep x ⇒ g x) ≡ list_all g (those keep n)
unfolding every
every_those n keep g = kept_all keep g (range_with_len 0 n)

pub fit_listed : (k : Kind) (s : State) (p : ℕ) → products_fit? s p (product_row k s p) ≡ feeders_fit? k s p (feeders s p) (consumers s p)
fit_listed k s p =
    every_those s.transitions (feeder? s p) (λ h. every s.transitions (λ f. consumer? s p f ⇒ row_in_limits? (product_row k s p h f)))
    ∙ ap (λ g. list_all g (feeders s p)) (fun_ext (λ h. every_those s.transitions (consumer? s p) (λ f. row_in_limits? (product_row k s p h f))))

-- A row is within the limits when all its numbers are.
row_says : (r : Row) → Says (row_in_limits? r) ((q : ℕ) → q < 64 → (r.takes q ≤ most_weight) × (r.puts q ≤ most_weight))
row_says r = every_says 64 _ _ (λ q _. and_says (leb_says (r.takes q) most_weight) (leb_says (r.puts q) most_weight))

numbers_say : (r : Row) → Says (row_in_limits? r) ((j : ℕ) → j < 128 → number r j ≤ most_weight)
numbers_say r = restated (row_says r) (λ h j l. go h j l (cases_lt j 64)) (λ h q l. (takes h q l, puts h q l))
  where
    go : ((q : ℕ) → q < 64 → (r.takes q ≤ most_weight) × (r.puts q ≤ most_weight)) → (j : ℕ) → j < 128 → (j < 64) ⊎ (64 ≤ j) → number r j ≤ most_weight
    go h j l (inl a) = rw (lt-ltb j 64 a) ((h j a).0)
    go h j l (inr g) = rw (le-ltb j 64 g) ((h (j - 64) (omega arith)).1)

    takes : ((j : ℕ) → j < 128 → number r j ≤ most_weight) → (q : ℕ) → q < 64 → r.takes q ≤ most_weight
    takes h q l = let x = h q (omega arith) in rw (lt-ltb q 64 l) at x

    puts : ((j : ℕ) → j < 128 → number r j ≤ most_weight) → (q : ℕ) → q < 64 → r.puts q ≤ most_weight
    puts h q l =
        let e : q + 64 - 64 ≡ q = omega arith in
        let x : number r (q + 64) ≤ most_weight = h (q + 64) (omega arith) in
        subst (λ z. r.puts z ≤ most_weight) e (rw (le-ltb (q + 64) 64 (omega arith)) at x)

pub numbers_fit : (r : Row) → list_all (λ w. leb w 65535) (numbers r) ≡ row_in_limits? r
unfolding numbers every
numbers_fit r =
    list_all-map (λ w. leb w 65535) (number r) (range_with_len 0 128)
    ∙ same_from_decides _ _ (every_says 128 _ _ (λ j _. leb_says (number r j) most_weight)) (numbers_say r)

-- One more of which the test holds.
pub all_more : (g : ℕ → Bool) (xs : List ℕ) (x : ℕ) → list_all g xs ≡ true → g x ≡ true → list_all g (xs ++ x ∷ []) ≡ true
all_more g xs x a b = list_all-append g xs (x ∷ []) ∙ rw (a, b) refl

-- The numbers of rows, and of their products, by the part in which they stand.
use Rattle.std.proofs.Common.{◌≡◌, ℕ, ◌+◌, ◌-◌, ◌*◌, ◌/◌, ◌<◌, ◌≤◌, cond, ◌&&◌, eqb, ltb, ◌⊎◌, List, length, take as upto, drop, get_or, set, inl, inr, sym, ap, ◌∙◌, arith, get_or-set_same, get_or-set_other}
use Rattle.std.proofs.lemmas.Bool.Decides.{nat_tests}
use Rattle.std.proofs.lemmas.Bool.{cases_lt, lt-ltb, le-ltb}
use Rattle.std.proofs.lemmas.List.{get_or-take, get_or-drop}
use Rattle.net.specs.Sheets.{row_at, number}
use Rattle.net.specs.States.{State, take, put}
use Rattle.theory.specs.Rewrites.{post_row, pre_row}
use Rattle.products.specs.Products.{post_number, pre_number}

-- The numbers of a row of a sheet.
pub row_numbers : (xs : List ℕ) (t j : ℕ) → j < 128 → get_or xs (64 + 128 * t + j) 0 ≡ number (row_at xs t) j
row_numbers xs t j b = go (cases_lt j 64)
  where
    go : (j < 64) ⊎ (64 ≤ j) → get_or xs (64 + 128 * t + j) 0 ≡ number (row_at xs t) j
    go (inl h) = rw (lt-ltb j 64 h)
    go (inr g) = rw (le-ltb j 64 g, lt-ltb (j - 64) 64 (omega arith)) (ap (λ z. get_or xs z 0) (omega arith))

-- The numbers of a product, of those of the rows of `h` and `f`.
module _ (s : State) (p h f j : ℕ) where
  pub post_at : j < 128 → (q k : ℕ) → q ≡ p → k ≡ put s h p / take s f p
      → post_number (number (row_at s.sheet h) j) (number (row_at s.sheet f) j) q k j ≡ number (post_row s p h f) j
  post_at b q k e d =
      ap (λ z. post_number (number (row_at s.sheet h) j) (number (row_at s.sheet f) j) z k j) e
      ∙ ap (λ z. post_number (number (row_at s.sheet h) j) (number (row_at s.sheet f) j) p z j) d ∙ go (cases_lt j 64)
    where
      go : (j < 64) ⊎ (64 ≤ j)
          → post_number (number (row_at s.sheet h) j) (number (row_at s.sheet f) j) p (put s h p / take s f p) j ≡ number (post_row s p h f) j
      go (inl l) = rw (lt-ltb j 64 l)
      go (inr g) = rw (le-ltb j 64 g)

  pub pre_at : j < 128 → (q : ℕ) → q ≡ p
      → pre_number (number (row_at s.sheet h) j) (number (row_at s.sheet f) j) q j ≡ number (pre_row s p h f) j
  pre_at b q e =
      ap (λ z. pre_number (number (row_at s.sheet h) j) (number (row_at s.sheet f) j) z j) e ∙ go (cases_lt j 64)
    where
      go : (j < 64) ⊎ (64 ≤ j) → pre_number (number (row_at s.sheet h) j) (number (row_at s.sheet f) j) p j ≡ number (pre_row s p h f) j
      go (inl l) = rw (lt-ltb j 64 l)
      go (inr g) = rw (le-ltb j 64 g)

-- The row of `t`, read as the first numbers of a sheet behind where it begins.
pub chunk_at : (xs ys : List ℕ) (a k t j : ℕ) → length xs ≡ 12352 → t < 96 → a ≡ 64 + 128 * t → k ≡ length xs - a
    → ys ≡ upto 128 (upto k (drop a xs)) → j < 128 → get_or ys j 0 ≡ get_or xs (64 + 128 * t + j) 0
chunk_at xs ys a k t j whole few start rest same l =
    ap (λ zs. get_or zs j 0) same ∙ get_or-take 128 (upto k (drop a xs)) j 0 l ∙ get_or-take k (drop a xs) j 0 (omega arith)
    ∙ get_or-drop a xs j 0 ∙ ap (λ i. get_or xs i 0) (omega arith)

-- A number outside p is written as 0 where its half has p, in the half of the puts and in that of the takes.
pub put_outside : (h p j : ℕ) → 64 ≤ j → j < 128 → cond (ltb p 64 && eqb j (64 + p)) 0 h ≡ cond (eqb (j - 64) p) 0 h
put_outside h p j g l = grind (arith, nat_tests)

pub take_outside : (h p j : ℕ) → j < 64 → cond (ltb p 64 && eqb j (0 + p)) 0 h ≡ cond (eqb j p) 0 h
take_outside h p j l = grind (arith, nat_tests)

-- A number is written behind those of a row that have been written.
module _ (row : List ℕ) (f : ℕ → ℕ) (j v : ℕ) (h : j < length row) where
  pub written_below : ((k : ℕ) → k < j → get_or row k 0 ≡ f k) → v ≡ f j → (k : ℕ) → k < j + 1 → get_or (set row j v) k 0 ≡ f k
  written_below below here k l = go (cases_lt k j)
    where
      go : (k < j) ⊎ (j ≤ k) → get_or (set row j v) k 0 ≡ f k
      go (inl a) = get_or-set_other row j k v 0 (λ e. absurd (omega arith)) ∙ below k a
      go (inr a) =
          let same : k ≡ j = omega arith in
          ap (λ i. get_or (set row j v) i 0) same ∙ get_or-set_same row j v 0 h ∙ here ∙ ap f (sym same)

  pub written_above : (k : ℕ) → j + 1 ≤ k → get_or (set row j v) k 0 ≡ get_or row k 0
  written_above k l = get_or-set_other row j k v 0 (λ e. absurd (omega arith))

-- Rows that are written at once behind those of a sheet, of lists alone.
use Rattle.std.proofs.Common.{rules, ◌≡◌, ℕ, zero, suc, ◌+◌, ◌-◌, ◌*◌, ◌<◌, ◌≤◌, List, [], ◌∷◌, length, take, get_or, ap, ◌∙◌, arith, length-append}
use Rattle.std.proofs.lemmas.List.{places}
use Rattle.std.proofs.lemmas.List.Concat.{flat_map-cons, get_or-flat_map}
use Rattle.std.specs.List.{flat_map}
use Rattle.rewrites.specs.Rows.{Appended}
use borrow.Rule.Slice.PartMut.{put_mid}

-- The numbers of the rows one after the other, 128 for each row.
abbrev pub numbers : List (List ℕ) → List ℕ
numbers bs = flat_map (λ b. b) bs

abbrev pub AllLong : List (List ℕ) → Type 0
AllLong bs = (k : ℕ) → k < length bs → length (get_or bs k []) ≡ 128

length_numbers : (bs : List (List ℕ)) → AllLong bs → (u : ℕ) → u ≤ length bs → length (numbers (take u bs)) ≡ 128 * u
length_numbers bs long zero h = search rules
length_numbers [] long (suc u) h = absurd (omega (arith, h))
length_numbers (b ∷ bs) long (suc u) h =
    omega (
      arith,
      ap length (flat_map-cons (λ (x : List ℕ). x) b (take u bs)),
      length-append b (numbers (take u bs)),
      long 0 (omega arith),
      length_numbers bs (λ k l. long (suc k) (omega (arith, l))) u (omega (arith, h)),
    )

number_in : (bs : List (List ℕ)) → AllLong bs → (u j : ℕ) → u < length bs → j < 128 → get_or (numbers bs) (128 * u + j) 0 ≡ get_or (get_or bs u []) j 0
number_in bs long u j h l =
    ap (λ i. get_or (numbers bs) i 0) (omega (arith, length_numbers bs long u (omega (arith, h))))
    ∙ get_or-flat_map (λ (x : List ℕ). x) bs u j [] 0 h (omega (arith, long u h, l))

-- They are written over those of the sheet from row `n` on.
pub appended_at : (xs ys : List ℕ) (bs : List (List ℕ)) (n a k : ℕ) → AllLong bs → length xs ≡ 12352 → n + length bs ≤ 96 → a ≡ 64 + 128 * n
    → k ≡ 128 * length bs → ys ≡ numbers bs → length ys ≡ k → Appended xs (put_mid a k xs ys) bs n (length bs)
appended_at xs ys bs n a k long whole room start size copied same =
    record {
      before = λ i h. search (rules, places);
      rows = λ u j h l. written u j h l ∙ ap (λ zs. get_or zs (128 * u + j) 0) copied ∙ number_in bs long u j h l;
      after = λ i h. search (rules, places);
    }
  where
    written : (u j : ℕ) → u < length bs → j < 128 → get_or (put_mid a k xs ys) (64 + 128 * (n + u) + j) 0 ≡ get_or ys (128 * u + j) 0
    written u j h l = search (rules, places)

-- The numbers that are written over with weights are weights.
pub written_few : (xs ys : List ℕ) (a k i : ℕ) → ((j : ℕ) → get_or ys j 0 ≤ 65535) → length ys ≡ k → a ≤ i → i < a + k → a + k ≤ length xs
    → get_or (put_mid a k xs ys) i 0 ≤ 65535
written_few xs ys a k i few same l h room = omega (arith, at, few (i - a))
  where
    at : get_or (put_mid a k xs ys) i 0 ≡ get_or ys (i - a) 0
    at = search (rules, places)

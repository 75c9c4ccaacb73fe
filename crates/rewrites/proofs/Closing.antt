-- The steps of a loop that closes up rows, of lists alone.
use Rattle.std.proofs.Common.{◌≡◌, ℕ, ◌+◌, ◌-◌, ◌*◌, ◌/◌, ◌%◌, ◌<◌, ◌≤◌, Bool, true, false, cond, not, eqb, ◌⊎◌, List, [], ◌∷◌, ◌++◌, map, length, get_or, sym, refl, ap, ◌∙◌, subst, inl, inr, arith, length-append}
use Rattle.std.specs.List.{range_with_len}
use Rattle.std.proofs.lemmas.Bool.{cases_lt, lt-ltb, le-ltb}
use Rattle.std.proofs.lemmas.List.{length-map, get_or_append_left, get_or-append_right, get_or-map, append-nil}
use Rattle.std.proofs.lemmas.List.FromFn.{length-range_with_len, get_or-range_with_len}
use Rattle.net.specs.Sheets.{Row, no_row, row_at, number, mark_at, sheet_of}
use Rattle.net.specs.Tidy.{Tidied}
use Rattle.theory.specs.Tests.{those}
use Rattle.theory.proofs.Listed.{sheet_from}
use Rattle.rewrites.specs.Rows.{Closed, Kept}
use Rattle.rewrites.proofs.Those.{those_more, those_others, those_same, those_none}

-- At first no row is copied; then one is copied to the end of those before it.
pub closed_none : (xs : List ℕ) → Closed xs xs []
closed_none xs = record { marks = λ i l. refl; rows = λ u j l k. absurd (omega arith); rest = λ i l. refl }

module _ (xs ys l : List ℕ) (t k : ℕ) (count : k ≡ length l) (p : Closed xs ys l) where
  pub closed_more : (zs : List ℕ) → k ≤ t
      → ((j : ℕ) → j < 128 → get_or zs (64 + 128 * k + j) 0 ≡ get_or ys (64 + 128 * t + j) 0)
      → ((i : ℕ) → i < 64 + 128 * k → get_or zs i 0 ≡ get_or ys i 0) → ((i : ℕ) → 192 + 128 * k ≤ i → get_or zs i 0 ≡ get_or ys i 0)
      → Closed xs zs (l ++ t ∷ [])
  closed_more zs most row before after =
      record {
        marks = λ i h. before i (omega arith) ∙ p.marks i h;
        rows = λ u j h b. at u j b (cases_lt u k) (omega (arith, h, count, length-append l (t ∷ [])));
        rest = λ i h. after i (omega (arith, count, length-append l (t ∷ []))) ∙ p.rest i (omega (arith, count, length-append l (t ∷ [])));
      }
    where
      at : (u j : ℕ) → j < 128 → (u < k) ⊎ (k ≤ u) → u < k + 1 → get_or zs (64 + 128 * u + j) 0 ≡ get_or xs (64 + 128 * get_or (l ++ t ∷ []) u 0 + j) 0
      at u j b (inl h) _ =
          before (64 + 128 * u + j) (omega arith) ∙ p.rows u j (omega arith) b
          ∙ ap (λ z. get_or xs (64 + 128 * z + j) 0) (sym (get_or_append_left l (t ∷ []) 0 u (omega (arith, count))))
      at u j b (inr g) h =
          let same : u ≡ k = omega arith in
          let first : u - k ≡ 0 = omega arith in
          ap (λ z. get_or zs (64 + 128 * z + j) 0) same ∙ row j b ∙ p.rest (64 + 128 * t + j) (omega arith)
          ∙ ap (λ z. get_or xs (64 + 128 * z + j) 0)
          (sym (get_or-append_right l (t ∷ []) k u 0 (sym count) g ∙ ap (λ z. get_or (t ∷ []) z 0) first))

-- A turn of the loop.
module _ (keep : ℕ → Bool) (xs : List ℕ) where
  abbrev pub Turned : List ℕ → ℕ → ℕ → Type 0
  Turned ys k t = Closed xs ys (those keep t) × (k ≡ length (those keep t)) × (k ≤ t) × (length ys ≡ 12352)

  pub turned_kept : (ys zs : List ℕ) (k t : ℕ) → Turned ys k t → keep t ≡ true
      → ((j : ℕ) → j < 128 → get_or zs (64 + 128 * k + j) 0 ≡ get_or ys (64 + 128 * t + j) 0)
      → ((i : ℕ) → i < 64 + 128 * k → get_or zs i 0 ≡ get_or ys i 0) → ((i : ℕ) → 192 + 128 * k ≤ i → get_or zs i 0 ≡ get_or ys i 0)
      → length zs ≡ 12352 → Turned zs (k + 1) (t + 1)
  turned_kept ys zs k t p e row before after whole = (
    subst (λ l. Closed xs zs l) (sym more) (closed_more xs ys (those keep t) t k p.1 p.0 zs p.2 row before after),
    omega (arith, p.1, ap length more, length-append (those keep t) (t ∷ [])),
    omega (arith, p.2),
    whole,
  )
    where
      more : those keep (t + 1) ≡ those keep t ++ t ∷ []
      more = those_more keep t ∙ ap (λ (b : Bool). those keep t ++ cond b (t ∷ []) []) e

  pub turned_left : (ys : List ℕ) (k t : ℕ) → Turned ys k t → keep t ≡ false → Turned ys k (t + 1)
  turned_left ys k t p e =
      (subst (λ l. Closed xs ys l) (sym same) p.0, p.1 ∙ ap length (sym same), omega (arith, p.2), p.3)
    where
      same : those keep (t + 1) ≡ those keep t
      same = those_more keep t ∙ ap (λ (b : Bool). those keep t ++ cond b (t ∷ []) []) e ∙ append-nil (those keep t)

-- The numbers of a row of a sheet.
pub row_numbers : (xs : List ℕ) (t j : ℕ) → j < 128 → get_or xs (64 + 128 * t + j) 0 ≡ number (row_at xs t) j
row_numbers xs t j b = go (cases_lt j 64)
  where
    go : (j < 64) ⊎ (64 ≤ j) → get_or xs (64 + 128 * t + j) 0 ≡ number (row_at xs t) j
    go (inl h) = rw (lt-ltb j 64 h)
    go (inr g) = rw (le-ltb j 64 g, lt-ltb (j - 64) 64 (omega arith)) (ap (λ z. get_or xs z 0) (omega arith))

-- Then the rows behind those that are kept become 0.
pub kept_from : (xs ys zs l : List ℕ) (n k : ℕ) → Closed xs ys l → k ≡ length l → k ≤ n → ((i : ℕ) → i < 64 + 128 * k → get_or zs i 0 ≡ get_or ys i 0)
    → ((i : ℕ) → 64 + 128 * k ≤ i → i < 64 + 128 * n → get_or zs i 0 ≡ 0) → ((i : ℕ) → 64 + 128 * n ≤ i → get_or zs i 0 ≡ get_or ys i 0) → Kept xs zs l n
kept_from xs ys zs l n k p count few before wiped after =
    record {
      marks = λ i h. before i (omega arith) ∙ p.marks i h;
      rows = λ u j h b. before (64 + 128 * u + j) (omega (arith, h, count)) ∙ p.rows u j h b;
      wiped = λ i h b. wiped i (omega (arith, h, count)) b;
      rest = λ i h. after i h ∙ p.rest i (omega (arith, h, count));
    }

-- One row is kept as the first, or none.
pub kept_same : (xs ys zs : List ℕ) (t n : ℕ) → t < n → ((j : ℕ) → j < 128 → get_or ys (64 + 128 * 0 + j) 0 ≡ get_or xs (64 + 128 * t + j) 0)
    → ((i : ℕ) → i < 64 + 128 * 0 → get_or ys i 0 ≡ get_or xs i 0) → ((i : ℕ) → 192 + 128 * 0 ≤ i → get_or ys i 0 ≡ get_or xs i 0)
    → ((i : ℕ) → i < 64 + 128 * 1 → get_or zs i 0 ≡ get_or ys i 0) → ((i : ℕ) → 64 + 128 * 1 ≤ i → i < 64 + 128 * n → get_or zs i 0 ≡ 0)
    → ((i : ℕ) → 64 + 128 * n ≤ i → get_or zs i 0 ≡ get_or ys i 0) → Kept xs zs (those (λ v. eqb v t) n) n
kept_same xs ys zs t n h row front rest before wiped after =
    subst (λ l. Kept xs zs l n) (sym (those_same t n h))
    (kept_from xs ys zs (t ∷ []) n 1 (closed_more xs xs [] t 0 refl (closed_none xs) ys (omega arith) row front rest) refl (omega arith) before wiped after)

pub kept_none : (xs zs : List ℕ) (t n : ℕ) → n ≤ t → ((i : ℕ) → i < 64 + 128 * 0 → get_or zs i 0 ≡ get_or xs i 0)
    → ((i : ℕ) → 64 + 128 * 0 ≤ i → i < 64 + 128 * n → get_or zs i 0 ≡ 0) → ((i : ℕ) → 64 + 128 * n ≤ i → get_or zs i 0 ≡ get_or xs i 0)
    → Kept xs zs (those (λ v. eqb v t) n) n
kept_none xs zs t n g before wiped after =
    subst (λ l. Kept xs zs l n) (sym (those_none t n g)) (kept_from xs xs zs [] n 0 (closed_none xs) refl (omega arith) before wiped after)

-- One row is dropped: those behind it move down.
module _ (t n : ℕ) (h : t < n) where
  abbrev others : List ℕ
  others = range_with_len 0 t ++ range_with_len (t + 1) (n - (t + 1))

  long : length others ≡ n - 1
  long = omega (arith, length-append (range_with_len 0 t) (range_with_len (t + 1) (n - (t + 1))), length-range_with_len 0 t, length-range_with_len (t + 1) (n - (t + 1)))

  pub length_others : length (those (λ v. not (eqb v t)) n) ≡ n - 1
  length_others = ap length (those_others t n h) ∙ long

  early : (u : ℕ) → u < t → get_or others u 0 ≡ u
  early u l =
      get_or_append_left (range_with_len 0 t) (range_with_len (t + 1) (n - (t + 1))) 0 u (omega (arith, length-range_with_len 0 t))
      ∙ get_or-range_with_len 0 t u 0 l ∙ omega arith

  late : (u : ℕ) → t ≤ u → u < n - 1 → get_or others u 0 ≡ u + 1
  late u g l =
      get_or-append_right (range_with_len 0 t) (range_with_len (t + 1) (n - (t + 1))) t u 0 (length-range_with_len 0 t) g
      ∙ get_or-range_with_len (t + 1) (n - (t + 1)) (u - t) 0 (omega arith) ∙ omega arith

  module _ (xs ys zs : List ℕ) (front : (i : ℕ) → i < 64 + 128 * t → get_or ys i 0 ≡ get_or xs i 0)
      (moved : (i : ℕ) → 64 + 128 * t ≤ i → i + 128 < 64 + 128 * n → get_or ys i 0 ≡ get_or xs (i + 128) 0)
      (rest : (i : ℕ) → 64 + 128 * n ≤ i → get_or ys i 0 ≡ get_or xs i 0)
      (before : (i : ℕ) → i < 64 + 128 * (n - 1) → get_or zs i 0 ≡ get_or ys i 0)
      (wiped : (i : ℕ) → 64 + 128 * (n - 1) ≤ i → i < 64 + 128 * n → get_or zs i 0 ≡ 0)
      (after : (i : ℕ) → 64 + 128 * n ≤ i → get_or zs i 0 ≡ get_or ys i 0) where
    at : (u j : ℕ) → u < n - 1 → j < 128 → (u < t) ⊎ (t ≤ u) → get_or zs (64 + 128 * u + j) 0 ≡ get_or xs (64 + 128 * get_or others u 0 + j) 0
    at u j l b (inl k) =
        before (64 + 128 * u + j) (omega arith) ∙ front (64 + 128 * u + j) (omega arith)
        ∙ ap (λ v. get_or xs (64 + 128 * v + j) 0) (sym (early u k))
    at u j l b (inr g) =
        before (64 + 128 * u + j) (omega arith) ∙ moved (64 + 128 * u + j) (omega arith) (omega arith) ∙ ap (λ i. get_or xs i 0) (omega arith)
        ∙ ap (λ v. get_or xs (64 + 128 * v + j) 0) (sym (late u g l))

    pub kept_others : Kept xs zs (those (λ v. not (eqb v t)) n) n
    kept_others =
        subst (λ l. Kept xs zs l n) (sym (those_others t n h)) (record {
          marks = λ i l. before i (omega arith) ∙ front i (omega arith);
          rows = λ u j l b. at u j (omega (arith, l, long)) b (cases_lt u t);
          wiped = λ i l b. wiped i (omega (arith, l, long)) b;
          rest = λ i l. after i l ∙ rest i l;
        })

-- All rows are kept as they are.
pub kept_all_rows : (xs : List ℕ) (n : ℕ) → Kept xs xs (range_with_len 0 n) n
kept_all_rows xs n =
    record {
      marks = λ i h. refl;
      rows = λ u j h b. ap (λ v. get_or xs (64 + 128 * v + j) 0) (sym (get_or-range_with_len 0 n u 0 (omega (arith, h, length-range_with_len 0 n)) ∙ omega arith));
      wiped = λ i h b. absurd (omega (arith, h, length-range_with_len 0 n));
      rest = λ i h. refl;
    }

-- The end: the sheet of a tidy net whose rows are kept is that of its marks and these rows.
module _ (xs ys l : List ℕ) (n : ℕ) (p : Kept xs ys l n) (tidied : Tidied xs n) where
  past : (i : ℕ) → 64 + 128 * length l ≤ i → get_or ys i 0 ≡ 0
  past i g = go (cases_lt i (64 + 128 * n))
    where
      go : (i < 64 + 128 * n) ⊎ (64 + 128 * n ≤ i) → get_or ys i 0 ≡ 0
      go (inl h) = p.wiped i g h
      go (inr h) = p.rest i h ∙ tidied.unused i h

  pub kept_tidy : (m : ℕ) → length l ≤ m → Tidied ys m
  kept_tidy m few = record { unused = λ i h. past i (omega arith); weights = λ i h. go i h (cases_lt i (64 + 128 * length l)) }
    where
      go : (i : ℕ) → 64 ≤ i → (i < 64 + 128 * length l) ⊎ (64 + 128 * length l ≤ i) → get_or ys i 0 ≤ 65535
      go i h (inl k) =
          let e : i ≡ 64 + 128 * ((i - 64) / 128) + (i - 64) % 128 = omega arith in
          omega (
            arith,
            ap (λ z. get_or ys z 0) e,
            p.rows ((i - 64) / 128) ((i - 64) % 128) (omega arith) (omega arith),
            tidied.weights (64 + 128 * get_or l ((i - 64) / 128) 0 + (i - 64) % 128) (omega arith),
          )
      go i h (inr g) = omega (arith, past i g)

  pub kept_all : length ys ≡ 12352 → ys ≡ sheet_of (mark_at xs) (map (row_at xs) l)
  kept_all whole = sheet_from ys (mark_at xs) (map (row_at xs) l) whole marked rowed (λ i h b. past i (omega (arith, h, count)))
    where
      count : length (map (row_at xs) l) ≡ length l
      count = length-map l (row_at xs)

      marked : (q : ℕ) → q < 64 → get_or ys q 0 ≡ mark_at xs q
      marked q h = p.marks q h ∙ rw (lt-ltb q 64 h) (ap (λ z. get_or xs z 0) (omega arith))

      rowed : (t j : ℕ) → t < length (map (row_at xs) l) → j < 128 → get_or ys (64 + 128 * t + j) 0 ≡ number (get_or (map (row_at xs) l) t no_row) j
      rowed t j h b =
          p.rows t j (omega (arith, h, count)) b ∙ row_numbers xs (get_or l t 0) j b
          ∙ ap (λ (r : Row). number r j) (sym (get_or-map (row_at xs) l t 0 no_row (omega (arith, h, count))))

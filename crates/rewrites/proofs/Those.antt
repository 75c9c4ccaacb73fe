-- The numbers of which a test holds, one by one.
use Rattle.std.proofs.Common.{◌≡◌, ℕ, zero, suc, ◌+◌, ◌-◌, ◌<◌, ◌≤◌, Bool, true, false, cond, not, eqb, List, [], ◌∷◌, ◌++◌, length, get_or, filter, refl, ap, ◌∙◌, arith}
use Rattle.std.proofs.lemmas.Bool.{ne_eqb, eq-eqb}
use Rattle.std.proofs.lemmas.List.Elements.{filter-append}
use Rattle.std.specs.List.{range_with_len}
use Rattle.theory.specs.Tests.{those}

-- A range in two parts.
ranges : (a m n b : ℕ) → b ≡ a + m → range_with_len a (m + n) ≡ range_with_len a m ++ range_with_len b n
ranges a zero n b e = ap (range_with_len a) (omega arith) ∙ ap (λ c. range_with_len c n) (omega arith)
ranges a (suc m) n b e =
    let more : suc m + n ≡ suc (m + n) = omega arith in
    ap (range_with_len a) more ∙ ap (λ l. a ∷ l) (ranges (a + 1) m n b (omega arith))

module _ (keep : ℕ → Bool) where
  -- Such a number of a range is within it, and not before its place among them.
  filter_at : (n a k d : ℕ) → k < length (filter keep (range_with_len a n))
      → (a + k ≤ get_or (filter keep (range_with_len a n)) k d) × (get_or (filter keep (range_with_len a n)) k d < a + n) × (keep (get_or (filter keep (range_with_len a n)) k d) ≡ true)
  filter_at zero a k d h = absurd (omega arith)
  filter_at (suc n) a k d h = go (filter_at n (a + 1)) (keep a) refl k h
    where
      rest : List ℕ
      rest = filter keep (range_with_len (a + 1) n)

      go : ((k d : ℕ) → k < length rest → (a + 1 + k ≤ get_or rest k d) × (get_or rest k d < a + 1 + n) × (keep (get_or rest k d) ≡ true))
          → (b : Bool) → keep a ≡ b → (k : ℕ) → k < length (cond b (a ∷ rest) rest)
          → (a + k ≤ get_or (cond b (a ∷ rest) rest) k d) × (get_or (cond b (a ∷ rest) rest) k d < a + suc n) × (keep (get_or (cond b (a ∷ rest) rest) k d) ≡ true)
      go more true e zero l = (omega arith, omega arith, e)
      go more true e (suc j) l = let x = more j d (omega arith) in (omega (arith, x.0), omega (arith, x.1), x.2)
      go more false e j l = let x = more j d l in (omega (arith, x.0), omega (arith, x.1), x.2)

  pub those_at : (n k d : ℕ) → k < length (those keep n)
      → (k ≤ get_or (those keep n) k d) × (get_or (those keep n) k d < n) × (keep (get_or (those keep n) k d) ≡ true)
  those_at n k d h = let x = filter_at n 0 k d h in (omega (arith, x.0), omega (arith, x.1), x.2)

  -- One number more.
  pub those_more : (n : ℕ) → those keep (n + 1) ≡ those keep n ++ cond (keep n) (n ∷ []) []
  those_more n = ap (filter keep) (ranges 0 n 1 n (omega arith)) ∙ filter-append keep (range_with_len 0 n) (n ∷ [])

  -- Where the test holds everywhere, and where nowhere.
  all_of : (n a : ℕ) → ((v : ℕ) → a ≤ v → v < a + n → keep v ≡ true) → filter keep (range_with_len a n) ≡ range_with_len a n
  all_of zero a h = refl
  all_of (suc n) a h =
      ap (λ (b : Bool). cond b (a ∷ filter keep (range_with_len (a + 1) n)) (filter keep (range_with_len (a + 1) n))) (h a (omega arith) (omega arith))
      ∙ ap (λ (l : List ℕ). a ∷ l) (all_of n (a + 1) (λ v p q. h v (omega arith) (omega arith)))

  none_of : (n a : ℕ) → ((v : ℕ) → a ≤ v → v < a + n → keep v ≡ false) → filter keep (range_with_len a n) ≡ []
  none_of zero a h = refl
  none_of (suc n) a h =
      ap (λ (b : Bool). cond b (a ∷ filter keep (range_with_len (a + 1) n)) (filter keep (range_with_len (a + 1) n))) (h a (omega arith) (omega arith))
      ∙ none_of n (a + 1) (λ v p q. h v (omega arith) (omega arith))

-- All numbers but one, and this one alone.
module _ (t n : ℕ) where
  module _ (h : t < n) where
    abbrev behind : List ℕ
    behind = range_with_len (t + 1) (n - (t + 1))

    apart : range_with_len 0 n ≡ range_with_len 0 t ++ t ∷ behind
    apart = ap (range_with_len 0) (omega arith) ∙ ranges 0 t (suc (n - (t + 1))) t (omega arith)

    pub those_others : those (λ v. not (eqb v t)) n ≡ range_with_len 0 t ++ behind
    those_others =
        ap (filter (λ v. not (eqb v t))) apart ∙ filter-append (λ v. not (eqb v t)) (range_with_len 0 t) (t ∷ behind)
        ∙ (λ i. front i ++ rest i)
      where
        front : filter (λ v. not (eqb v t)) (range_with_len 0 t) ≡ range_with_len 0 t
        front = all_of (λ v. not (eqb v t)) t 0 (λ v _ l. ap not (ne_eqb v t (λ e. absurd (omega arith))))

        rest : filter (λ v. not (eqb v t)) (t ∷ behind) ≡ behind
        rest =
            ap (λ (b : Bool). cond b (t ∷ filter (λ v. not (eqb v t)) behind) (filter (λ v. not (eqb v t)) behind)) (ap not (eq-eqb t t refl))
            ∙ all_of (λ v. not (eqb v t)) (n - (t + 1)) (t + 1) (λ v g _. ap not (ne_eqb v t (λ e. absurd (omega arith))))

    pub those_same : those (λ v. eqb v t) n ≡ t ∷ []
    those_same =
        ap (filter (λ v. eqb v t)) apart ∙ filter-append (λ v. eqb v t) (range_with_len 0 t) (t ∷ behind) ∙ (λ i. front i ++ rest i)
      where
        front : filter (λ v. eqb v t) (range_with_len 0 t) ≡ []
        front = none_of (λ v. eqb v t) t 0 (λ v _ l. ne_eqb v t (λ e. absurd (omega arith)))

        rest : filter (λ v. eqb v t) (t ∷ behind) ≡ t ∷ []
        rest =
            ap (λ (b : Bool). cond b (t ∷ filter (λ v. eqb v t) behind) (filter (λ v. eqb v t) behind)) (eq-eqb t t refl)
            ∙ ap (λ (l : List ℕ). t ∷ l) (none_of (λ v. eqb v t) (n - (t + 1)) (t + 1) (λ v g _. ne_eqb v t (λ e. absurd (omega arith))))

  module _ (g : n ≤ t) where
    pub those_all : those (λ v. not (eqb v t)) n ≡ range_with_len 0 n
    those_all = all_of (λ v. not (eqb v t)) n 0 (λ v _ l. ap not (ne_eqb v t (λ e. absurd (omega arith))))

    pub those_none : those (λ v. eqb v t) n ≡ []
    those_none = none_of (λ v. eqb v t) n 0 (λ v _ l. ne_eqb v t (λ e. absurd (omega arith)))

-- Tests that compute, and what they say in words.
use Rattle.std.proofs.Common.{◌≡◌, ℕ, zero, suc, ◌+◌, ◌<◌, ◌≤◌, [], ◌∷◌, ◌++◌, Some, None, Bool, true, false, cond, not, ◌&&◌, ◌||◌, eqb, ltb, leb, ◌⊎◌, sym, refl, ap, ◌∙◌, inl, inr, zero-add, arith}
use Rattle.std.proofs.lemmas.Bool.{both_ways, cases_Bool, cases_eq, not-true, and_parts, and_from, or_cases, or_left, or_right, or_parts, leb-true, le-leb, ltb-true, lt-ltb, eqb-true, eq-eqb}
use Rattle.std.proofs.lemmas.List.Folds.{list_all-append, list_any-append, find-append}
use Rattle.std.specs.List.{range_with_len, list_all, list_any, find}
use Rattle.std.specs.Option.{option_or, unwrap_or}
use Rattle.theory.specs.Tests.{every, some, lowest, first, ◌⇒◌}

-- The test comes out true exactly when the statement holds.
abbrev pub Says : Bool → Type 0 → Type 0
Says b P = (b ≡ true → P) × (P → b ≡ true)

pub leb_says : (a b : ℕ) → Says (leb a b) (a ≤ b)
leb_says a b = (leb-true a b, le-leb a b)

pub ltb_says : (a b : ℕ) → Says (ltb a b) (a < b)
ltb_says a b = (ltb-true a b, lt-ltb a b)

pub eqb_says : (a b : ℕ) → Says (eqb a b) (a ≡ b)
eqb_says a b = (eqb-true a b, eq-eqb a b)

pub true_says : (b : Bool) → Says b (b ≡ true)
true_says b = (λ e. e, λ e. e)

pub not_says : {b : Bool} {P : Type 0} → Says b P → Says (not b) (P → ⊥)
not_says {b} s = (λ e p. both_ways b (not-true b e) (s.1 p), λ n. go b (λ e. n (s.0 e)))
  where
    go : (b : Bool) → (b ≡ true → ⊥) → not b ≡ true
    go true n = absurd (n refl)
    go false n = refl

pub and_says : {a b : Bool} {P Q : Type 0} → Says a P → Says b Q → Says (a && b) (P × Q)
and_says {a} {b} s t = (λ e. let k = and_parts a b e in (s.0 k.0, t.0 k.1), λ x. and_from a b (s.1 x.0) (t.1 x.1))

pub or_says : {a b : Bool} {P Q : Type 0} → Says a P → Says b Q → Says (a || b) (P ⊎ Q)
or_says {a} {b} {P} {Q} s t = (λ e. go (or_cases a b e), back)
  where
    go : (a ≡ true) ⊎ (b ≡ true) → P ⊎ Q
    go (inl e) = inl (s.0 e)
    go (inr e) = inr (t.0 e)

    back : P ⊎ Q → (a || b) ≡ true
    back (inl x) = or_left a b (s.1 x)
    back (inr x) = or_right a b (t.1 x)

pub implies_says : {a b : Bool} {P Q : Type 0} → Says a P → Says b Q → Says (a ⇒ b) (P → Q)
implies_says {a} {b} {P} {Q} s t = (λ e p. t.0 (go a (s.1 p) e), λ f. back a refl f)
  where
    go : (x : Bool) → x ≡ true → (not x || b) ≡ true → b ≡ true
    go true h e = e
    go false h e = absurd (both_ways false refl h)

    back : (x : Bool) → a ≡ x → (P → Q) → (not x || b) ≡ true
    back true h f = t.1 (f (s.0 h))
    back false h f = refl

-- A test says what is said in other words.
pub restated : {b : Bool} {P Q : Type 0} → Says b P → (P → Q) → (Q → P) → Says b Q
restated s f g = (λ e. f (s.0 e), λ q. s.1 (g q))

-- Every number below `n`, some number and the lowest one: of none, and with one more number looked at.
pub every_zero : (f : ℕ → Bool) → every 0 f ≡ true
unfolding every
every_zero f = refl

pub some_zero : (f : ℕ → Bool) → some 0 f ≡ false
unfolding some
some_zero f = refl

range_end : (a n : ℕ) → range_with_len a (suc n) ≡ range_with_len a n ++ (a + n) ∷ []
range_end a zero = ap (λ z. z ∷ []) (omega arith)
range_end a (suc n) = ap (λ l. a ∷ l) (range_end (a + 1) n ∙ ap (λ z. range_with_len (a + 1) n ++ z ∷ []) (omega arith))

pub every_suc : (n : ℕ) (f : ℕ → Bool) → every (suc n) f ≡ (every n f && f n)
unfolding every
every_suc n f =
    ap (list_all f) (range_end 0 n) ∙ list_all-append f (range_with_len 0 n) ((0 + n) ∷ []) ∙ ap (λ b. list_all f (range_with_len 0 n) && b) (and_true (f (0 + n))) ∙ ap (λ k. list_all f (range_with_len 0 n) && f k) (zero-add n)
  where
    and_true : (b : Bool) → (b && true) ≡ b
    and_true true = refl
    and_true false = refl

pub some_suc : (n : ℕ) (f : ℕ → Bool) → some (suc n) f ≡ (some n f || f n)
unfolding some
some_suc n f =
    ap (list_any f) (range_end 0 n) ∙ list_any-append f (range_with_len 0 n) ((0 + n) ∷ []) ∙ ap (λ b. list_any f (range_with_len 0 n) || b) (or_false (f (0 + n))) ∙ ap (λ k. list_any f (range_with_len 0 n) || f k) (zero-add n)
  where
    or_false : (b : Bool) → (b || false) ≡ b
    or_false true = refl
    or_false false = refl

-- Every number below `n`, and some number below `n`.
pub lowest_suc : (n : ℕ) (f : ℕ → Bool) → lowest (suc n) f ≡ option_or (lowest n f) (cond (f n) (Some n) None)
unfolding lowest
lowest_suc n f =
    ap (find f) (range_end 0 n) ∙ find-append f (range_with_len 0 n) ((0 + n) ∷ [])
    ∙ ap (λ k. option_or (find f (range_with_len 0 n)) (cond (f k) (Some k) None)) (zero-add n)

pub lowest_none : (n : ℕ) (f : ℕ → Bool) → some n f ≡ false → lowest n f ≡ None
unfolding lowest
lowest_none zero f e = refl
lowest_none (suc n) f e =
    let k = or_parts (some n f) (f n) (sym (some_suc n f) ∙ e) in
    lowest_suc n f ∙ ap (λ o. option_or o (cond (f n) (Some n) None)) (lowest_none n f k.0) ∙ ap (λ b. cond b (Some n) None) k.1

pub every_at : (n : ℕ) (f : ℕ → Bool) → every n f ≡ true → (i : ℕ) → i < n → f i ≡ true
every_at zero f e i h = absurd (omega arith)
every_at (suc n) f e i h = go (every_at n f (and_parts (every n f) (f n) (sym (every_suc n f) ∙ e)).0 i) (cases_eq i n)
  where
    go : (i < n → f i ≡ true) → (i ≡ n) ⊎ (i ≡ n → ⊥) → f i ≡ true
    go below (inl k) = ap f k ∙ (and_parts (every n f) (f n) (sym (every_suc n f) ∙ e)).1
    go below (inr k) = below (omega arith)

pub every_from : (n : ℕ) (f : ℕ → Bool) → ((i : ℕ) → i < n → f i ≡ true) → every n f ≡ true
every_from zero f h = every_zero f
every_from (suc n) f h = every_suc n f ∙ and_from (every n f) (f n) (every_from n f (λ i l. h i (omega arith))) (h n (omega arith))

pub every_says : (n : ℕ) (f : ℕ → Bool) (P : ℕ → Type 0) → ((i : ℕ) → i < n → Says (f i) (P i)) → Says (every n f) ((i : ℕ) → i < n → P i)
every_says n f P s = (λ e i h. (s i h).0 (every_at n f e i h), λ k. every_from n f (λ i h. (s i h).1 (k i h)))

pub some_at : (n : ℕ) (f : ℕ → Bool) → some n f ≡ true → (i : ℕ) × (i < n) × (f i ≡ true)
some_at zero f e = absurd (both_ways false refl (sym (some_zero f) ∙ e))
some_at (suc n) f e = go (some_at n f) (or_cases (some n f) (f n) (sym (some_suc n f) ∙ e))
  where
    go : (some n f ≡ true → (i : ℕ) × (i < n) × (f i ≡ true)) → (some n f ≡ true) ⊎ (f n ≡ true) → (i : ℕ) × (i < suc n) × (f i ≡ true)
    go below (inl k) = let x = below k in (x.0, omega (arith, x.1), x.2)
    go below (inr k) = (n, omega arith, k)

pub some_from : (n : ℕ) (f : ℕ → Bool) (i : ℕ) → i < n → f i ≡ true → some n f ≡ true
some_from zero f i h e = absurd (omega arith)
some_from (suc n) f i h e = some_suc n f ∙ go (some_from n f i) (cases_eq i n)
  where
    go : (i < n → f i ≡ true → some n f ≡ true) → (i ≡ n) ⊎ (i ≡ n → ⊥) → (some n f || f n) ≡ true
    go below (inl k) = or_right (some n f) (f n) (ap f (sym k) ∙ e)
    go below (inr k) = or_left (some n f) (f n) (below (omega arith) e)

pub some_says : (n : ℕ) (f : ℕ → Bool) (P : ℕ → Type 0) → ((i : ℕ) → i < n → Says (f i) (P i)) → Says (some n f) ((i : ℕ) × (i < n) × P i)
some_says n f P s =
    (λ e. let x = some_at n f e in (x.0, x.1, (s x.0 x.1).0 x.2), λ x. some_from n f x.0 x.1 ((s x.0 x.1).1 x.2))

-- The lowest number of which a test holds.
pub lowest_some : (n : ℕ) (f : ℕ → Bool) → some n f ≡ true → (i : ℕ) × (lowest n f ≡ Some i) × (i < n) × (f i ≡ true)
lowest_some zero f e = absurd (both_ways false refl (sym (some_zero f) ∙ e))
lowest_some (suc n) f e = go (lowest_some n f) (cases_Bool (some n f)) (cases_Bool (f n))
  where
    go : (some n f ≡ true → (i : ℕ) × (lowest n f ≡ Some i) × (i < n) × (f i ≡ true)) → (some n f ≡ true) ⊎ (some n f ≡ false) → (f n ≡ true) ⊎ (f n ≡ false)
        → (i : ℕ) × (lowest (suc n) f ≡ Some i) × (i < suc n) × (f i ≡ true)
    go below (inl k) m = let x = below k in (x.0, lowest_suc n f ∙ ap (λ o. option_or o (cond (f n) (Some n) None)) x.1, omega (arith, x.2), x.3)
    go below (inr k) (inl m) =
        (n, lowest_suc n f ∙ ap (λ o. option_or o (cond (f n) (Some n) None)) (lowest_none n f k) ∙ ap (λ b. cond b (Some n) None) m, omega arith, m)
    go below (inr k) (inr m) = absurd (both_ways (some n f || f n) (ap (λ b. b || f n) k ∙ m) (sym (some_suc n f) ∙ e))

pub first_holds : (n : ℕ) (f : ℕ → Bool) → some n f ≡ true → (first n f < n) × (f (first n f) ≡ true)
first_holds n f e =
    let x = lowest_some n f e in
    let i : first n f ≡ x.0 = ap (λ o. unwrap_or o n) x.1 in
    (omega (arith, i, x.2), ap f i ∙ x.3)

pub first_below : (n : ℕ) (f : ℕ → Bool) → first n f < n → some n f ≡ true
first_below n f h = go (cases_Bool (some n f))
  where
    go : (some n f ≡ true) ⊎ (some n f ≡ false) → some n f ≡ true
    go (inl k) = k
    go (inr k) = let i : first n f ≡ n = ap (λ o. unwrap_or o n) (lowest_none n f k) in absurd (omega (arith, i, h))

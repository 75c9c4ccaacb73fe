-- Places that are taken out of a sheet one after the other.
use Rattle.std.proofs.Common.{◌≡◌, ℕ, ◌+◌, ◌*◌, ◌<◌, ◌≤◌, Bool, true, false, ◌||◌, cond, not, eqb, leb, ◌⊎◌, List, get_or, sym, refl, ap, ◌∙◌, inl, inr, arith}
use Rattle.std.proofs.lemmas.Bool.{cases_eq, cases_lt, le-leb, lt-leb, eq-eqb, ne_eqb, or_left, or_right, or_from}
use Rattle.rewrites.specs.Rows.{Limited}

-- The places that stay, and those from `p` on, which were not looked at yet.
abbrev pub left : List Bool → ℕ → ℕ → Bool
left stays p q = get_or stays q false || leb p q

or_no : (b c : Bool) → c ≡ false → (b || c) ≡ b
or_no true c e = refl
or_no false c e = e

-- Only `p` is looked at between `p` and the next.
left_on : (stays : List Bool) (p q : ℕ) → (q ≡ p → ⊥) → left stays p q ≡ left stays (p + 1) q
left_on stays p q n = ap (λ b. get_or stays q false || b) (go (cases_lt q p))
  where
    go : (q < p) ⊎ (p ≤ q) → leb p q ≡ leb (p + 1) q
    go (inl l) = lt-leb p q l ∙ sym (lt-leb (p + 1) q (omega arith))
    go (inr g) = le-leb p q g ∙ sym (le-leb (p + 1) q (omega arith))

left_kept : (stays : List Bool) (p q : ℕ) → get_or stays p false ≡ true → left stays p q ≡ left stays (p + 1) q
left_kept stays p q h = go (cases_eq q p)
  where
    go : (q ≡ p) ⊎ (q ≡ p → ⊥) → left stays p q ≡ left stays (p + 1) q
    go (inl e) =
        let s : get_or stays q false ≡ true = ap (λ j. get_or stays j false) e ∙ h in
        or_left (get_or stays q false) (leb p q) s ∙ sym (or_left (get_or stays q false) (leb (p + 1) q) s)
    go (inr n) = left_on stays p q n

left_gone : (stays : List Bool) (p q v : ℕ) → get_or stays p false ≡ false → cond (not (eqb q p)) (cond (left stays p q) v 0) 0 ≡ cond (left stays (p + 1) q) v 0
left_gone stays p q v h = go (cases_eq q p)
  where
    go : (q ≡ p) ⊎ (q ≡ p → ⊥) → cond (not (eqb q p)) (cond (left stays p q) v 0) 0 ≡ cond (left stays (p + 1) q) v 0
    go (inl e) =
        let s : left stays (p + 1) q ≡ false = or_from (get_or stays q false) (leb (p + 1) q) (ap (λ j. get_or stays j false) e ∙ h) (lt-leb (p + 1) q (omega arith)) in
        rw (eq-eqb q p e) (sym (ap (λ b. cond b v 0) s))
    go (inr n) = rw (ne_eqb q p n) (ap (λ b. cond b v 0) (left_on stays p q n))

module _ (stays : List Bool) (m : ℕ) where
  -- Before any place is looked at.
  pub left_none : (xs : List ℕ) (p : ℕ) → p ≡ 0 → Limited xs xs (left stays p) m
  left_none xs p e =
      record {
        parts = λ k q h l. ap (λ b. cond b (get_or xs (64 * k + q) 0) 0) (sym (or_right (get_or stays q false) (leb p q) (le-leb p q (omega arith))));
        rest = λ i h. refl;
      }

  -- A place that stays, and one that goes.
  pub left_skip : (xs ys : List ℕ) (p r : ℕ) → r ≡ p + 1 → get_or stays p false ≡ true → Limited xs ys (left stays p) m → Limited xs ys (left stays r) m
  left_skip xs ys p r e h x =
      record {
        parts = λ k q a l. x.parts k q a l ∙ ap (λ b. cond b (get_or xs (64 * k + q) 0) 0) (left_kept stays p q h ∙ ap (λ j. left stays j q) (sym e));
        rest = x.rest;
      }

  pub left_clear : (xs ys zs : List ℕ) (p r : ℕ) → r ≡ p + 1 → get_or stays p false ≡ false → Limited xs ys (left stays p) m → Limited ys zs (λ q. not (eqb q p)) m
      → Limited xs zs (left stays r) m
  left_clear xs ys zs p r e h x y =
      record {
        parts =
            λ k q a l.
            y.parts k q a l ∙ ap (λ w. cond (not (eqb q p)) w 0) (x.parts k q a l) ∙ left_gone stays p q (get_or xs (64 * k + q) 0) h
            ∙ ap (λ j. cond (left stays j q) (get_or xs (64 * k + q) 0) 0) (sym e);
        rest = λ i a. y.rest i a ∙ x.rest i a;
      }

  -- After the last place.
  pub left_all : (xs ys : List ℕ) (p : ℕ) → 64 ≤ p → Limited xs ys (left stays p) m → Limited xs ys (λ q. get_or stays q false) m
  left_all xs ys p e x =
      record {
        parts = λ k q a l. x.parts k q a l ∙ ap (λ b. cond b (get_or xs (64 * k + q) 0) 0) (or_no (get_or stays q false) (leb p q) (lt-leb p q (omega arith)));
        rest = x.rest;
      }

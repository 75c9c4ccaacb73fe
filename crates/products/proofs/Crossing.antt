-- The products of feeders and consumers, feeder by feeder, of lists alone.
use Rattle.std.proofs.Common.{take, get_or, add-one, ◌≡◌, ℕ, zero, suc, ◌+◌, ◌*◌, ◌<◌, ◌≤◌, Bool, true, false, cond, List, [], ◌∷◌, ◌++◌, map, length, sym, ap, ◌∙◌, append_assoc, append-nil, mul-le-mul_right, suc-mul, zero-mul, arith, length-append}
use Rattle.std.proofs.lemmas.List.{length-map, map-append}
use Rattle.std.proofs.lemmas.Simd.{map-map}
use Rattle.std.specs.Int.{from_bool}
use Rattle.std.proofs.Math.Seq.{take-suc}
use Rattle.net.specs.Sheets.{Row, row_at}
use Rattle.net.specs.States.{State}
use Rattle.theory.specs.Tests.{those, feeders, consumers}
use Rattle.theory.specs.Rewrites.{kept_rows, crossed, merging}
use Rattle.std.proofs.lemmas.Nat.{mul-le}
use Rattle.rewrites.proofs.Those.{those_more}
use Rattle.products.specs.Products.{numbers, apart?}

-- The numbers of which a test holds.
module _ (keep : ℕ → Bool) where
  one : (b : Bool) (n : ℕ) → length (cond b (n ∷ []) []) ≤ 1
  one true n = omega arith
  one false n = omega arith

  pub at_most : (n : ℕ) → length (those keep n) ≤ n
  at_most zero = omega arith
  at_most (suc n) =
      omega (
        arith,
        at_most n,
        ap (λ k. length (those keep k)) (sym (add-one n)),
        ap length (those_more keep n),
        length-append (those keep n) (cond (keep n) (n ∷ []) []),
        one (keep n) n,
      )

  one_kept : (n : ℕ) → keep n ≡ true → those keep (n + 1) ≡ those keep n ++ n ∷ []
  one_kept n e = those_more keep n ∙ ap (λ (b : Bool). those keep n ++ cond b (n ∷ []) []) e

  one_left : (n : ℕ) → keep n ≡ false → those keep (n + 1) ≡ those keep n
  one_left n e = those_more keep n ∙ ap (λ (b : Bool). those keep n ++ cond b (n ∷ []) []) e ∙ append-nil (those keep n)

  -- How many they are, with one number more.
  pub counted_more : (n k x : ℕ) (b : Bool) → (k ≡ length (those keep n)) × (k ≤ n) → x ≡ from_bool b → b ≡ keep n
      → (k + x ≡ length (those keep (n + 1))) × (k + x ≤ n + 1)
  counted_more n k x true h e d =
      (omega (arith, h.0, e, ap length (one_kept n (sym d)), length-append (those keep n) (n ∷ [])), omega (arith, h.1, e))
  counted_more n k x false h e d = (omega (arith, h.0, e, ap length (one_left n (sym d))), omega (arith, h.1, e))

-- One more number of a list is taken.
pub more_taken : (xs : List ℕ) (i : ℕ) → i < length xs → take (i + 1) xs ≡ take i xs ++ get_or xs i 0 ∷ []
more_taken xs i h = ap (λ n. take n xs) (add-one i) ∙ take-suc xs i 0 h

-- One more feeder.
crossed_push : (f : ℕ → ℕ → Row) (hs : List ℕ) (h : ℕ) (gs : List ℕ) → crossed f (hs ++ h ∷ []) gs ≡ crossed f hs gs ++ map (f h) gs
crossed_push f [] h gs = append-nil (map (f h) gs)
crossed_push f (x ∷ xs) h gs =
    ap (λ l. map (f x) gs ++ l) (crossed_push f xs h gs) ∙ sym (append_assoc (map (f x) gs) (crossed f xs gs) (map (f h) gs))

pub length_crossed : (f : ℕ → ℕ → Row) (hs gs : List ℕ) → length (crossed f hs gs) ≡ length hs * length gs
length_crossed f [] gs = sym (zero-mul (length gs))
length_crossed f (x ∷ xs) gs =
    omega (arith, length-append (map (f x) gs) (crossed f xs gs), length-map gs (f x), length_crossed f xs gs, suc-mul (length xs) (length gs))

-- The numbers of their rows: room for those of one more feeder, and with them.
module _ (f : ℕ → ℕ → Row) (gs hs : List ℕ) (h : ℕ) where
  pub crossed_room : (n room : ℕ) → length hs < n → n * length gs ≤ room → length (map numbers (crossed f hs gs)) + length gs ≤ room
  crossed_room n room l most =
      omega (arith, length-map (crossed f hs gs) numbers, length_crossed f hs gs, mul-le-mul_right (length gs) l, suc-mul (length hs) (length gs))

  pub crossed_more : map numbers (crossed f hs gs) ++ map (λ g. numbers (f h g)) gs ≡ map numbers (crossed f (hs ++ h ∷ []) gs)
  crossed_more =
      ap (λ l. map numbers (crossed f hs gs) ++ l) (sym (map-map numbers (f h) gs)) ∙ sym (map-append numbers (crossed f hs gs) (map (f h) gs))
      ∙ ap (map numbers) (sym (crossed_push f hs h gs))

-- As many pairs as this at most.
pub few_pairs : (a b : ℕ) → a ≤ 96 → b ≤ 96 → a * b ≤ 9216
few_pairs a b l m = mul-le a b 96 96 l m

-- The number of transitions after an agglomeration.
pub merged_count : (product : ℕ → ℕ → Row) (p : ℕ) (s : State) (a b : ℕ) → a ≡ length (those (apart? s p) s.transitions)
    → b ≡ length (feeders s p) * length (consumers s p) → a + b ≡ (merging product p s).transitions
merged_count product p s a b e f = omega (arith, whole, rest, length_crossed product (feeders s p) (consumers s p))
  where
    whole : (merging product p s).transitions ≡ length (kept_rows (apart? s p) s) + length (crossed product (feeders s p) (consumers s p))
    whole = length-append (kept_rows (apart? s p) s) (crossed product (feeders s p) (consumers s p))

    rest : length (kept_rows (apart? s p) s) ≡ length (those (apart? s p) s.transitions)
    rest = length-map (those (apart? s p) s.transitions) (row_at s.sheet)

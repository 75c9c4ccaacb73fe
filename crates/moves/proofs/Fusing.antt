-- Two places are fused: the numbers of one are added to those of the other, and then it goes.
use Rattle.std.proofs.Common.{◌≡◌, ℕ, zero, suc, ◌+◌, ◌-◌, ◌*◌, ◌/◌, ◌%◌, ◌<◌, ◌≤◌, Bool, true, false, cond, ◌&&◌, eqb, leb, ◌≢◌, ◌⊎◌, List, ◌∷◌, map, length, get_or, set, Ok, Result, sym, refl, ap, subst, ◌∙◌, inl, inr, arith}
use mathlib.Core.Path.{fun_ext}
use Rattle.std.specs.List.{range_with_len}
use Rattle.std.proofs.lemmas.Bool.{and_parts, eqb-true, leb-true, cases_eq, cases_lt, lt-ltb, eq-eqb, ne_eqb, cond-true, cond-false}
use Rattle.std.specs.Result.{IfOk}
use Rattle.std.proofs.lemmas.Result.{IfOk-at_ok}
use Rattle.net.specs.declared.net.NetFault.{NetFault}
use Rattle.net.specs.Looks.{measured, sheet_checks, place_checks}
use Rattle.net.proofs.Tables.{passing}
use Rattle.net.specs.Refusals.{judged, Passes}
use Rattle.net.specs.Sheets.{Row, row_at, rows_in, part, most_weight}
use Rattle.net.specs.States.{State, stands, mark, take, put, left, Answered, said}
use Rattle.net.specs.Tidy.{Tidied, Tidy}
use Rattle.theory.specs.Nexts.{off, fuse}
use Rattle.theory.specs.Rewrites.{rewritten, off_row, leaving, fuse_row, fusing}
use Rattle.theory.specs.Steps.{in_limits?, table, fuse_places}
use Rattle.theory.specs.Tests.{carries?, fusion_fits?}
use Rattle.theory.proofs.Bounds.{fusion_in_limits}
use Rattle.theory.proofs.Meaning.{part_past, take_below, put_below}
use Rattle.theory.proofs.Places.{off_there, at_each}
use Rattle.theory.proofs.Says.{every_at}
use Rattle.moves.specs.Columns.{SumsFit, Added}

-- A number of a part.
part_is : (xs : List ℕ) (base i p : ℕ) → p < 64 → i ≡ base + p → get_or xs i 0 ≡ part xs base p
part_is xs base i p h e = ap (λ j. get_or xs j 0) e ∙ sym (rw (lt-ltb p 64 h))

-- Where the fusion is within its limits, every sum fits.
module _ (s : State) (p q : ℕ) (a : p < 64) (b : q < 64) (fits : fusion_fits? s p q ≡ true) where
  halves : (leb (mark s p + mark s q) 4294967295 ≡ true) × ((t : ℕ) → t < s.transitions
      → (leb (take s t p + take s t q) most_weight && leb (put s t p + put s t q) most_weight) ≡ true)
  halves = let x = and_parts _ _ fits in (x.0, every_at s.transitions _ x.1)

  weights : (t : ℕ) → t < s.transitions → (take s t p + take s t q ≤ 65535) × (put s t p + put s t q ≤ 65535)
  weights t l = let x = and_parts _ _ (halves.1 t l) in (leb-true _ _ x.0, leb-true _ _ x.1)

  sum : (k base : ℕ) → base ≡ 64 * k
      → get_or s.sheet (64 * k + p) 0 + get_or s.sheet (64 * k + q) 0 ≡ part s.sheet base p + part s.sheet base q
  sum k base e =
      omega (arith, part_is s.sheet base (64 * k + p) p a (omega arith), part_is s.sheet base (64 * k + q) q b (omega arith))

  weight_sum : (k : ℕ) → k < 2 * s.transitions → get_or s.sheet (64 * suc k + p) 0 + get_or s.sheet (64 * suc k + q) 0 ≤ 65535
  weight_sum k l = go (cases_lt (k % 2) 1)
    where
      t : ℕ
      t = k / 2

      go : (k % 2 < 1) ⊎ (1 ≤ k % 2) → get_or s.sheet (64 * suc k + p) 0 + get_or s.sheet (64 * suc k + q) 0 ≤ 65535
      go (inl h) = let e = sum (suc k) (64 + 128 * t) (omega arith) in omega (arith, e, (weights t (omega arith)).0)
      go (inr h) = let e = sum (suc k) (128 + 128 * t) (omega arith) in omega (arith, e, (weights t (omega arith)).1)

  pub sums_fit : SumsFit s.sheet s.transitions p q
  sums_fit zero l = omega (arith, sum 0 0 refl, leb-true (mark s p + mark s q) 4294967295 halves.0)
  sums_fit (suc k) l = omega (arith, weight_sum k (omega arith))

  -- The sheet stays tidy when they are added.
  module _ (ys : List ℕ) (x : Added s.sheet ys (1 + 2 * s.transitions) p q) (y : Tidied s.sheet s.transitions) where
    number_is : (i : ℕ) → (64 * (i / 64) + p ≡ i) × (i < 64 + 128 * s.transitions) ⊎ (get_or ys i 0 ≡ get_or s.sheet i 0)
    number_is i = go (cases_eq (i % 64) p) (cases_lt (i / 64) (1 + 2 * s.transitions))
      where
        at : (r : ℕ) → i % 64 ≡ r → 64 * (i / 64) + r ≡ i
        at r e = omega arith

        go : (i % 64 ≡ p) ⊎ (i % 64 ≡ p → ⊥) → (i / 64 < 1 + 2 * s.transitions) ⊎ (1 + 2 * s.transitions ≤ i / 64)
            → (64 * (i / 64) + p ≡ i) × (i < 64 + 128 * s.transitions) ⊎ (get_or ys i 0 ≡ get_or s.sheet i 0)
        go (inl e) (inl l) = inl (at p e, omega arith)
        go (inl e) (inr l) = inr (subst (λ j. get_or ys j 0 ≡ get_or s.sheet j 0) (at p e) (x.later (i / 64) l))
        go (inr e) l = inr (subst (λ j. get_or ys j 0 ≡ get_or s.sheet j 0) (at (i % 64) refl) (x.others (i / 64) (i % 64) (omega arith) e))

    added_weight : (i : ℕ) → 64 ≤ i → get_or ys i 0 ≤ 65535
    added_weight i h = go (number_is i)
      where
        go : (64 * (i / 64) + p ≡ i) × (i < 64 + 128 * s.transitions) ⊎ (get_or ys i 0 ≡ get_or s.sheet i 0) → get_or ys i 0 ≤ 65535
        go (inl e) =
            let k : ℕ = i / 64 - 1 in
            let here : 64 * suc k + p ≡ i = omega (arith, e.0) in
            let small : get_or ys (64 * suc k + p) 0 ≤ 65535 = omega (arith, x.sums (suc k) (omega (arith, e.1)), weight_sum k (omega (arith, e.1))) in
            subst (λ j. get_or ys j 0 ≤ 65535) here small
        go (inr e) = omega (arith, e, y.weights i h)

    added_unused : (i : ℕ) → 64 + 128 * s.transitions ≤ i → get_or ys i 0 ≡ 0
    added_unused i h = go (number_is i)
      where
        go : (64 * (i / 64) + p ≡ i) × (i < 64 + 128 * s.transitions) ⊎ (get_or ys i 0 ≡ get_or s.sheet i 0) → get_or ys i 0 ≡ 0
        go (inl e) = absurd (omega arith)
        go (inr e) = e ∙ y.unused i h

    added_tidied : Tidied ys s.transitions
    added_tidied = record { unused = added_unused; weights = added_weight }

  pub added_tidy : (ys : List ℕ) (r : Result Unit NetFault) → length ys ≡ length s.sheet → r ≡ measured s.sheet
      → IfOk r (λ _. Added s.sheet ys (1 + 2 * s.transitions) p q) → Tidy s.sheet s.transitions → Tidy ys s.transitions
  added_tidy ys r same e x y size =
      let h : length s.sheet ≡ 12352 = sym same ∙ size in
      added_tidied ys (IfOk-at_ok _ (e ∙ passing (sheet_checks s) tt (eq-eqb (length s.sheet) 12352 h, tt)) x) (y h)

-- The last line of the table asks whether all numbers are within their limits before the fusion, and the sums.
module _ (s : State) (p q a b : ℕ) (few : s.transitions ≤ 96) where
  below : (carries? s a p q && carries? s b q p) ≡ true → (p < 64) × (q < 64)
  below h =
      let x = and_parts (eqb (take s a p) 1) _ (and_parts (carries? s a p q) (carries? s b q p) h).0 in
      let y = and_parts (eqb (put s a q) 1) _ x.1 in (
        take_below s a p (omega (arith, eqb-true (take s a p) 1 x.0)),
        put_below s a q (omega (arith, eqb-true (put s a q) 1 y.0)),
      )

  pub fusion_limits : (carries? s a p q && carries? s b q p) ≡ true → (c : Bool) → c ≡ (in_limits? s && fusion_fits? s p q) → in_limits? (fusing p q s) ≡ c
  fusion_limits h c e = let x = below h in fusion_in_limits s p q x.0 x.1 few ∙ sym e

  -- So the sums are where the whole table passes.
  pub fusion_passed : Passes (table s (fuse_places p q a b)) → fusion_fits? s p q ≡ true
  fusion_passed lines =
      let x = below lines.1.1.1.1.0 in
      (and_parts (in_limits? s) (fusion_fits? s p q) (sym (fusion_in_limits s p q x.0 x.1 few) ∙ lines.1.1.1.1.1.0)).1

-- Rows that are changed alike, one by one.
rows_alike : (f g : ℕ → Row) (c d : Row → Row) (n a : ℕ) → ((t : ℕ) → a ≤ t → t < a + n → c (f t) ≡ d (g t))
    → map c (map f (range_with_len a n)) ≡ map d (map g (range_with_len a n))
rows_alike f g c d zero a h = refl
rows_alike f g c d (suc n) a h =
    ap (λ (r : Row). r ∷ map c (map f (range_with_len (a + 1) n))) (h a (omega arith) (omega arith))
    ∙ ap (λ (rs : List Row). d (g a) ∷ rs) (rows_alike f g c d n (a + 1) (λ t l m. h t (omega arith) (omega arith)))

module _ (s : State) (ys : List ℕ) (p q : ℕ) (a : p < 64) (b : q < 64) (differ : p ≢ q)
    (x : Added s.sheet ys (1 + 2 * s.transitions) p q) where
  -- The state with the numbers of `q` added to those of `p`.
  abbrev added : State
  added = record { sheet = ys; transitions = s.transitions; standing = s.standing; support = s.support; question = s.question }

  column : (k base : ℕ) → base ≡ 64 * k → k < 1 + 2 * s.transitions → off q (part ys base) ≡ fuse p q (part s.sheet base)
  column k base e l = fun_ext (at_each p (λ r. off q (part ys base) r ≡ fuse p q (part s.sheet base) r) here there)
    where
      here : off q (part ys base) p ≡ fuse p q (part s.sheet base) p
      here =
          off_there q p (part ys base) differ
          ∙ omega (
            arith,
            part_is ys base (64 * k + p) p a (omega arith),
            part_is s.sheet base (64 * k + p) p a (omega arith),
            part_is s.sheet base (64 * k + q) q b (omega arith),
            x.sums k l,
          )
          ∙ sym (cond-true (eqb p p) (part s.sheet base p + part s.sheet base q) (off q (part s.sheet base) p) (eq-eqb p p refl))

      same : (r : ℕ) → r ≢ p → (r < 64) ⊎ (64 ≤ r) → part ys base r ≡ part s.sheet base r
      same r n (inl h) =
          sym (part_is ys base (64 * k + r) r h (omega arith)) ∙ x.others k r h n ∙ part_is s.sheet base (64 * k + r) r h (omega arith)
      same r n (inr g) = part_past ys base r g ∙ sym (part_past s.sheet base r g)

      there : (r : ℕ) → r ≢ p → off q (part ys base) r ≡ fuse p q (part s.sheet base) r
      there r n =
          ap (λ z. cond (eqb r q) 0 z) (same r n (cases_lt r 64))
          ∙ sym (cond-false (eqb r p) (part s.sheet base p + part s.sheet base q) (off q (part s.sheet base) r) (ne_eqb r p n))

  row : (t : ℕ) → t < s.transitions → off_row q (row_at ys t) ≡ fuse_row p q (row_at s.sheet t)
  row t h = λ i. record {
    takes = column (1 + 2 * t) (64 + 128 * t) (omega arith) (omega arith) i;
    puts = column (2 + 2 * t) (128 + 128 * t) (omega arith) (omega arith) i;
  }

  pub left_fused : leaving q added ≡ fusing p q s
  left_fused =
      ap (λ (m : ℕ → ℕ). rewritten s m (map (off_row q) (rows_in ys s.transitions)) (set s.standing q false)) (column 0 0 refl (omega arith))
      ∙ ap (λ (rs : List Row). rewritten s (fuse p q (mark s)) rs (set s.standing q false))
      (rows_alike (row_at ys) (row_at s.sheet) (off_row q) (fuse_row p q) s.transitions 0 (λ t _ h. row t (omega arith)))

  -- The place goes, since it stands.
  pub fused_net : (r : Result Unit NetFault) (t : State) → length ys ≡ 12352 → stands s q ≡ true
      → Answered r t added (judged (place_checks added q) (leaving q added)) → (r ≡ Ok tt) × (t ≡ fusing p q s)
  fused_net r t size h k = (k.answer ∙ ap said whole, k.state ∙ ap (left added) whole ∙ left_fused)
    where
      whole : judged (place_checks added q) (leaving q added) ≡ Ok (leaving q added)
      whole = passing (place_checks added q) (leaving q added) (eq-eqb (length ys) 12352 size, (h, tt))

-- The numbers that a step adds up and those that it leaves are within their limits exactly when all numbers of its next state are.
-- In a net with the qualities those that it leaves are.
use Rattle.std.proofs.Common.{◌≡◌, ℕ, ◌+◌, ◌*◌, ◌/◌, ◌<◌, ◌≤◌, Bool, true, ◌&&◌, eqb, ◌⊎◌, length, refl, ap, inl, inr, arith}
use Rattle.std.proofs.lemmas.Bool.{cases_eq, eq-eqb, ne_eqb, cond-false, cond_both, and_parts, and_from}
use Rattle.std.proofs.lemmas.Bool.Decides.{same_from_decides}
use Rattle.net.specs.Sheets.{Row, most_mark, most_weight}
use Rattle.net.specs.States.{State, mark, take, put}
use Rattle.net.specs.Qualities.{Qualities}
use Rattle.theory.specs.Nets.{Net, SameNet}
use Rattle.theory.specs.Nexts.{off, fuse, fused, fired, Feeder, Consumer, Untouched, Product, Merged, post, pre}
use Rattle.theory.specs.Tests.{mark_ahead, ahead_fits?, fusion_fits?, products_fit?, row_fits?, rows_fit?, rest_fits?}
use Rattle.theory.specs.Rewrites.{merged_rows, post_row, post_merging, pre_row, pre_merging, firing_ahead, fusing}
use Rattle.theory.specs.Steps.{in_limits?}
use Rattle.theory.specs.Laws.{net_of}
use Rattle.theory.specs.Words.{InLimits}
use Rattle.theory.proofs.Says.{Says, leb_says, ltb_says, not_says, and_says, implies_says, restated}
use Rattle.theory.proofs.Meaning.{place_says, trans_says, no_mark, no_take, no_put, in_limits_says}
use Rattle.theory.proofs.Kept.{Within, within_same}
use Rattle.theory.proofs.Rewriting.{off_zero, firing_ahead_net, fusing_net, post_merging_net, pre_merging_net}

-- It is the same of two nets that are the same but for names and order.
module _ (N N' : Net) (E : SameNet N N') where
  within_back : Within N' → Within N
  within_back w =
      record {
        marks = λ p. omega (arith, E.begins p, w.marks p);
        weights = λ t p. let x = E.there t in (omega (arith, x.1 p, w.weights x.0 p), omega (arith, x.1 p, w.weights x.0 p));
      }

pub limits_within : (s : State) → InLimits s → Within (net_of s)
limits_within s l = record { marks = l.marks; weights = λ t p. (l.takes t.0 p t.1, l.puts t.0 p t.1) }

within_limits : (s : State) → Within (net_of s) → InLimits s
within_limits s w = record { marks = w.marks; takes = λ t p a. (w.weights (t, a) p).0; puts = λ t p a. (w.weights (t, a) p).1 }

-- A test that says it of a net says it of the state that holds the net.
held_says : (b : Bool) (N : Net) (s : State) → SameNet N (net_of s) → Says b (Within N) → Says b (InLimits s)
held_says b N s E k =
    restated k (λ w. within_limits s (within_same N (net_of s) E w)) (λ l. within_back N (net_of s) E (limits_within s l))

-- The numbers that a step leaves as they are.
abbrev RowFits : State → ℕ → Type 0
RowFits s t = (p : ℕ) → (take s t p ≤ most_weight) × (put s t p ≤ most_weight)

row_fits_says : (s : State) (t : ℕ) → Says (row_fits? s t) (RowFits s t)
row_fits_says s t =
    place_says _ _ (λ p _. and_says (leb_says (take s t p) most_weight) (leb_says (put s t p) most_weight))
    (λ p g. (omega (arith, no_take s t p g), omega (arith, no_put s t p g)))

rows_fit_says : (s : State) → Says (rows_fit? s) ((t : (net_of s).Trans) → RowFits s t.0)
rows_fit_says s = trans_says s _ _ (λ t _. row_fits_says s t)

abbrev RestFits : State → ℕ → Type 0
RestFits s p =
    ((q : ℕ) → mark s q ≤ most_mark)
    × ((t : (net_of s).Trans) → (Feeder (net_of s) p t → ⊥) × (Consumer (net_of s) p t → ⊥) → RowFits s t.0)

rest_fits_says : (s : State) (p : ℕ) → Says (rest_fits? s p) (RestFits s p)
rest_fits_says s p =
    and_says (place_says _ (λ q. mark s q ≤ most_mark) (λ q _. leb_says (mark s q) most_mark) (λ q g. omega (arith, no_mark s q g)))
    (trans_says s _ (λ t. (Feeder (net_of s) p t → ⊥) × (Consumer (net_of s) p t → ⊥) → RowFits s t.0)
    (λ t _. implies_says (and_says (not_says (ltb_says 0 (put s t p))) (not_says (ltb_says 0 (take s t p)))) (row_fits_says s t)))

-- In a net with the qualities they fit, so that one half of a test says all.
module _ (s : State) (q : Qualities s) where
  rows_fit : rows_fit? s ≡ true
  rows_fit = (rows_fit_says s).1 (λ t p. (q.takes t.0 p, q.puts t.0 p))

  all_fit : in_limits? s ≡ true
  all_fit = (in_limits_says s).1 (record { marks = q.marks; takes = λ t p _. q.takes t p; puts = λ t p _. q.puts t p })

  rest_fits : (p : ℕ) → rest_fits? s p ≡ true
  rest_fits p = (rest_fits_says s p).1 (q.marks, λ t _ r. (q.takes t.0 r, q.puts t.0 r))

half_says : {a b : Bool} {P : Type 0} → Says (a && b) P → a ≡ true → Says b P
half_says {a} {b} k e = (λ h. k.0 (and_from a b e h), λ x. (and_parts a b (k.1 x)).1)

-- Firing ahead changes the marks alone.
ahead_rows_say : (s : State) (t k : ℕ) → t < s.transitions → s.transitions ≤ 96
    → Says (rows_fit? s && ahead_fits? s t k) (InLimits (firing_ahead t k s))
ahead_rows_say s t k a few =
    held_says (rows_fit? s && ahead_fits? s t k) (fired (net_of s) (t, a) k) (firing_ahead t k s) (firing_ahead_net s t k a few)
    (restated
    (and_says (rows_fit_says s)
    (place_says _ (λ p. mark_ahead s t k p ≤ most_mark) (λ p _. leb_says (mark_ahead s t k p) most_mark)
    (λ p g. omega (arith, no_mark s p g, ap (λ z. k * z) (no_put s t p g)))))
    (λ x. record { marks = x.1; weights = x.0 }) (λ w. (w.weights, w.marks)))

pub ahead_fits_says : (s : State) (t k : ℕ) → t < s.transitions → Qualities s → Says (ahead_fits? s t k) (InLimits (firing_ahead t k s))
ahead_fits_says s t k a q = half_says (ahead_rows_say s t k a q.few) (rows_fit s q)

pub ahead_in_limits : (s : State) (t k : ℕ) → t < s.transitions → s.transitions ≤ 96
    → in_limits? (firing_ahead t k s) ≡ (rows_fit? s && ahead_fits? s t k)
ahead_in_limits s t k a few = same_from_decides _ _ (in_limits_says (firing_ahead t k s)) (ahead_rows_say s t k a few)

-- Fusing adds up the numbers of two places.
fuse_below : (p q : ℕ) (f : ℕ → ℕ) (b r : ℕ) → f p + f q ≤ b → f r ≤ b → fuse p q f r ≤ b
fuse_below p q f b r h l =
    cond_both (eqb r p) (f p + f q) (off q f r) (λ z. z ≤ b) (λ _. h)
    (λ _. cond_both (eqb r q) 0 (f r) (λ z. z ≤ b) (λ _. omega arith) (λ _. l))

below_fuse : (p q : ℕ) (f : ℕ → ℕ) (b : ℕ) → fuse p q f p ≤ b → f p + f q ≤ b
below_fuse p q f b h = rw (eq-eqb p p refl) at h

left_below : (p q : ℕ) (f : ℕ → ℕ) (b r : ℕ) → f p + f q ≤ b → fuse p q f r ≤ b → f r ≤ b
left_below p q f b r h l = go (cases_eq r p) (cases_eq r q)
  where
    go : (r ≡ p) ⊎ (r ≡ p → ⊥) → (r ≡ q) ⊎ (r ≡ q → ⊥) → f r ≤ b
    go (inl e) y = omega (arith, ap f e)
    go (inr n) (inl e) = omega (arith, ap f e)
    go (inr n) (inr m) =
        omega (arith, cond-false (eqb r p) (f p + f q) (off q f r) (ne_eqb r p n), cond-false (eqb r q) 0 (f r) (ne_eqb r q m))

fusion_rows_say : (s : State) (p q : ℕ) → p < 64 → q < 64 → s.transitions ≤ 96
    → Says (in_limits? s && fusion_fits? s p q) (InLimits (fusing p q s))
fusion_rows_say s p q a b few =
    held_says (in_limits? s && fusion_fits? s p q) (fused p q (net_of s)) (fusing p q s) (fusing_net s p q a b few)
    (restated
    (and_says (in_limits_says s)
    (and_says (leb_says (mark s p + mark s q) most_mark)
    (trans_says s _ (λ t. SumsFit t.0)
    (λ t _. and_says (leb_says (take s t p + take s t q) most_weight) (leb_says (put s t p + put s t q) most_weight)))))
    (λ x. record {
      marks = λ r. fuse_below p q (mark s) most_mark r x.1.0 (x.0.marks r);
      weights = λ t r. (
        fuse_below p q (take s t.0) most_weight r (x.1.1 t).0 (x.0.takes t.0 r t.1),
        fuse_below p q (put s t.0) most_weight r (x.1.1 t).1 (x.0.puts t.0 r t.1),
      );
    })
    (λ w. (
      record {
        marks = λ r. left_below p q (mark s) most_mark r (marks w) (w.marks r);
        takes = λ t r c. left_below p q (take s t) most_weight r (sums w (t, c)).0 (w.weights (t, c) r).0;
        puts = λ t r c. left_below p q (put s t) most_weight r (sums w (t, c)).1 (w.weights (t, c) r).1;
      },
      (marks w, sums w),
    )))
  where
    SumsFit : ℕ → Type 0
    SumsFit t = (take s t p + take s t q ≤ most_weight) × (put s t p + put s t q ≤ most_weight)

    marks : Within (fused p q (net_of s)) → mark s p + mark s q ≤ most_mark
    marks w = below_fuse p q (mark s) most_mark (w.marks p)

    sums : Within (fused p q (net_of s)) → (t : (net_of s).Trans) → SumsFit t.0
    sums w t = (
      below_fuse p q (take s t.0) most_weight (w.weights t p).0,
      below_fuse p q (put s t.0) most_weight (w.weights t p).1,
    )

pub fusion_fits_says : (s : State) (p q : ℕ) → p < 64 → q < 64 → Qualities s → Says (fusion_fits? s p q) (InLimits (fusing p q s))
fusion_fits_says s p q a b k = half_says (fusion_rows_say s p q a b k.few) (all_fit s k)

pub fusion_in_limits : (s : State) (p q : ℕ) → p < 64 → q < 64 → s.transitions ≤ 96
    → in_limits? (fusing p q s) ≡ (in_limits? s && fusion_fits? s p q)
fusion_in_limits s p q a b few = same_from_decides _ _ (in_limits_says (fusing p q s)) (fusion_rows_say s p q a b few)

-- Agglomeration keeps rows, and adds a product for each feeder and consumer.
module _ (s : State) (p : ℕ) (product : ℕ → ℕ → Row) (takes puts : Merged (net_of s) p → ℕ → ℕ)
    (old : (t : Untouched (net_of s) p) (q : ℕ) → (takes (inl t) q ≡ take s t.0.0 q) × (puts (inl t) q ≡ put s t.0.0 q))
    (new : (x : Product (net_of s) p) (q : ℕ)
    → (takes (inr x) q ≡ (product x.0.0 x.1.0).takes q) × (puts (inr x) q ≡ (product x.0.0 x.1.0).puts q))
    (far : (h f q : ℕ) → 64 ≤ q → ((product h f).takes q ≡ 0) × ((product h f).puts q ≡ 0)) where
  abbrev Fit : ℕ → ℕ → ℕ → Type 0
  Fit h f q = ((product h f).takes q ≤ most_weight) × ((product h f).puts q ≤ most_weight)

  abbrev Fitting : Type 0
  Fitting = (h : (net_of s).Trans) → Feeder (net_of s) p h → (f : (net_of s).Trans) → Consumer (net_of s) p f → (q : ℕ) → Fit h.0 f.0 q

  fitting_says : Says (products_fit? s p product) Fitting
  fitting_says =
      trans_says s _ (λ h. Feeder (net_of s) p h → (f : (net_of s).Trans) → Consumer (net_of s) p f → (q : ℕ) → Fit h.0 f.0 q)
      (λ h _. implies_says (ltb_says 0 (put s h p))
      (trans_says s _ (λ f. Consumer (net_of s) p f → (q : ℕ) → Fit h f.0 q)
      (λ f _. implies_says (ltb_says 0 (take s f p))
      (place_says _ (Fit h f)
      (λ q _. and_says (leb_says ((product h f).takes q) most_weight) (leb_says ((product h f).puts q) most_weight))
      (λ q g. (omega (arith, far h f q g), omega (arith, far h f q g)))))))

  abbrev New : Net
  New = record { Trans = Merged (net_of s) p; take = takes; put = puts; start = mark s }

  new_weights : Fitting → RestFits s p → (t : Merged (net_of s) p) (q : ℕ) → (takes t q ≤ most_weight) × (puts t q ≤ most_weight)
  new_weights w v (inl t) q =
      (omega (arith, old t q, v.1 t.0 (t.1, t.2) q), omega (arith, old t q, v.1 t.0 (t.1, t.2) q))
  new_weights w v (inr x) q =
      (omega (arith, new x q, w x.0 x.2 x.1 x.3 q), omega (arith, new x q, w x.0 x.2 x.1 x.3 q))

  products_say : Says (rest_fits? s p && products_fit? s p product) (Within New)
  products_say =
      restated (and_says (rest_fits_says s p) fitting_says) (λ x. record { marks = x.0.0; weights = new_weights x.1 x.0 })
      (λ w. (
        (
          w.marks,
          λ t n q. (
            omega (arith, old (t, n.0, n.1) q, w.weights (inl (t, n.0, n.1)) q),
            omega (arith, old (t, n.0, n.1) q, w.weights (inl (t, n.0, n.1)) q),
          ),
        ),
        λ h i f c q. (
          omega (arith, new (h, f, i, c) q, w.weights (inr (h, f, i, c)) q),
          omega (arith, new (h, f, i, c) q, w.weights (inr (h, f, i, c)) q),
        ),
      ))

post_rows_say : (s : State) (p : ℕ) → length (merged_rows (post_row s p) p s) ≤ 96
    → Says (rest_fits? s p && products_fit? s p (post_row s p)) (InLimits (post_merging p s))
post_rows_say s p few =
    held_says (rest_fits? s p && products_fit? s p (post_row s p)) (post (net_of s) p) (post_merging p s) (post_merging_net s p few)
    (products_say s p (post_row s p) (post (net_of s) p).take (post (net_of s) p).put (λ t r. (refl, refl)) (λ x r. (refl, refl))
    (λ h f r g. (
      no_take s h r g,
      omega (arith, off_zero p r (put s h) (no_put s h r g), ap (λ z. put s h p / take s f p * z) (no_put s f r g)),
    )))

pub post_fits_says : (s : State) (p : ℕ) → Qualities s → length (merged_rows (post_row s p) p s) ≤ 96
    → Says (products_fit? s p (post_row s p)) (InLimits (post_merging p s))
post_fits_says s p q few = half_says (post_rows_say s p few) (rest_fits s q p)

pub post_in_limits : (s : State) (p : ℕ) → length (merged_rows (post_row s p) p s) ≤ 96
    → in_limits? (post_merging p s) ≡ (rest_fits? s p && products_fit? s p (post_row s p))
post_in_limits s p few = same_from_decides _ _ (in_limits_says (post_merging p s)) (post_rows_say s p few)

pre_rows_say : (s : State) (p : ℕ) → length (merged_rows (pre_row s p) p s) ≤ 96
    → Says (rest_fits? s p && products_fit? s p (pre_row s p)) (InLimits (pre_merging p s))
pre_rows_say s p few =
    held_says (rest_fits? s p && products_fit? s p (pre_row s p)) (pre (net_of s) p) (pre_merging p s) (pre_merging_net s p few)
    (products_say s p (pre_row s p) (pre (net_of s) p).take (pre (net_of s) p).put (λ t r. (refl, refl)) (λ x r. (refl, refl))
    (λ h f r g. (omega (arith, no_take s h r g, off_zero p r (take s f) (no_take s f r g)), no_put s f r g)))

pub pre_fits_says : (s : State) (p : ℕ) → Qualities s → length (merged_rows (pre_row s p) p s) ≤ 96
    → Says (products_fit? s p (pre_row s p)) (InLimits (pre_merging p s))
pre_fits_says s p q few = half_says (pre_rows_say s p few) (rest_fits s q p)

pub pre_in_limits : (s : State) (p : ℕ) → length (merged_rows (pre_row s p) p s) ≤ 96
    → in_limits? (pre_merging p s) ≡ (rest_fits? s p && products_fit? s p (pre_row s p))
pre_in_limits s p few = same_from_decides _ _ (in_limits_says (pre_merging p s)) (pre_rows_say s p few)

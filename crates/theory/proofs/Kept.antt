-- The next state of each step has the qualities of a net.
use Rattle.std.proofs.Common.{◌≡◌, ℕ, ◌+◌, ◌*◌, ◌/◌, ◌<◌, ◌≤◌, Bool, true, false, not, ◌&&◌, eqb, leb, ◌≢◌, ◌⊎◌, List, length, get_or, set, sym, refl, ap, ◌∙◌, subst, inl, inr, arith}
use Rattle.std.proofs.lemmas.Bool.{leb-true, cases_lt, cases_eq, both_ways, and_parts, and_from, and_cases, ne_eqb, cond-false, cond_both}
use Rattle.std.proofs.lemmas.List.{length-set, get_or-set_other}
use Rattle.std.proofs.lemmas.List.FromFn.{length-map-range_with_len, get_or-map-range_with_len}
use Rattle.net.specs.Sheets.{Row, most_mark, most_weight, part, sheet_of, cell}
use Rattle.net.specs.States.{State, stands, in_support, mark, take, put, rows}
use Rattle.net.specs.Qualities.{Qualities}
use Rattle.net.proofs.Writes.{length_by}
use Rattle.net.proofs.Keeps.{flag_below}
use Rattle.theory.specs.Nets.{Net, SameNet}
use Rattle.theory.specs.Nexts.{without, off, gone, fuse, fused, inside, limited, fired, Merged, post, pre}
use Rattle.theory.specs.Conditions.{TakesOutside, HoldsSupport, TwoSided, Unmarked}
use Rattle.theory.specs.Tests.{every_place, every_transition, takes_from?, outside}
use Rattle.theory.specs.Rewrites.{rewritten, kept_rows, keeping, off_row, leaving, in_row, flags_by, limiting, merged_rows, post_row, post_merging, pre_row, pre_merging, firing_ahead, fuse_row, fusing}
use Rattle.theory.specs.Steps.{in_limits?}
use Rattle.theory.specs.Laws.{net_of, Supports}
use Rattle.theory.proofs.Says.{Says, every_at}
use Rattle.theory.proofs.Places.{off_here}
use Rattle.theory.proofs.Post.{consumer_puts, feeder_takes}
use Rattle.theory.proofs.Listed.{past_in}
use Rattle.theory.proofs.Meaning.{part_past}
use Rattle.theory.proofs.Rewriting.{length_kept, length_kept_changed, length_rows, length_changed, off_zero, keeping_net, leaving_net, limiting_net, post_merging_net, pre_merging_net, firing_ahead_net, fusing_net}

-- Mark and weights are 0 at the places that do not stand.
pub record Vacant (N : Net) (standing : List Bool) : Type 0 where
  pub mark : (p : ℕ) → get_or standing p false ≡ false → N.start p ≡ 0
  pub weights : (t : N.Trans) (p : ℕ) → get_or standing p false ≡ false → (N.take t p ≡ 0) × (N.put t p ≡ 0)

-- Marks and weights are within their limits.
pub record Within (N : Net) : Type 0 where
  pub marks : (p : ℕ) → N.start p ≤ most_mark
  pub weights : (t : N.Trans) (p : ℕ) → (N.take t p ≤ most_weight) × (N.put t p ≤ most_weight)

-- Both pass to a net that is the same but for names and order.
module _ (N N' : Net) (E : SameNet N N') where
  vacant_same : (standing : List Bool) → Vacant N standing → Vacant N' standing
  vacant_same standing v =
      record {
        mark = λ p e. sym (E.begins p) ∙ v.mark p e;
        weights = λ t p e. let x = E.back t in let w = v.weights x.0 p e in (sym (x.1 p).0 ∙ w.0, sym (x.1 p).1 ∙ w.1);
      }

  pub within_same : Within N → Within N'
  within_same w =
      record {
        marks = λ p. omega (arith, E.begins p, w.marks p);
        weights = λ t p. let x = E.back t in (omega (arith, x.1 p, w.weights x.0 p), omega (arith, x.1 p, w.weights x.0 p));
      }

-- A state with other marks, rows and standing places has the qualities, if its net is vacant and within the limits.
module _ (s : State) (marks : ℕ → ℕ) (rs : List Row) (standing : List Bool) (few : length rs ≤ 96) (places : length standing ≡ 64)
    (supports : length s.support ≡ 64) (supported : (p : ℕ) → in_support s p ≡ true → get_or standing p false ≡ true)
    (vacant : Vacant (net_of (rewritten s marks rs standing)) standing) (within : Within (net_of (rewritten s marks rs standing))) where
  abbrev next : State
  next = rewritten s marks rs standing

  past : (base p : ℕ) → 64 + 128 * length rs ≤ base → part (sheet_of marks rs) base p ≡ 0
  past base p h =
      cond_both _ (get_or (sheet_of marks rs) (base + p) 0) 0 (λ z. z ≡ 0) (λ _. past_in marks rs few (base + p) (omega arith)) (λ _. refl)

  -- What holds of every transition's row, and of 0 past the last.
  each : (P : ℕ → ℕ → Type 0) → P 0 0 → (p : ℕ) → ((t : (net_of next).Trans) → P (take next t.0 p) (put next t.0 p)) → (t : ℕ) → P (take next t p) (put next t p)
  each P none p row t = go (cases_lt t (length rs))
    where
      go : (t < length rs) ⊎ (length rs ≤ t) → P (take next t p) (put next t p)
      go (inl l) = row (t, l)
      go (inr g) =
          subst (λ x. P x (put next t p)) (sym (past (64 + 128 * t) p (omega arith)))
          (subst (λ y. P 0 y) (sym (past (128 + 128 * t) p (omega arith))) none)

  pub rewritten_qualities : Qualities next
  rewritten_qualities =
      record {
        size = length_by (cell marks rs);
        few = few;
        places = places;
        supports = supports;
        supported = supported;
        gone_mark = vacant.mark;
        gone_take = λ t p e. each (λ x y. x ≡ 0) refl p (λ u. (vacant.weights u p e).0) t;
        gone_put = λ t p e. each (λ x y. y ≡ 0) refl p (λ u. (vacant.weights u p e).1) t;
        unused = past_in marks rs few;
        takes = λ t p. each (λ x y. x ≤ most_weight) (omega arith) p (λ u. (within.weights u p).0) t;
        puts = λ t p. each (λ x y. y ≤ most_weight) (omega arith) p (λ u. (within.weights u p).1) t;
        marks = within.marks;
      }

-- What a state with the qualities has, and what the test of the limits says.
held_vacant : (s : State) → Qualities s → Vacant (net_of s) s.standing
held_vacant s q = record { mark = q.gone_mark; weights = λ t p e. (q.gone_take t.0 p e, q.gone_put t.0 p e) }

pub held_within : (s : State) → Qualities s → Within (net_of s)
held_within s q = record { marks = q.marks; weights = λ t p. (q.takes t.0 p, q.puts t.0 p) }

limits_within : (s : State) → in_limits? s ≡ true → Within (net_of s)
limits_within s h = record { marks = λ p. marks p (cases_lt p 64); weights = λ t p. weights t p (cases_lt p 64) }
  where
    halves : (every_place (λ p. leb (mark s p) most_mark) ≡ true)
        × (every_transition s (λ t. every_place (λ p. leb (take s t p) most_weight && leb (put s t p) most_weight)) ≡ true)
    halves = and_parts _ _ h

    marks : (p : ℕ) → (p < 64) ⊎ (64 ≤ p) → mark s p ≤ most_mark
    marks p (inl l) = leb-true _ _ (every_at 64 _ halves.0 p l)
    marks p (inr g) = omega (arith, part_past s.sheet 0 p g)

    weights : (t : (net_of s).Trans) (p : ℕ) → (p < 64) ⊎ (64 ≤ p) → (take s t.0 p ≤ most_weight) × (put s t.0 p ≤ most_weight)
    weights t p (inl l) =
        let k = and_parts _ _ (every_at 64 _ (every_at s.transitions _ halves.1 t.0 t.1) p l) in
        (leb-true _ _ k.0, leb-true _ _ k.1)
    weights t p (inr g) = (omega (arith, part_past s.sheet (64 + 128 * t.0) p g), omega (arith, part_past s.sheet (128 + 128 * t.0) p g))

-- Transitions are dropped.
without_vacant : (N : Net) (D : N.Trans → Type 0) (standing : List Bool) → Vacant N standing → Vacant (without N D) standing
without_vacant N D standing v = record { mark = v.mark; weights = λ t. v.weights t.0 }

without_within : (N : Net) (D : N.Trans → Type 0) → Within N → Within (without N D)
without_within N D w = record { marks = w.marks; weights = λ t. w.weights t.0 }

pub keeping_qualities : (s : State) (keep : ℕ → Bool) → Qualities s → Qualities (keeping keep s)
keeping_qualities s keep q =
    rewritten_qualities s (mark s) (kept_rows keep s) s.standing (omega (arith, length_kept keep s, q.few)) q.places q.supports q.supported
    (vacant_same fewer (net_of (keeping keep s)) same s.standing (without_vacant (net_of s) Dropped s.standing (held_vacant s q)))
    (within_same fewer (net_of (keeping keep s)) same (without_within (net_of s) Dropped (held_within s q)))
  where
    Dropped : (net_of s).Trans → Type 0
    Dropped t = keep t.0 ≡ false

    fewer : Net
    fewer = without (net_of s) Dropped

    says : (b : Bool) → Says b (b ≡ false → ⊥)
    says true = (λ _ e. both_ways true e refl, λ _. refl)
    says false = (λ e _. both_ways false refl e, λ n. absurd (n refl))

    same : SameNet fewer (net_of (keeping keep s))
    same = keeping_net s keep Dropped (λ t. says (keep t.0)) q.few

-- The flags after one was cleared.
cleared : (fs : List Bool) (p r : ℕ) → get_or (set fs p false) r false ≡ false → (r ≡ p) ⊎ ((r ≢ p) × (get_or fs r false ≡ false))
cleared fs p r e = go (cases_eq r p)
  where
    go : (r ≡ p) ⊎ (r ≡ p → ⊥) → (r ≡ p) ⊎ ((r ≢ p) × (get_or fs r false ≡ false))
    go (inl k) = inl k
    go (inr n) = inr (n, sym (get_or-set_other fs p r false false n) ∙ e)

-- Place `p`, outside the support, goes.
module _ (s : State) (p : ℕ) (q : Qualities s) (unsupported : in_support s p ≡ false) where
  abbrev fewer_stand : List Bool
  fewer_stand = set s.standing p false

  fewer_places : length fewer_stand ≡ 64
  fewer_places = length-set s.standing p false ∙ q.places

  fewer_supported : (r : ℕ) → in_support s r ≡ true → get_or fewer_stand r false ≡ true
  fewer_supported r e =
      get_or-set_other s.standing p r false false (λ k. both_ways (in_support s p) unsupported (ap (in_support s) (sym k) ∙ e)) ∙ q.supported r e

  -- If the net has 0 at `p`, and 0 wherever the state has no place, it is vacant.
  fewer_vacant : (N : Net) → N.start p ≡ 0 → ((t : N.Trans) → (N.take t p ≡ 0) × (N.put t p ≡ 0))
      → ((r : ℕ) → r ≢ p → stands s r ≡ false → (N.start r ≡ 0) × ((t : N.Trans) → (N.take t r ≡ 0) × (N.put t r ≡ 0)))
      → Vacant N fewer_stand
  fewer_vacant N marked weighed others =
      record { mark = λ r e. (at r (cleared s.standing p r e)).0; weights = λ t r e. (at r (cleared s.standing p r e)).1 t }
    where
      at : (r : ℕ) → (r ≡ p) ⊎ ((r ≢ p) × (stands s r ≡ false)) → (N.start r ≡ 0) × ((t : N.Trans) → (N.take t r ≡ 0) × (N.put t r ≡ 0))
      at r (inl e) = subst (λ x. (N.start x ≡ 0) × ((t : N.Trans) → (N.take t x ≡ 0) × (N.put t x ≡ 0))) (sym e) (marked, weighed)
      at r (inr x) = others r x.0 x.1

  off_below : (f : ℕ → ℕ) (b r : ℕ) → f r ≤ b → off p f r ≤ b
  off_below f b r h = cond_both (eqb r p) 0 (f r) (λ z. z ≤ b) (λ _. omega arith) (λ _. h)

  pub leaving_qualities : Qualities (leaving p s)
  leaving_qualities =
      rewritten_qualities s (off p (mark s)) _ fewer_stand (omega (arith, length_changed (off_row p) s, q.few)) fewer_places q.supports fewer_supported
      (vacant_same (gone p (net_of s)) (net_of (leaving p s)) (leaving_net s p q.few) fewer_stand
      (fewer_vacant (gone p (net_of s)) (off_here p (mark s)) (λ t. (off_here p (take s t.0), off_here p (put s t.0)))
      (λ r n e. (
        off_zero p r (mark s) (q.gone_mark r e),
        λ t. (off_zero p r (take s t.0) (q.gone_take t.0 r e), off_zero p r (put s t.0) (q.gone_put t.0 r e)),
      ))))
      (within_same (gone p (net_of s)) (net_of (leaving p s)) (leaving_net s p q.few)
      (record {
        marks = λ r. off_below (mark s) most_mark r (q.marks r);
        weights = λ t r. (off_below (take s t.0) most_weight r (q.takes t.0 r), off_below (put s t.0) most_weight r (q.puts t.0 r));
      }))

  -- Agglomeration: no transition is both feeder and consumer, so the merged ones have 0 at `p`.
  module _ (T : TwoSided (net_of s) p) (unmarked : Unmarked (net_of s) p) where
    post_vacant : Vacant (post (net_of s) p) fewer_stand
    post_vacant = fewer_vacant (post (net_of s) p) unmarked here others
      where
        here : (t : Merged (net_of s) p) → ((post (net_of s) p).take t p ≡ 0) × ((post (net_of s) p).put t p ≡ 0)
        here (inl t) = let a = t.1 in let b = t.2 in (omega arith, omega arith)
        here (inr x) = (
          feeder_takes (net_of s) p T x.0 x.2,
          omega (arith, off_here p (put s x.0.0), ap (λ z. (put s x.0.0 p / take s x.1.0 p) * z) (consumer_puts (net_of s) p T x.1 x.3)),
        )

        elsewhere : (r : ℕ) → stands s r ≡ false → (t : Merged (net_of s) p) → ((post (net_of s) p).take t r ≡ 0) × ((post (net_of s) p).put t r ≡ 0)
        elsewhere r e (inl t) = (held_vacant s q).weights t.0 r e
        elsewhere r e (inr x) = (
          q.gone_take x.0.0 r e,
          omega (arith, off_zero p r (put s x.0.0) (q.gone_put x.0.0 r e), ap (λ z. (put s x.0.0 p / take s x.1.0 p) * z) (q.gone_put x.1.0 r e)),
        )

        others : (r : ℕ) → r ≢ p → stands s r ≡ false
            → (mark s r ≡ 0) × ((t : Merged (net_of s) p) → ((post (net_of s) p).take t r ≡ 0) × ((post (net_of s) p).put t r ≡ 0))
        others r n e = (q.gone_mark r e, elsewhere r e)

    pre_vacant : Vacant (pre (net_of s) p) fewer_stand
    pre_vacant = fewer_vacant (pre (net_of s) p) unmarked here others
      where
        here : (t : Merged (net_of s) p) → ((pre (net_of s) p).take t p ≡ 0) × ((pre (net_of s) p).put t p ≡ 0)
        here (inl t) = let a = t.1 in let b = t.2 in (omega arith, omega arith)
        here (inr x) = (
          omega (arith, feeder_takes (net_of s) p T x.0 x.2, off_here p (take s x.1.0)),
          consumer_puts (net_of s) p T x.1 x.3,
        )

        elsewhere : (r : ℕ) → stands s r ≡ false → (t : Merged (net_of s) p) → ((pre (net_of s) p).take t r ≡ 0) × ((pre (net_of s) p).put t r ≡ 0)
        elsewhere r e (inl t) = (held_vacant s q).weights t.0 r e
        elsewhere r e (inr x) = (
          omega (arith, q.gone_take x.0.0 r e, off_zero p r (take s x.1.0) (q.gone_take x.1.0 r e)),
          q.gone_put x.1.0 r e,
        )

        others : (r : ℕ) → r ≢ p → stands s r ≡ false
            → (mark s r ≡ 0) × ((t : Merged (net_of s) p) → ((pre (net_of s) p).take t r ≡ 0) × ((pre (net_of s) p).put t r ≡ 0))
        others r n e = (q.gone_mark r e, elsewhere r e)

    pub post_merging_qualities : length (merged_rows (post_row s p) p s) ≤ 96 → in_limits? (post_merging p s) ≡ true → Qualities (post_merging p s)
    post_merging_qualities few limits =
        rewritten_qualities s (mark s) (merged_rows (post_row s p) p s) fewer_stand few fewer_places q.supports fewer_supported
        (vacant_same (post (net_of s) p) (net_of (post_merging p s)) (post_merging_net s p few) fewer_stand post_vacant) (limits_within (post_merging p s) limits)

    pub pre_merging_qualities : length (merged_rows (pre_row s p) p s) ≤ 96 → in_limits? (pre_merging p s) ≡ true → Qualities (pre_merging p s)
    pre_merging_qualities few limits =
        rewritten_qualities s (mark s) (merged_rows (pre_row s p) p s) fewer_stand few fewer_places q.supports fewer_supported
        (vacant_same (pre (net_of s) p) (net_of (pre_merging p s)) (pre_merging_net s p few) fewer_stand pre_vacant) (limits_within (pre_merging p s) limits)

-- The start marking becomes that after `k` firings of `t`.
pub firing_ahead_qualities : (s : State) (t k : ℕ) → t < s.transitions → Qualities s → in_limits? (firing_ahead t k s) ≡ true → Qualities (firing_ahead t k s)
firing_ahead_qualities s t k a q limits =
    rewritten_qualities s _ (rows s) s.standing (omega (arith, length_rows s, q.few)) q.places q.supports q.supported
    (vacant_same (fired (net_of s) (t, a) k) (net_of (firing_ahead t k s)) (firing_ahead_net s t k a q.few) s.standing
    (record {
      mark = λ p e. omega (arith, q.gone_mark p e, ap (λ z. k * z) (q.gone_put t p e));
      weights = (held_vacant s q).weights;
    }))
    (limits_within (firing_ahead t k s) limits)

-- What takes from outside the set is dropped, and the places outside go.
length_flags : (f : ℕ → Bool) → length (flags_by f) ≡ 64
unfolding flags_by
length_flags f = length-map-range_with_len f 0 64

flag_by : (f : ℕ → Bool) (p : ℕ) → p < 64 → get_or (flags_by f) p false ≡ f p
unfolding flags_by
flag_by f p h = get_or-map-range_with_len f 0 64 p p false h (omega arith)

module _ (s : State) (z : ℕ → Bool) (q : Qualities s) (holds : HoldsSupport (Supports s) z) where
  abbrev inner : Net
  inner = limited z (without (net_of s) (TakesOutside (net_of s) z))

  abbrev both_stand : List Bool
  both_stand = flags_by (λ p. stands s p && z p)

  both_supported : (p : ℕ) → in_support s p ≡ true → get_or both_stand p false ≡ true
  both_supported p e =
      let k = q.supported p e in
      flag_by (λ r. stands s r && z r) p (omega (arith, flag_below s.standing p k, q.places)) ∙ and_from (stands s p) (z p) k (holds p e)

  inside_zero : (f : ℕ → ℕ) (p : ℕ) → (stands s p ≡ false → f p ≡ 0) → (64 ≤ p → f p ≡ 0) → get_or both_stand p false ≡ false → inside z f p ≡ 0
  inside_zero f p vacant far e = cond_both (z p) (f p) 0 (λ x. x ≡ 0) (λ i. go i (cases_lt p 64)) (λ _. refl)
    where
      go : z p ≡ true → (p < 64) ⊎ (64 ≤ p) → f p ≡ 0
      go i (inl l) = from (and_cases (stands s p) (z p) (sym (flag_by (λ r. stands s r && z r) p l) ∙ e))
        where
          from : (stands s p ≡ false) ⊎ (z p ≡ false) → f p ≡ 0
          from (inl k) = vacant k
          from (inr k) = absurd (both_ways (z p) k i)
      go i (inr g) = far g

  inside_below : (f : ℕ → ℕ) (b p : ℕ) → f p ≤ b → inside z f p ≤ b
  inside_below f b p h = cond_both (z p) (f p) 0 (λ x. x ≤ b) (λ _. h) (λ _. omega arith)

  pub limiting_qualities : Qualities (limiting z s)
  limiting_qualities =
      rewritten_qualities s (inside z (mark s)) _ both_stand
      (omega (arith, length_kept_changed (in_row z) (λ t. not (takes_from? s (outside z) t)) s, q.few)) (length_flags (λ p. stands s p && z p))
      q.supports both_supported
      (vacant_same inner (net_of (limiting z s)) (limiting_net s z q.few) both_stand
      (record {
        mark = λ p. inside_zero (mark s) p (q.gone_mark p) (part_past s.sheet 0 p);
        weights = λ t p e. (
          inside_zero (take s t.0.0) p (q.gone_take t.0.0 p) (part_past s.sheet (64 + 128 * t.0.0) p) e,
          inside_zero (put s t.0.0) p (q.gone_put t.0.0 p) (part_past s.sheet (128 + 128 * t.0.0) p) e,
        );
      }))
      (within_same inner (net_of (limiting z s)) (limiting_net s z q.few)
      (record {
        marks = λ p. inside_below (mark s) most_mark p (q.marks p);
        weights = λ t p.
            (inside_below (take s t.0.0) most_weight p (q.takes t.0.0 p), inside_below (put s t.0.0) most_weight p (q.puts t.0.0 p));
      }))

-- Weights and mark of `q` are added to those of `p`, and `q` goes.
module _ (s : State) (p q : ℕ) (kept : Qualities s) (differ : p ≢ q) (stands_p : stands s p ≡ true) (stands_q : stands s q ≡ true)
    (unsupported : in_support s q ≡ false) where
  below : (r : ℕ) → stands s r ≡ true → r < 64
  below r e = omega (arith, flag_below s.standing r e, kept.places)

  fuse_here : (f : ℕ → ℕ) → fuse p q f q ≡ 0
  fuse_here f = cond-false (eqb q p) (f p + f q) (off q f q) (ne_eqb q p (λ e. differ (sym e))) ∙ off_here q f

  fuse_there : (f : ℕ → ℕ) (r : ℕ) → stands s r ≡ false → f r ≡ 0 → fuse p q f r ≡ 0
  fuse_there f r e h =
      cond-false (eqb r p) (f p + f q) (off q f r) (ne_eqb r p (λ k. both_ways (stands s p) (ap (stands s) (sym k) ∙ e) stands_p)) ∙ off_zero q r f h

  pub fusing_qualities : in_limits? (fusing p q s) ≡ true → Qualities (fusing p q s)
  fusing_qualities limits =
      rewritten_qualities s (fuse p q (mark s)) _ (set s.standing q false) (omega (arith, length_changed (fuse_row p q) s, kept.few))
      (fewer_places s q kept unsupported) kept.supports (fewer_supported s q kept unsupported)
      (vacant_same (fused p q (net_of s)) (net_of (fusing p q s)) (fusing_net s p q (below p stands_p) (below q stands_q) kept.few) (set s.standing q false)
      (fewer_vacant s q kept unsupported (fused p q (net_of s)) (fuse_here (mark s)) (λ t. (fuse_here (take s t.0), fuse_here (put s t.0)))
      (λ r n e. (
        fuse_there (mark s) r e (kept.gone_mark r e),
        λ t. (fuse_there (take s t.0) r e (kept.gone_take t.0 r e), fuse_there (put s t.0) r e (kept.gone_put t.0 r e)),
      ))))
      (limits_within (fusing p q s) limits)

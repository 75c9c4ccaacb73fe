-- The next state of each step holds the step's own next net.
use Rattle.std.proofs.Common.{◌≡◌, ℕ, zero, suc, ◌+◌, ◌-◌, ◌*◌, ◌/◌, ◌<◌, ◌≤◌, Bool, true, false, cond, not, ◌&&◌, eqb, ◌≢◌, ◌⊎◌, List, [], ◌∷◌, map, length, filter, refl, ap, ◌∙◌, subst, inl, inr, le_refl, arith}
use native.Mathlib.Fin
use native.Mathlib.Decide.{Fin-discrete}
use mathlib.Core.List.Memᴰ
use mathlib.Core.List.{Memᴰ}
use Rattle.std.specs.List.{range_with_len}
use Rattle.std.proofs.lemmas.Bool.{both_ways, cases_Bool, cases_eq, ne_eqb, cond-false, cond_both}
use Rattle.std.proofs.lemmas.List.{length-map}
use Rattle.std.proofs.lemmas.List.FromFn.{length-range_with_len, length-map-range_with_len}
use Rattle.net.specs.Sheets.{Row, row_at}
use Rattle.net.specs.States.{State, mark, take, put, rows}
use Rattle.theory.specs.Nets.{Net, Finite, SameNet}
use Rattle.theory.specs.Nexts.{without, off, gone, fuse, fused, inside, limited, fired, Untouched, Product, Merged, post, pre}
use Rattle.theory.specs.Conditions.{TakesFrom, TakesOutside}
use Rattle.theory.specs.Tests.{those, takes_from?, outside, feeder?, consumer?, feeders, consumers}
use Rattle.theory.specs.Rewrites.{kept_rows, keeping, dropping, keeping_only, dropping_takers, off_row, leaving, in_row, limiting, crossed, merged_rows, post_row, post_merging, pre_row, pre_merging, firing_ahead, fuse_row, fusing}
use Rattle.theory.specs.Laws.{net_of}
use Rattle.theory.proofs.Says.{Says, restated, eqb_says, ltb_says, and_says, not_says}
use Rattle.theory.proofs.Meaning.{part_past, takes_from_says, takes_outside_says}
use Rattle.theory.proofs.Places.{off_here, off_there, at_each}
use Rattle.theory.proofs.Members.{in_counting, of_counting, in_those, of_those, in_crossed, of_crossed}
use Rattle.theory.proofs.Listed.{Narrow, Shows, Lists, listed_same}

-- A state has 0 past the 64 places.
pub state_narrow : (s : State) → Narrow (net_of s)
state_narrow s =
    record {
      start = λ p h. part_past s.sheet 0 p h;
      row = λ t p h. (part_past s.sheet (64 + 128 * t.0) p h, part_past s.sheet (128 + 128 * t.0) p h);
    }

-- Every state holds a finite net.
less : (n k : ℕ) → k < n → k ≤ n
less n k h = omega arith

firsts : (n k : ℕ) → k ≤ n → List ((t : ℕ) × (t < n))
firsts n zero h = []
firsts n (suc k) h = (k, h) ∷ firsts n k (less n k h)

in_firsts : (n k : ℕ) (h : k ≤ n) (t : (t : ℕ) × (t < n)) → t.0 < k → Memᴰ t (firsts n k h)
unfolding firsts
in_firsts n zero h t l = absurd (omega arith)
in_firsts n (suc k) h t l = go (in_firsts n k (less n k h) t) (cases_eq t.0 k)
  where
    go : (t.0 < k → Memᴰ t (firsts n k (less n k h))) → (t.0 ≡ k) ⊎ (t.0 ≡ k → ⊥) → Memᴰ t (firsts n (suc k) h)
    go below (inl e) = Memᴰ.head (Fin.val_path e)
    go below (inr d) = Memᴰ.tail (below (omega arith))

pub finite : (s : State) → Finite (net_of s)
finite s =
    record {
      same = Fin-discrete s.transitions;
      all = firsts s.transitions s.transitions (le_refl s.transitions);
      listed = λ t. in_firsts s.transitions s.transitions (le_refl s.transitions) t t.1;
      places = 64;
      beyond = (state_narrow s).row;
    }

-- How many rows there are.
length_kept_at_most : (keep : ℕ → Bool) (l : List ℕ) → length (filter keep l) ≤ length l
length_kept_at_most keep [] = omega arith
length_kept_at_most keep (x ∷ l) = go (cases_Bool (keep x)) (length_kept_at_most keep l)
  where
    go : (keep x ≡ true) ⊎ (keep x ≡ false) → length (filter keep l) ≤ length l → length (filter keep (x ∷ l)) ≤ suc (length l)
    go (inl e) h = rw e (omega arith)
    go (inr e) h = rw e (omega arith)

pub length_kept : (keep : ℕ → Bool) (s : State) → length (kept_rows keep s) ≤ s.transitions
length_kept keep s =
    rw (length-map (those keep s.transitions) (row_at s.sheet))
    (omega (arith, length_kept_at_most keep (range_with_len 0 s.transitions), length-range_with_len 0 s.transitions))

pub length_kept_changed : (f : Row → Row) (keep : ℕ → Bool) (s : State) → length (map f (kept_rows keep s)) ≤ s.transitions
length_kept_changed f keep s = rw (length-map (kept_rows keep s) f) (length_kept keep s)

pub length_rows : (s : State) → length (rows s) ≡ s.transitions
length_rows s = length-map-range_with_len (row_at s.sheet) 0 s.transitions

pub length_changed : (f : Row → Row) (s : State) → length (map f (rows s)) ≡ s.transitions
length_changed f s = length-map (rows s) f ∙ length_rows s

-- All rows, and the rows that are kept when the others are dropped.
row_shown : {r r' : Row} → r ≡ r' → (p : ℕ) → (r.takes p ≡ r'.takes p) × (r.puts p ≡ r'.puts p)
row_shown e p = (ap (λ (z : Row). z.takes p) e, ap (λ (z : Row). z.puts p) e)

pub all_lists : (s : State) → Lists (net_of s) (mark s) (rows s)
all_lists s =
    record {
      marked = λ p h. refl;
      each = λ t. (
        row_at s.sheet t.0,
        Memᴰ.map (row_at s.sheet) (in_counting 0 s.transitions t.0 (omega arith) (omega arith)),
        λ p h. (refl, refl),
      );
      every = λ r m. let x = Memᴰ.of_map (row_at s.sheet) (range_with_len 0 s.transitions) m in
          ((x.0, omega (arith, of_counting 0 s.transitions x.0 x.1)), λ p h. row_shown x.2 p);
    }

without_narrow : (N : Net) (D : N.Trans → Type 0) → Narrow N → Narrow (without N D)
without_narrow N D w = record { start = w.start; row = λ t p h. w.row t.0 p h }

module _ (s : State) (keep : ℕ → Bool) (D : (net_of s).Trans → Type 0) (says : (t : (net_of s).Trans) → Says (keep t.0) (D t → ⊥)) where
  kept_lists : Lists (without (net_of s) D) (mark s) (kept_rows keep s)
  kept_lists =
      record {
        marked = λ p h. refl;
        each = λ t. (
          row_at s.sheet t.0.0,
          Memᴰ.map (row_at s.sheet) (in_those keep s.transitions t.0.0 t.0.1 ((says t.0).1 t.1)),
          λ p h. (refl, refl),
        );
        every = λ r m. let x = Memᴰ.of_map (row_at s.sheet) (those keep s.transitions) m in
            let y = of_those keep s.transitions x.0 x.1 in
            (((x.0, y.0), (says (x.0, y.0)).0 y.1), λ p h. row_shown x.2 p);
      }

  pub keeping_net : s.transitions ≤ 96 → SameNet (without (net_of s) D) (net_of (keeping keep s))
  keeping_net few =
      listed_same (without (net_of s) D) s (mark s) (kept_rows keep s) s.standing (omega (arith, length_kept keep s))
      (without_narrow (net_of s) D (state_narrow s)) kept_lists

-- The tests of the dropped transitions say what the nets without them say.
is_says : (n t : ℕ) (a : t < n) (v : (v : ℕ) × (v < n)) → Says (eqb v.0 t) (v ≡ (t, a))
is_says n t a v = restated (eqb_says v.0 t) (λ e. Fin.val_path e) (λ e. ap (λ x. x.0) e)

twice : {b : Bool} {P : Type 0} → Says b P → Says b ((P → ⊥) → ⊥)
twice {b} {P} k = (λ e n. n (k.0 e), λ n. go n (cases_Bool b))
  where
    go : ((P → ⊥) → ⊥) → (b ≡ true) ⊎ (b ≡ false) → b ≡ true
    go n (inl e) = e
    go n (inr e) = absurd (n (λ x. both_ways b e (k.1 x)))

pub dropping_net : (s : State) (t : ℕ) (a : t < s.transitions) → s.transitions ≤ 96
    → SameNet (without (net_of s) (λ v. v ≡ (t, a))) (net_of (dropping t s))
dropping_net s t a =
    keeping_net s (λ v. not (eqb v t)) (λ v. v ≡ (t, a)) (λ v. not_says (is_says s.transitions t a v))

pub keeping_only_net : (s : State) (t : ℕ) (a : t < s.transitions) → s.transitions ≤ 96
    → SameNet (without (net_of s) (λ v. v ≢ (t, a))) (net_of (keeping_only t s))
keeping_only_net s t a = keeping_net s (λ v. eqb v t) (λ v. v ≢ (t, a)) (λ v. twice (is_says s.transitions t a v))

pub dropping_takers_net : (s : State) (z : ℕ → Bool) → s.transitions ≤ 96
    → SameNet (without (net_of s) (TakesFrom (net_of s) z)) (net_of (dropping_takers z s))
dropping_takers_net s z =
    keeping_net s (λ t. not (takes_from? s z t)) (TakesFrom (net_of s) z) (λ t. not_says (takes_from_says s z t.0 t.1))

-- Each row is changed alike: by `c`, which reads of a function only its numbers at the 64 places.
module _ (N : Net) (c : (ℕ → ℕ) → ℕ → ℕ) (reads : (f g : ℕ → ℕ) → ((q : ℕ) → q < 64 → f q ≡ g q) → (q : ℕ) → q < 64 → c f q ≡ c g q) where
  abbrev changed : Net
  changed = record { Trans = N.Trans; take = λ t. c (N.take t); put = λ t. c (N.put t); start = c N.start }

  abbrev change : Row → Row
  change r = record { takes = c r.takes; puts = c r.puts }

  change_shows : (t : N.Trans) (r : Row) → Shows N t r → Shows changed t (change r)
  change_shows t r h q l =
      (reads (N.take t) r.takes (λ p b. (h p b).0) q l, reads (N.put t) r.puts (λ p b. (h p b).1) q l)

  changed_lists : (marks : ℕ → ℕ) (rs : List Row) → Lists N marks rs → Lists changed (c marks) (map change rs)
  changed_lists marks rs l =
      record {
        marked = reads N.start marks l.marked;
        each = λ t. let x = l.each t in (change x.0, Memᴰ.map change x.1, change_shows t x.0 x.2);
        every = λ r m. let x = Memᴰ.of_map change rs m in let y = l.every x.0 x.1 in
            (y.0, subst (Shows changed y.0) x.2 (change_shows y.0 x.0 y.1));
      }

  changed_narrow : ((f : ℕ → ℕ) → ((q : ℕ) → 64 ≤ q → f q ≡ 0) → (q : ℕ) → 64 ≤ q → c f q ≡ 0) → Narrow N → Narrow changed
  changed_narrow keeps w =
      record {
        start = keeps N.start w.start;
        row = λ t q h. (keeps (N.take t) (λ p l. (w.row t p l).0) q h, keeps (N.put t) (λ p l. (w.row t p l).1) q h);
      }

-- The changes of the steps read and keep so.
pub off_zero : (p q : ℕ) (f : ℕ → ℕ) → f q ≡ 0 → off p f q ≡ 0
off_zero p q f e = at_each p (λ r. f r ≡ 0 → off p f r ≡ 0) (λ _. off_here p f) (λ r n z. off_there p r f n ∙ z) q e

off_reads : (p : ℕ) (f g : ℕ → ℕ) → ((q : ℕ) → q < 64 → f q ≡ g q) → (q : ℕ) → q < 64 → off p f q ≡ off p g q
off_reads p f g e q h = ap (λ z. cond (eqb q p) 0 z) (e q h)

off_keeps : (p : ℕ) (f : ℕ → ℕ) → ((q : ℕ) → 64 ≤ q → f q ≡ 0) → (q : ℕ) → 64 ≤ q → off p f q ≡ 0
off_keeps p f z q h = off_zero p q f (z q h)

inside_reads : (z : ℕ → Bool) (f g : ℕ → ℕ) → ((q : ℕ) → q < 64 → f q ≡ g q) → (q : ℕ) → q < 64 → inside z f q ≡ inside z g q
inside_reads z f g e q h = ap (λ x. cond (z q) x 0) (e q h)

inside_keeps : (z : ℕ → Bool) (f : ℕ → ℕ) → ((q : ℕ) → 64 ≤ q → f q ≡ 0) → (q : ℕ) → 64 ≤ q → inside z f q ≡ 0
inside_keeps z f e q h = cond_both (z q) (f q) 0 (λ x. x ≡ 0) (λ _. e q h) (λ _. refl)

fuse_reads : (p q : ℕ) → p < 64 → q < 64 → (f g : ℕ → ℕ) → ((r : ℕ) → r < 64 → f r ≡ g r) → (r : ℕ) → r < 64 → fuse p q f r ≡ fuse p q g r
fuse_reads p q a b f g e r h =
    ap (λ z. cond (eqb r p) z (off q f r)) (omega (arith, e p a, e q b)) ∙ ap (λ z. cond (eqb r p) (g p + g q) z) (off_reads q f g e r h)

fuse_keeps : (p q : ℕ) → p < 64 → (f : ℕ → ℕ) → ((r : ℕ) → 64 ≤ r → f r ≡ 0) → (r : ℕ) → 64 ≤ r → fuse p q f r ≡ 0
fuse_keeps p q a f e r h =
    cond-false (eqb r p) (f p + f q) (off q f r) (ne_eqb r p (λ x. omega arith)) ∙ off_keeps q f e r h

pub leaving_net : (s : State) (p : ℕ) → s.transitions ≤ 96 → SameNet (gone p (net_of s)) (net_of (leaving p s))
leaving_net s p few =
    listed_same (gone p (net_of s)) s (off p (mark s)) (map (off_row p) (rows s)) (leaving p s).standing
    (omega (arith, length_changed (off_row p) s)) (changed_narrow (net_of s) (off p) (off_reads p) (off_keeps p) (state_narrow s))
    (changed_lists (net_of s) (off p) (off_reads p) (mark s) (rows s) (all_lists s))

pub limiting_net : (s : State) (z : ℕ → Bool) → s.transitions ≤ 96
    → SameNet (limited z (without (net_of s) (TakesOutside (net_of s) z))) (net_of (limiting z s))
limiting_net s z few =
    listed_same (limited z fewer) s (inside z (mark s)) (map (in_row z) (kept_rows stays s)) (limiting z s).standing
    (omega (arith, length_kept_changed (in_row z) stays s))
    (changed_narrow fewer (inside z) (inside_reads z) (inside_keeps z) (without_narrow (net_of s) (TakesOutside (net_of s) z) (state_narrow s)))
    (changed_lists fewer (inside z) (inside_reads z) (mark s) (kept_rows stays s)
    (kept_lists s stays (TakesOutside (net_of s) z) (λ t. not_says (takes_outside_says s z t.0 t.1))))
  where
    fewer : Net
    fewer = without (net_of s) (TakesOutside (net_of s) z)

    stays : ℕ → Bool
    stays t = not (takes_from? s (outside z) t)

pub fusing_net : (s : State) (p q : ℕ) → p < 64 → q < 64 → s.transitions ≤ 96 → SameNet (fused p q (net_of s)) (net_of (fusing p q s))
fusing_net s p q a b few =
    listed_same (fused p q (net_of s)) s (fuse p q (mark s)) (map (fuse_row p q) (rows s)) (fusing p q s).standing
    (omega (arith, length_changed (fuse_row p q) s))
    (changed_narrow (net_of s) (fuse p q) (fuse_reads p q a b) (fuse_keeps p q a) (state_narrow s))
    (changed_lists (net_of s) (fuse p q) (fuse_reads p q a b) (mark s) (rows s) (all_lists s))

-- The start marking alone changes.
pub firing_ahead_net : (s : State) (t k : ℕ) (a : t < s.transitions) → s.transitions ≤ 96
    → SameNet (fired (net_of s) (t, a) k) (net_of (firing_ahead t k s))
firing_ahead_net s t k a few =
    let l = all_lists s in
    let w = state_narrow s in
    listed_same (fired (net_of s) (t, a) k) s (λ p. (mark s p - k * take s t p) + k * put s t p) (rows s) s.standing
    (omega (arith, length_rows s))
    (record {
      start = λ p h. omega (arith, w.start p h, ap (λ z. k * z) (w.row (t, a) p h).0, ap (λ z. k * z) (w.row (t, a) p h).1);
      row = w.row;
    })
    (record { marked = λ p h. refl; each = l.each; every = l.every })

-- The rows of an agglomeration, with `product h f` for feeder `h` and consumer `f`.
module _ (s : State) (p : ℕ) (product : ℕ → ℕ → Row) (takes puts : Merged (net_of s) p → ℕ → ℕ)
    (old : (t : Untouched (net_of s) p) (q : ℕ) → (takes (inl t) q ≡ take s t.0.0 q) × (puts (inl t) q ≡ put s t.0.0 q))
    (new : (x : Product (net_of s) p) (q : ℕ)
    → (takes (inr x) q ≡ (product x.0.0 x.1.0).takes q) × (puts (inr x) q ≡ (product x.0.0 x.1.0).puts q)) where
  abbrev New : Net
  New = record { Trans = Merged (net_of s) p; take = takes; put = puts; start = mark s }

  abbrev untouched : ℕ → Bool
  untouched t = not (feeder? s p t) && not (consumer? s p t)

  abbrev products : List Row
  products = crossed product (feeders s p) (consumers s p)

  untouched_says : (t : ℕ) → Says (untouched t) ((0 < put s t p → ⊥) × (0 < take s t p → ⊥))
  untouched_says t = and_says (not_says (ltb_says 0 (put s t p))) (not_says (ltb_says 0 (take s t p)))

  merged_each : (t : Merged (net_of s) p) → (r : Row) × Memᴰ r (merged_rows product p s) × Shows New t r
  merged_each (inl t) = (
    row_at s.sheet t.0.0,
    Memᴰ.append_left products
        (Memᴰ.map (row_at s.sheet) (in_those untouched s.transitions t.0.0 t.0.1 ((untouched_says t.0.0).1 (t.1, t.2)))),
    λ q h. old t q,
  )
  merged_each (inr x) = (
    product x.0.0 x.1.0,
    Memᴰ.append_right (kept_rows untouched s)
        (in_crossed product (in_those (feeder? s p) s.transitions x.0.0 x.0.1 ((ltb_says 0 (put s x.0.0 p)).1 x.2))
        (in_those (consumer? s p) s.transitions x.1.0 x.1.1 ((ltb_says 0 (take s x.1.0 p)).1 x.3))),
    λ q h. new x q,
  )

  merged_every : (r : Row) → Memᴰ r (merged_rows product p s) → (t : Merged (net_of s) p) × Shows New t r
  merged_every r m = go (Memᴰ.append_cases (kept_rows untouched s) m)
    where
      go : Memᴰ r (kept_rows untouched s) ⊎ Memᴰ r products → (t : Merged (net_of s) p) × Shows New t r
      go (inl i) =
          let x = Memᴰ.of_map (row_at s.sheet) (those untouched s.transitions) i in
          let y = of_those untouched s.transitions x.0 x.1 in
          let z = (untouched_says x.0).0 y.1 in
          let t : Untouched (net_of s) p = ((x.0, y.0), z.0, z.1) in
          (inl t, subst (Shows New (inl t)) x.2 (λ q h. old t q))
      go (inr i) =
          let x = of_crossed product (feeders s p) (consumers s p) i in
          let a = of_those (feeder? s p) s.transitions x.0 x.2 in
          let b = of_those (consumer? s p) s.transitions x.1 x.3 in
          let t : Product (net_of s) p =
          ((x.0, a.0), (x.1, b.0), (ltb_says 0 (put s x.0 p)).0 a.1, (ltb_says 0 (take s x.1 p)).0 b.1) in
          (inr t, subst (Shows New (inr t)) x.4 (λ q h. new t q))

  merged_lists : Lists New (mark s) (merged_rows product p s)
  merged_lists = record { marked = λ q h. refl; each = merged_each; every = merged_every }

post_narrow : (N : Net) (p : ℕ) → Narrow N → Narrow (post N p)
post_narrow N p w = record { start = w.start; row = row }
  where
    row : (t : Merged N p) (q : ℕ) → 64 ≤ q → ((post N p).take t q ≡ 0) × ((post N p).put t q ≡ 0)
    row (inl t) q h = w.row t.0 q h
    row (inr x) q h = (
      (w.row x.0 q h).0,
      omega (arith, off_zero p q (N.put x.0) (w.row x.0 q h).1, ap (λ z. N.put x.0 p / N.take x.1 p * z) (w.row x.1 q h).1),
    )

pre_narrow : (N : Net) (p : ℕ) → Narrow N → Narrow (pre N p)
pre_narrow N p w = record { start = w.start; row = row }
  where
    row : (t : Merged N p) (q : ℕ) → 64 ≤ q → ((pre N p).take t q ≡ 0) × ((pre N p).put t q ≡ 0)
    row (inl t) q h = w.row t.0 q h
    row (inr x) q h =
        (omega (arith, (w.row x.0 q h).0, off_zero p q (N.take x.1) (w.row x.1 q h).0), (w.row x.1 q h).1)

pub post_merging_net : (s : State) (p : ℕ) → length (merged_rows (post_row s p) p s) ≤ 96 → SameNet (post (net_of s) p) (net_of (post_merging p s))
post_merging_net s p few =
    listed_same (post (net_of s) p) s (mark s) (merged_rows (post_row s p) p s) (post_merging p s).standing few
    (post_narrow (net_of s) p (state_narrow s))
    (merged_lists s p (post_row s p) (post (net_of s) p).take (post (net_of s) p).put (λ t q. (refl, refl)) (λ x q. (refl, refl)))

pub pre_merging_net : (s : State) (p : ℕ) → length (merged_rows (pre_row s p) p s) ≤ 96 → SameNet (pre (net_of s) p) (net_of (pre_merging p s))
pre_merging_net s p few =
    listed_same (pre (net_of s) p) s (mark s) (merged_rows (pre_row s p) p s) (pre_merging p s).standing few
    (pre_narrow (net_of s) p (state_narrow s))
    (merged_lists s p (pre_row s p) (pre (net_of s) p).take (pre (net_of s) p).put (λ t q. (refl, refl)) (λ x q. (refl, refl)))

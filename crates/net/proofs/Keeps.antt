-- Each call of a draft keeps the qualities of the net.
use Rattle.std.proofs.Common.{◌≡◌, ℕ, ◌+◌, ◌*◌, ◌<◌, ◌≤◌, Bool, true, false, cond, eqb, ◌≢◌, ◌⊎◌, List, [], ◌∷◌, length, get_or, set, Ok, Err, Result, sym, refl, ap, ◌∙◌, subst, inl, inr, arith, length-set, get_or-set_other, get_or-set_same}
use mathlib.Core.Logic.{∥∥₁_map}
use Rattle.std.proofs.lemmas.Bool.{cases_eq, cases_lt, lt-ltb, le-ltb, ltb-true, leb-true, eqb-true, eq-eqb, and_parts, true≢false, false≢true}
use Rattle.std.proofs.lemmas.List.{get_or_past}
use Rattle.net.specs.declared.net.NetFault.{NetFault}
use Rattle.net.specs.Sheets.{takes_base, puts_base, most_mark, most_weight, part, cell}
use Rattle.net.specs.States.{State, stands, in_support, empty, bare, left, Answered}
use Rattle.net.specs.Looks.{sheet_checks}
use Rattle.net.specs.Drafts.{next_place, place_table, with_place, transition_table, with_transition, arc_table, with_number, question_table, with_question, started, Call, place, transition, arc_in, arc_out, question, clear, called, after_calls}
use Rattle.net.specs.Qualities.{Qualities, Sound, DraftsHaveQualities}
use Rattle.net.proofs.Tables.{passed}
use Rattle.net.proofs.Writes.{after_set, length_by, number_by, empty_cell}

-- What a part of the sheet reads after a write.
pub part_set : (xs : List ℕ) (i v base p : ℕ) → i < length xs → (P : ℕ → Type 0) → (p < 64 → base + p ≡ i → P v) → P (part xs base p) → P (part (set xs i v) base p)
part_set xs i v base p h P same other = go (cases_lt p 64)
  where
    go : (p < 64) ⊎ (64 ≤ p) → P (part (set xs i v) base p)
    go (inl l) =
        rw (lt-ltb p 64 l)
        (after_set xs i v (base + p) h P (λ e. same l e) (λ _. subst P (ap (λ b. cond b (get_or xs (base + p) 0) 0) (lt-ltb p 64 l)) other))
    go (inr g) = rw (le-ltb p 64 g) (subst P (ap (λ b. cond b (get_or xs (base + p) 0) 0) (le-ltb p 64 g)) other)

-- A flag that is true stands within the list.
pub flag_below : (fs : List Bool) (p : ℕ) → get_or fs p false ≡ true → p < length fs
flag_below fs p e = go (cases_lt p (length fs))
  where
    go : (p < length fs) ⊎ (length fs ≤ p) → p < length fs
    go (inl h) = h
    go (inr g) = absurd (false≢true (sym (get_or_past fs p false g) ∙ e))

-- What a flag is after another was set.
flag_set : (fs : List Bool) (i p : ℕ) (b : Bool) → i < length fs → (P : Bool → Type 0) → (p ≡ i → P b) → (p ≢ i → P (get_or fs p false)) → P (get_or (set fs i b) p false)
flag_set fs i p b h P same other = go (cases_eq p i)
  where
    go : (p ≡ i) ⊎ (p ≡ i → ⊥) → P (get_or (set fs i b) p false)
    go (inl e) = subst (λ z. P (get_or (set fs i b) z false)) (sym e) (rw get_or-set_same (same e))
    go (inr n) = rw get_or-set_other (other n)

-- The empty net.
pub empty_zero : (i : ℕ) → get_or empty.sheet i 0 ≡ 0
empty_zero i = go (cases_lt i 12352)
  where
    go : (i < 12352) ⊎ (12352 ≤ i) → get_or empty.sheet i 0 ≡ 0
    go (inl h) = number_by (cell (λ _. 0) []) i h ∙ empty_cell i
    go (inr g) = get_or_past empty.sheet i 0 (omega (arith, length_by (cell (λ _. 0) [])))

empty_part : (base p : ℕ) → part empty.sheet base p ≡ 0
empty_part base p = go (cases_lt p 64)
  where
    go : (p < 64) ⊎ (64 ≤ p) → part empty.sheet base p ≡ 0
    go (inl l) = rw (lt-ltb p 64 l) (empty_zero (base + p))
    go (inr g) = rw (le-ltb p 64 g)

pub empty_qualities : Qualities empty
empty_qualities =
    record {
      size = length_by (cell (λ _. 0) []);
      few = omega arith;
      places = refl;
      supports = refl;
      supported = λ p e. e;
      gone_mark = λ p _. empty_part 0 p;
      gone_take = λ t p _. empty_part (64 + 128 * t) p;
      gone_put = λ t p _. empty_part (128 + 128 * t) p;
      unused = λ i _. empty_zero i;
      takes = λ t p. omega (arith, empty_part (64 + 128 * t) p);
      puts = λ t p. omega (arith, empty_part (128 + 128 * t) p);
      marks = λ p. omega (arith, empty_part 0 p);
    }

-- A new place.
module _ (s : State) (q : Qualities s) (m : ℕ) (small : m ≤ most_mark) (b : Bool) (below : next_place s.standing < 64) where
  abbrev new : ℕ
  new = next_place s.standing

  abbrev next : State
  next = with_place s m b

  in_sheet : new < length s.sheet
  in_sheet = omega (arith, q.size)

  in_flags : new < length s.standing
  in_flags = omega (arith, q.places)

  in_support_flags : new < length s.support
  in_support_flags = omega (arith, q.supports)

  stood : (p : ℕ) → stands next p ≡ false → (p ≢ new) × (stands s p ≡ false)
  stood p =
      flag_set s.standing new p true in_flags (λ z. z ≡ false → (p ≢ new) × (stands s p ≡ false)) (λ _ e. absurd (true≢false e))
      (λ n e. (n, e))

  support_stands : (p : ℕ) → in_support next p ≡ true → stands next p ≡ true
  support_stands p =
      flag_set s.standing new p true in_flags (λ z. in_support next p ≡ true → z ≡ true) (λ _ _. refl)
      (λ n. flag_set s.support new p b in_support_flags (λ z. z ≡ true → stands s p ≡ true) (λ e. absurd (n e)) (λ _. q.supported p))

  pub place_keeps : Qualities next
  place_keeps =
      record {
        size = simp length-set q.size;
        few = q.few;
        places = simp length-set q.places;
        supports = simp length-set q.supports;
        supported = support_stands;
        gone_mark = λ p e.
            part_set s.sheet new m 0 p in_sheet (λ z. z ≡ 0) (λ _ i. absurd ((stood p e).0 (omega arith))) (q.gone_mark p (stood p e).1);
        gone_take = λ t p e.
            part_set s.sheet new m (64 + 128 * t) p in_sheet (λ z. z ≡ 0) (λ _ i. absurd (omega arith)) (q.gone_take t p (stood p e).1);
        gone_put = λ t p e.
            part_set s.sheet new m (128 + 128 * t) p in_sheet (λ z. z ≡ 0) (λ _ i. absurd (omega arith)) (q.gone_put t p (stood p e).1);
        unused = λ i h. after_set s.sheet new m i in_sheet (λ z. z ≡ 0) (λ e. absurd (omega arith)) (λ _. q.unused i h);
        takes = λ t p. part_set s.sheet new m (64 + 128 * t) p in_sheet (λ z. z ≤ most_weight) (λ _ i. absurd (omega arith)) (q.takes t p);
        puts = λ t p. part_set s.sheet new m (128 + 128 * t) p in_sheet (λ z. z ≤ most_weight) (λ _ i. absurd (omega arith)) (q.puts t p);
        marks = λ p. part_set s.sheet new m 0 p in_sheet (λ z. z ≤ most_mark) (λ _ _. small) (q.marks p);
      }

-- An arc at a standing place, in the takes or in the puts of a row.
module _ (s : State) (q : Qualities s) (t p base w : ℕ) (here : t < s.transitions) (there : stands s p ≡ true) (small : w ≤ most_weight)
    (half : (base ≡ 64 + 128 * t) ⊎ (base ≡ 128 + 128 * t)) where
  place_below : p < 64
  place_below = omega (arith, flag_below s.standing p there, q.places)

  arc_in_sheet : base + p < length s.sheet
  arc_in_sheet = let b = place_below in omega (arith, q.size, q.few)

  -- The number written is of a standing place.
  of_standing : (base' r : ℕ) → r < 64 → ((base' ≡ 0) ⊎ ((u : ℕ) × ((base' ≡ 64 + 128 * u) ⊎ (base' ≡ 128 + 128 * u)))) → base' + r ≡ base + p → stands s r ≡ false → ⊥
  of_standing base' r l (inl e) i f = let b = place_below in omega arith
  of_standing base' r l (inr x) i f =
      let b = place_below in
      let a = x.1 in
      let same : r ≡ p = omega arith in
      true≢false (sym there ∙ ap (stands s) (sym same) ∙ f)

  pub arc_keeps : Qualities (with_number s (base + p) w)
  arc_keeps =
      record {
        size = simp length-set q.size;
        few = q.few;
        places = q.places;
        supports = q.supports;
        supported = q.supported;
        gone_mark = λ r e.
            part_set s.sheet (base + p) w 0 r arc_in_sheet (λ z. z ≡ 0) (λ l i. absurd (of_standing 0 r l (inl refl) i e)) (q.gone_mark r e);
        gone_take = λ u r e.
            part_set s.sheet (base + p) w (64 + 128 * u) r arc_in_sheet (λ z. z ≡ 0)
            (λ l i. absurd (of_standing (64 + 128 * u) r l (inr (u, inl refl)) i e)) (q.gone_take u r e);
        gone_put = λ u r e.
            part_set s.sheet (base + p) w (128 + 128 * u) r arc_in_sheet (λ z. z ≡ 0)
            (λ l i. absurd (of_standing (128 + 128 * u) r l (inr (u, inr refl)) i e)) (q.gone_put u r e);
        unused = λ i h.
            after_set s.sheet (base + p) w i arc_in_sheet (λ z. z ≡ 0) (λ e. let b = place_below in absurd (omega arith)) (λ _. q.unused i h);
        takes = λ u r. part_set s.sheet (base + p) w (64 + 128 * u) r arc_in_sheet (λ z. z ≤ most_weight) (λ _ _. small) (q.takes u r);
        puts = λ u r. part_set s.sheet (base + p) w (128 + 128 * u) r arc_in_sheet (λ z. z ≤ most_weight) (λ _ _. small) (q.puts u r);
        marks = λ r. part_set s.sheet (base + p) w 0 r arc_in_sheet (λ z. z ≤ most_mark) (λ _ _. omega arith) (q.marks r);
      }

-- Every call keeps the qualities, taken or refused.
pub call_keeps : (c : Call) (s t : State) → Qualities s → called s c ≡ Ok t → Qualities t
call_keeps (place m small f) s t q h =
    let k = passed (place_table s f) (with_place s m (eqb f 1)) t h in
    subst Qualities k.1 (place_keeps s q m small (eqb f 1) (ltb-true _ _ k.0.1.0))
call_keeps transition s t q h =
    let k = passed (transition_table s) (with_transition s) t h in
    let l = ltb-true _ _ k.0.1.0 in
    subst Qualities k.1
    (record {
      size = q.size;
      few = omega arith;
      places = q.places;
      supports = q.supports;
      supported = q.supported;
      gone_mark = q.gone_mark;
      gone_take = q.gone_take;
      gone_put = q.gone_put;
      unused = λ i g. q.unused i (omega arith);
      takes = q.takes;
      puts = q.puts;
      marks = q.marks;
    })
call_keeps (arc_in u p w) s t q h =
    let k = passed (arc_table s (takes_base u) u p w) (with_number s (takes_base u + p) w) t h in
    subst Qualities k.1
    (arc_keeps s q u p (takes_base u) w (ltb-true _ _ k.0.1.0) k.0.1.1.0 (leb-true _ _ (and_parts _ _ k.0.1.1.1.0).1) (inl refl))
call_keeps (arc_out u p w) s t q h =
    let k = passed (arc_table s (puts_base u) u p w) (with_number s (puts_base u + p) w) t h in
    subst Qualities k.1
    (arc_keeps s q u p (puts_base u) w (ltb-true _ _ k.0.1.0) k.0.1.1.0 (leb-true _ _ (and_parts _ _ k.0.1.1.1.0).1) (inr refl))
call_keeps (question n) s t q h =
    let k = passed (question_table s n) (with_question s n) t h in
    subst Qualities k.1
    (record {
      size = q.size;
      few = q.few;
      places = q.places;
      supports = q.supports;
      supported = q.supported;
      gone_mark = q.gone_mark;
      gone_take = q.gone_take;
      gone_put = q.gone_put;
      unused = q.unused;
      takes = q.takes;
      puts = q.puts;
      marks = q.marks;
    })
call_keeps clear s t q h = subst Qualities (passed (sheet_checks s) empty t h).1 empty_qualities

-- A call that is taken has a sheet of the right size.
pub call_size : (c : Call) (s t : State) → called s c ≡ Ok t → length s.sheet ≡ 12352
call_size (place m small f) s t h = eqb-true _ _ (passed (place_table s f) (with_place s m (eqb f 1)) t h).0.0
call_size transition s t h = eqb-true _ _ (passed (transition_table s) (with_transition s) t h).0.0
call_size (arc_in u p w) s t h = eqb-true _ _ (passed (arc_table s (takes_base u) u p w) (with_number s (takes_base u + p) w) t h).0.0
call_size (arc_out u p w) s t h = eqb-true _ _ (passed (arc_table s (puts_base u) u p w) (with_number s (puts_base u + p) w) t h).0.0
call_size (question n) s t h = eqb-true _ _ (passed (question_table s n) (with_question s n) t h).0.0
call_size clear s t h = eqb-true _ _ (passed (sheet_checks s) empty t h).0.0

-- What any call leaves is sound, and so is every started draft.
left_sound : (d : Result State NetFault) (s : State) → Sound s → ((t : State) → d ≡ Ok t → Qualities t) → Sound (left s d)
left_sound (Ok t) s g k = λ _. k t refl
left_sound (Err e) s g k = g

pub call_sound : (c : Call) (s : State) → Sound s → Sound (left s (called s c))
call_sound c s g = left_sound (called s c) s g (λ t h. call_keeps c s t (g (call_size c s t h)) h)

pub answered_sound : (c : Call) (r : Result Unit NetFault) (after before : State) → Answered r after before (called before c) → ∥ Sound before ∥₁ → ∥ Sound after ∥₁
answered_sound c r after before a g = ∥∥₁_map g (λ k. subst Sound (sym a.state) (call_sound c before k))

pub started_sound : (xs : List ℕ) → Sound (started xs)
started_sound xs = go (eqb (length xs) 12352) refl
  where
    go : (b : Bool) → eqb (length xs) 12352 ≡ b → Sound (cond b empty (bare xs))
    go true e = λ _. empty_qualities
    go false e = λ h. absurd (true≢false (sym (eq-eqb (length xs) 12352 h) ∙ e))

-- A started draft is bare over its sheet.
pub started_bare : (xs ys : List ℕ) → ys ≡ (started xs).sheet → bare ys ≡ started xs
started_bare xs ys e = go (eqb (length xs) 12352) e
  where
    go : (b : Bool) → ys ≡ (cond b empty (bare xs)).sheet → bare ys ≡ cond b empty (bare xs)
    go true h = ap bare h
    go false h = ap bare h

pub bare_sound : (xs ys : List ℕ) → ys ≡ (started xs).sheet → ∥ Sound (bare ys) ∥₁
bare_sound xs ys e = ∣ subst Sound (sym (started_bare xs ys e)) (started_sound xs) ∣₁

calls_keep : (cs : List Call) (s : State) → Qualities s → Qualities (after_calls s cs)
calls_keep [] s q = q
calls_keep (c ∷ cs) s q = calls_keep cs (left s (called s c)) (go (called s c) (λ t h. call_keeps c s t q h))
  where
    go : (d : Result State NetFault) → ((t : State) → d ≡ Ok t → Qualities t) → Qualities (left s d)
    go (Ok t) k = k t refl
    go (Err e) k = q

pub drafts_have_qualities : DraftsHaveQualities
drafts_have_qualities xs h cs = calls_keep cs (started xs) (subst Qualities (sym is_empty) empty_qualities)
  where
    is_empty : started xs ≡ empty
    is_empty = rw (eq-eqb (length xs) 12352 h)

-- What the loop of a feed keeps.
use Rattle.std.proofs.Common.{◌≡◌, ℕ, zero, suc, ◌+◌, ◌-◌, ◌<◌, ◌≤◌, false, eqb, List, length, get_or, take, drop, Ok, Err, Option, Result, sym, refl, ap, ◌∙◌, arith, length-drop, take_all, drop-drop}
use Rattle.std.proofs.lemmas.Bool.{leb-true}
use Rattle.net.specs.States.{State, Answered}
use Rattle.net.proofs.Tables.{passed, ok_same, err_same, ok_not_err}
use Rattle.books.specs.declared.faults.Misfit.{Misfit}
use Rattle.books.specs.Frames.{Widths, step_length, front_table, front}
use Rattle.session.specs.declared.faults.SessionFault.{SessionFault}
use Rattle.session.specs.Feeds.{Meaning, Step, End, ended, by_book, with_used, after_front, stepped, go_on, fed_from, used_of, state_of, StepAnswered, FeedAnswered}

-- The front of the bytes by what the book says of their first byte.
pub front_by : (width : Widths) (bs : List ℕ) (b : ℕ) (o : Option ℕ) → o ≡ width b → b ≡ get_or bs 0 0 → front (λ _. o) bs ≡ front width bs
front_by width bs b o h k = ap (λ (x : Option ℕ). front (λ _. x) bs) (h ∙ ap width k)

abbrev pub step_to : State → ℕ → Step
step_to t n = record { state = t; used = n }

-- A step that the book takes, and one that was taken.
book_took : {F : Type 0} (d : Result State F) (r : Result Unit F) (after before : State) (n byte count : ℕ) → Answered r after before d → r ≡ Ok tt
    → with_used (by_book d byte count) n ≡ Ok (step_to after n)
book_took (Ok t) r after before n byte count a h = ap (λ (q : State). Ok (step_to q n)) (sym a.state)
book_took (Err e) r after before n byte count a h = absurd (ok_not_err (sym a.answer ∙ h))

pub step_taken : {F : Type 0} (m : Meaning F) (after before : State) (bs : List ℕ) (n byte count : ℕ) (r : Result Unit F)
    → front m.width bs ≡ Ok n → Answered r after before (m.take_step before (take n bs)) → r ≡ Ok tt
    → StepAnswered (Ok n) after before (stepped m before bs byte count)
step_taken m after before bs n byte count r f a h =
    let e : stepped m before bs byte count ≡ Ok (step_to after n)
    = ap (after_front m before bs byte count) f ∙ book_took (m.take_step before (take n bs)) r after before n byte count a h in
    record { answer = sym (ap used_of e); state = sym (ap (state_of before) e) }

is_ok : {F : Type 0} (d : Result Step F) (n : ℕ) (after before : State) → StepAnswered (Ok n) after before d → d ≡ Ok (step_to after n)
is_ok (Ok x) n after before h =
    ap (λ (k : ℕ). Ok (step_to x.state k)) (sym (ok_same h.answer)) ∙ ap (λ (q : State). Ok (step_to q n)) (sym h.state)
is_ok (Err f) n after before h = absurd (ok_not_err (sym h.answer))

is_err : {F : Type 0} (d : Result Step F) (e : F) (after before : State) → StepAnswered (Err e) after before d → (d ≡ Err e) × (after ≡ before)
is_err (Ok x) e after before h = absurd (ok_not_err h.answer)
is_err {F} (Err f) e after before h = (ap (λ (y : F). Err y) (sym (err_same h.answer)), h.state)

module _ {F : Type 0} (m : Meaning F) where
  with_used_is : (r : Result State F) (n byte count : ℕ) (t : Step) → with_used (by_book r byte count) n ≡ Ok t → t.used ≡ n
  with_used_is (Ok s) n byte count t h = ap (λ (q : Step). q.used) (sym (ok_same h))
  with_used_is (Err f) n byte count t h = absurd (ok_not_err h)

  -- A step takes a byte at least, and no more than there are.
  pub step_used : (s : State) (bs : List ℕ) (byte count : ℕ) (t : Step) → stepped m s bs byte count ≡ Ok t → (0 < t.used) × (t.used ≤ length bs)
  step_used s bs byte count t h = go (front m.width bs) refl h
    where
      go : (r : Result ℕ Misfit) → front m.width bs ≡ r → after_front m s bs byte count r ≡ Ok t → (0 < t.used) × (t.used ≤ length bs)
      go (Ok n) e k =
          let p = passed (front_table m.width bs) (step_length m.width bs) n e in
          let q = with_used_is (m.take_step s (take n bs)) n byte count t k in
          let l = leb-true _ _ p.0.1.1.0 in
          let i : step_length m.width bs ≡ n = p.1 in
          (omega arith, omega arith)
      go (Err f) e k = absurd (ok_not_err k)

  pub fed_end : (bound : ℕ) (s : State) (bs : List ℕ) (byte count : ℕ) → length bs ≡ 0 → fed_from m bound s bs byte count ≡ ended s (Ok count)
  fed_end zero s bs byte count h = refl
  fed_end (suc bound) s bs byte count h = rw h refl

  pub fed_step : (bound : ℕ) (s : State) (bs : List ℕ) (byte count : ℕ) → 0 < length bs
      → fed_from m (suc bound) s bs byte count ≡ go_on (fed_from m bound) s bs byte count (stepped m s bs byte count)
  fed_step bound s bs byte count h = let e : eqb (length bs) 0 ≡ false = grind arith in rw e refl

  -- The part of the bytes that the loop lends.
  pub lent : (bs : List ℕ) (at : ℕ) → take (length bs - at) (drop at bs) ≡ drop at bs
  lent bs at = take_all (length bs - at) (drop at bs) (simp length-drop (omega arith))

  module _ (bs : List ℕ) (s : State) (at count : ℕ) (E : End F) (within : at < length bs) (few : count ≤ at)
      (e : fed_from m (length bs - count) s (drop at bs) at count ≡ E) where
    one_more : fed_from m (length bs - count) s (drop at bs) at count
        ≡ go_on (fed_from m (length bs - (count + 1))) s (drop at bs) at count (stepped m s (drop at bs) at count)
    one_more =
        let n : length (drop at bs) ≡ length bs - at = length-drop at bs in
        let bound : length bs - count ≡ suc (length bs - (count + 1)) = omega arith in
        ap (λ (f : ℕ). fed_from m f s (drop at bs) at count) bound ∙ fed_step (length bs - (count + 1)) s (drop at bs) at count (omega arith)

    pub feed_again : (t : State) (used : ℕ) → StepAnswered (Ok used) t s (stepped m s (take (length bs - at) (drop at bs)) at count)
        → (at + used ≤ length bs) × (count + 1 ≤ at + used)
        × (fed_from m (length bs - (count + 1)) t (drop (at + used) bs) (at + used) (count + 1) ≡ E)
    feed_again t used d =
        let took : stepped m s (drop at bs) at count ≡ Ok (step_to t used) = rw (lent bs at) at (is_ok _ used t s d) in
        let u = step_used s (drop at bs) at count (step_to t used) took in
        let n : length (drop at bs) ≡ length bs - at = length-drop at bs in
        let one : fed_from m (length bs - count) s (drop at bs) at count ≡ fed_from m (length bs - (count + 1)) t (drop used (drop at bs)) (at + used) (count + 1)
        = one_more ∙ ap (go_on (fed_from m (length bs - (count + 1))) s (drop at bs) at count) took in (
          omega arith,
          omega arith,
          ap (λ (l : List ℕ). fed_from m (length bs - (count + 1)) t l (at + used) (count + 1)) (sym (drop-drop used at bs)) ∙ sym one ∙ e,
        )

    pub feed_stops : (t : State) (f : SessionFault F) → StepAnswered (Err f) t s (stepped m s (take (length bs - at) (drop at bs)) at count)
        → FeedAnswered (Err f) t E
    feed_stops t f d =
        let q = is_err _ f t s d in
        let took : stepped m s (drop at bs) at count ≡ Err f = rw (lent bs at) at q.0 in
        let all : ended s (Err f) ≡ E = sym (one_more ∙ ap (go_on (fed_from m (length bs - (count + 1))) s (drop at bs) at count) took) ∙ e in
        record { answer = ap (λ (x : End F). x.said) all; state = q.1 ∙ ap (λ (x : End F). x.state) all }

  pub feed_ends : (bs : List ℕ) (s : State) (at count : ℕ) (E : End F) → length bs ≤ at
      → fed_from m (length bs - count) s (drop at bs) at count ≡ E → FeedAnswered (Ok count) s E
  feed_ends bs s at count E h e =
      let n : length (drop at bs) ≡ length bs - at = length-drop at bs in
      let all : ended s (Ok count) ≡ E = sym (fed_end (length bs - count) s (drop at bs) at count (omega arith)) ∙ e in
      record { answer = ap (λ (x : End F). x.said) all; state = ap (λ (x : End F). x.state) all }

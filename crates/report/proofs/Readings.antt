-- A reading over a sheet of the right size is that of the bytes alone.
use Rattle.std.proofs.Common.{◌≡◌, ℕ, ◌-◌, ◌≤◌, Bool, cond, List, length, take, drop, Ok, Err, Result, sym, ap, ◌∙◌, arith}
use Rattle.std.proofs.lemmas.Bool.{eq-eqb}
use Rattle.net.specs.States.{State, empty, bare}
use Rattle.net.specs.Drafts.{started}
use Rattle.net.proofs.Tables.{ok_same, ok_not_err, err_same}
use Rattle.stream.specs.declared.faults.ReadFault.{ReadFault}
use Rattle.stream.specs.Streams.{Reading, reading, reading_into, used_or_fault, left_or_empty, Read}
use Rattle.session.specs.Feeds.{fed}
use Rattle.session.proofs.Feeds.{lent}
use Rattle.report.specs.declared.line.Line.{Line}
use Rattle.report.specs.Lines.{house, end_lines, reading_lines}
use Rattle.stream.proofs.Reading.{empty_sized}
use Rattle.stream.proofs.Uses.{reading_used}

into_started : (xs bs : List ℕ) (s : State) → length xs ≡ 12352 → s ≡ started xs → reading_into s bs ≡ reading bs
into_started xs bs s h e =
    let k : s ≡ empty = e ∙ ap (λ (b : Bool). cond b empty (bare xs)) (eq-eqb (length xs) 12352 h) in
    ap (λ (t : State). reading_into t bs) k ∙ rw empty_sized

is_fault : (d : Result Reading ReadFault) (f : ReadFault) → Err f ≡ used_or_fault d → d ≡ Err f
is_fault (Ok r) f h = absurd (ok_not_err h)
is_fault (Err e) f h = ap (λ (x : ReadFault). Err x) (sym (err_same h))

pub refused_reading : (xs bs : List ℕ) (s t : State) (f : ReadFault) → length xs ≡ 12352 → s ≡ started xs → Read (Err f) t s bs → reading bs ≡ Err f
refused_reading xs bs s t f h e r = sym (into_started xs bs s h e) ∙ is_fault (reading_into s bs) f r.answer

-- A reading that is not refused is that of the definition.
pub record WasRead (bs : List ℕ) (used : ℕ) (t : State) : Type 0 where
  pub whole : reading bs ≡ Ok (record { state = t; used = used })
  pub within : used ≤ length bs

is_read : (bs : List ℕ) (s t : State) (d : Result Reading ReadFault) (used : ℕ) → reading bs ≡ d → Ok used ≡ used_or_fault d → t ≡ left_or_empty s d → WasRead bs used t
is_read bs s t (Ok r) used e a k =
    let u : used ≡ r.used = ok_same a in
    let w = reading_used bs r e in
    record {
      whole = e ∙ ap (λ (x : State). Ok (record { state = x; used = r.used })) (sym k) ∙ ap (λ (n : ℕ). Ok (record { state = t; used = n })) (sym u);
      within = omega arith;
    }
is_read bs s t (Err f) used e a k = absurd (ok_not_err (sym a))

pub taken_reading : (xs bs : List ℕ) (s t : State) (used : ℕ) → length xs ≡ 12352 → s ≡ started xs → Read (Ok used) t s bs → WasRead bs used t
taken_reading xs bs s t used h e r = is_read bs s t (reading_into s bs) used (sym (into_started xs bs s h e)) r.answer r.state

pub read_lines : (ls : List Line) (bs : List ℕ) (used : ℕ) (s t : State) → WasRead bs used t → s ≡ t
    → ls ≡ end_lines used (fed house s (take (length bs - used) (drop used bs))) → ls ≡ reading_lines (reading bs) bs
read_lines ls bs used s t w e h =
    h ∙ ap (λ (l : List ℕ). end_lines used (fed house s l)) (lent house bs used)
    ∙ ap (λ (x : State). end_lines used (fed house x (drop used bs))) e
    ∙ ap (λ (r : Result Reading ReadFault). reading_lines r bs) (sym w.whole)

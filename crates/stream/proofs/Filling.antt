-- What the loop of the reader keeps.
use Rattle.std.proofs.Common.{◌≡◌, ℕ, zero, suc, ◌+◌, ◌-◌, ◌<◌, ◌≤◌, true, List, [], ◌∷◌, length, take, drop, Ok, Err, Result, sym, refl, ap, ◌∙◌, subst, arith, length-drop, length-set, drop-drop}
use Rattle.std.proofs.lemmas.List.{take_rest}
use Rattle.net.specs.States.{State, sized}
use Rattle.net.proofs.Tables.{err_same, ok_not_err}
use Rattle.stream.specs.declared.command.Command.{Command}
use Rattle.stream.specs.declared.command.Command.TheVariants.{Place, Transition, ArcIn, ArcOut, End}
use Rattle.stream.specs.declared.faults.Cause.{Cause}
use Rattle.stream.specs.declared.faults.ReadFault.{ReadFault}
use Rattle.stream.specs.Streams.{decoded, size, applied, Step, with_command, stepped, Stepped, Reading, goes_on, after_step, read_on, Filled}

-- A command keeps the size of the sheet.
applied_sized : (c : Command) (s t : State) → applied s c ≡ Ok t → sized t ≡ true
applied_sized (Place m f) s t h = grind (arith, length-set)
applied_sized Transition s t h = grind arith
applied_sized (ArcIn u p w) s t h = grind (arith, length-set)
applied_sized (ArcOut u p w) s t h = grind (arith, length-set)
applied_sized (End q) s t h = grind arith

-- A whole command has its first byte and its operands.
pub decoded_size : (bs : List ℕ) (c : Command) → decoded bs ≡ Ok c → (0 < size c) × (size c ≤ length bs)
decoded_size bs c h = grind arith

-- What a command that was done did.
is_ok : (d : Result Step ReadFault) (c : Command) (t s : State) → Stepped (Ok c) t s d → d ≡ Ok (record { state = t; command = c })
is_ok (Ok x) c t s h = let a = h.answer in let b = h.state in grind arith
is_ok (Err e) c t s h = absurd (ok_not_err (sym h.answer))

is_err : (d : Result Step ReadFault) (e : ReadFault) (t s : State) → Stepped (Err e) t s d → (d ≡ Err e) × (t ≡ s)
is_err (Ok x) e t s h = absurd (ok_not_err h.answer)
is_err (Err f) e t s h = let a = h.answer in (cc, h.state)

was_sized : (s : State) (byte count : ℕ) (d : Result Command Cause) (x : Step) → with_command s byte count d ≡ Ok x → sized x.state ≡ true
was_sized s byte count (Ok c) x h = grind (arith, applied_sized)
was_sized s byte count (Err e) x h = absurd (ok_not_err h)

was : (s : State) (byte count : ℕ) (d : Result Command Cause) (x : Step) → with_command s byte count d ≡ Ok x → d ≡ Ok x.command
was s byte count (Ok c) x h = grind arith
was s byte count (Err e) x h = absurd (ok_not_err h)

-- After a command that is not the end, reading goes on behind it.
pub behind : (rest : State → List ℕ → ℕ → ℕ → Result Reading ReadFault) (bs : List ℕ) (byte count : ℕ) (t : State) (c : Command)
    → ((q : ℕ) → c ≡ End q → ⊥) → goes_on rest bs byte count t c ≡ rest t (drop (size c) bs) (byte + size c) (count + 1)
behind rest bs byte count t (Place m f) n = refl
behind rest bs byte count t Transition n = refl
behind rest bs byte count t (ArcIn u p w) n = refl
behind rest bs byte count t (ArcOut u p w) n = refl
behind rest bs byte count t (End q) n = absurd (n q refl)

-- A refused command ends the reading, for want of bytes too.
stops : (fuel : ℕ) (s : State) (l : List ℕ) (byte count : ℕ) (e : ReadFault) → length l ≤ fuel → stepped s l byte count ≡ Err e
    → read_on fuel s l byte count ≡ Err e
stops zero s [] byte count e k h = ap (λ (x : ReadFault). Err x) (err_same h)
stops zero s (x ∷ xs) byte count e k h = absurd (omega arith)
stops (suc fuel) s l byte count e k h = ap (after_step (read_on fuel) l byte count) h

filled : (r : Result ℕ ReadFault) (t : State) (d E : Result Reading ReadFault) → d ≡ E → Filled r t d → Filled r t E
filled r t d E e f = subst (Filled r t) e f

module _ (bs : List ℕ) (s t : State) (at count : ℕ) (E : Result Reading ReadFault)
    (inv : read_on (length bs - count) s (drop at bs) at count ≡ E) (h : at ≤ length bs) (k : count ≤ at) where
  -- the loop lends the rest of the bytes
  lent : take (length bs - at) (drop at bs) ≡ drop at bs
  lent = take_rest bs at

  pub fill_stops : (e : ReadFault) → sized s ≡ true → Stepped (Err e) t s (stepped s (take (length bs - at) (drop at bs)) at count) → Filled (Err e) t E
  fill_stops e z done =
      let d = is_err _ e t s done in
      let took : stepped s (drop at bs) at count ≡ Err e = ap (λ l. stepped s l at count) (sym lent) ∙ d.0 in
      let l = length-drop at bs in
      filled _ t _ E (sym (stops (length bs - count) s (drop at bs) at count e (omega arith) took) ∙ inv)
      (record { answer = refl; state = subst (λ (u : State). sized u ≡ true) (sym d.1) z })

  module _ (c : Command) (done : Stepped (Ok c) t s (stepped s (take (length bs - at) (drop at bs)) at count)) where
    took : stepped s (drop at bs) at count ≡ Ok (record { state = t; command = c })
    took = ap (λ l. stepped s l at count) (sym lent) ∙ is_ok _ c t s done

    fits : (0 < size c) × (at + size c ≤ length bs)
    fits =
        let d = decoded_size (drop at bs) c (was s at count (decoded (drop at bs)) (record { state = t; command = c }) took) in
        let l = length-drop at bs in
        (d.0, omega arith)

    next : goes_on (read_on (length bs - (count + 1))) (drop at bs) at count t c ≡ E
    next =
        let f = fits in
        let fuel : length bs - count ≡ suc (length bs - (count + 1)) = omega arith in
        sym (ap (after_step (read_on (length bs - (count + 1))) (drop at bs) at count) took)
        ∙ sym (ap (λ n. read_on n s (drop at bs) at count) fuel) ∙ inv

    pub fill_again : (n m : ℕ) → n ≡ at + size c → m ≡ count + 1 → ((q : ℕ) → c ≡ End q → ⊥)
        → (n ≤ length bs) × (m ≤ n) × (sized t ≡ true) × (read_on (length bs - m) t (drop n bs) n m ≡ E)
    fill_again n m e i ne =
        let f = fits in (
          omega arith,
          omega arith,
          was_sized s at count (decoded (drop at bs)) (record { state = t; command = c }) took,
          ap (λ (j : ℕ). read_on (length bs - m) t (drop j bs) j m) e
              ∙ ap (λ (j : ℕ). read_on (length bs - j) t (drop (at + size c) bs) (at + size c) j) i
              ∙ ap (λ (l : List ℕ). read_on (length bs - (count + 1)) t l (at + size c) (count + 1)) (sym (drop-drop (size c) at bs))
              ∙ sym (behind (read_on (length bs - (count + 1))) (drop at bs) at count t c ne) ∙ next,
        )

  pub fill_ends : (q : ℕ) → Stepped (Ok (End q)) t s (stepped s (take (length bs - at) (drop at bs)) at count) → Filled (Ok (at + 2)) t E
  fill_ends q done = filled _ t _ E (next (End q) done) (record { answer = refl; state = refl })

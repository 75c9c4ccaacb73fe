-- What every house book keeps, and what its take gives.
use Rattle.std.proofs.Common.{◌≡◌, ℕ, Bool, true, false, cond, List, [], ◌∷◌, get_or, Option, Ok, Err, Result, sym, ap, ◌∙◌}
use Rattle.net.specs.declared.net.NetFault.{NetFault}
use Rattle.net.specs.declared.net.NetFault.TheVariants.{WrongSize}
use Rattle.net.specs.Refusals.{Check, ◌unless◌, judged}
use Rattle.net.specs.States.{State, sized, said, left, Answered}
use Rattle.net.specs.Qualities.{Qualities}
use Rattle.net.specs.Looks.{measured}
use Rattle.net.proofs.Tables.{ok_same, ok_not_err, err_same, passed, passing}
use Rattle.theory.specs.declared.refusal.Refusal.{Refusal}
use Rattle.theory.specs.Steps as steps
use Rattle.theory.specs.Laws.{Kept}
use Rattle.theory.proofs.Lawful.{steps_are_lawful}
use Rattle.books.specs.declared.faults.Misfit.{Misfit}
use Rattle.books.specs.Frames.{Widths, framed, misfit_number, RefusesMisfits}
use Rattle.books.specs.House.{with_fault, after, house_taken}

after_ok : {E F : Type 0} (f : E → F) (r : Result Unit E) (k : Result State F) (t : State) → after f r k ≡ Ok t → k ≡ Ok t
after_ok f (Ok u) k t h = h
after_ok f (Err e) k t h = absurd (ok_not_err h)

fault_ok : {X E F : Type 0} (f : E → F) (r : Result X E) (t : X) → with_fault f r ≡ Ok t → r ≡ Ok t
fault_ok {X} f (Ok x) t h = ap (λ (y : X). Ok y) (ok_same h)
fault_ok f (Err e) t h = absurd (ok_not_err h)

-- A table refuses alike, whatever it would let pass.
pub refused_alike : {F X Y : Type 0} (cs : List (Check F)) (x : X) (y : Y) (e : F) → judged cs x ≡ Err e → judged cs y ≡ Err e
refused_alike [] x y e h = absurd (ok_not_err (sym h))
refused_alike {F} {X} {Y} (c ∷ cs) x y e h = go (λ k. refused_alike cs x y e k) c.holds h
  where
    go : (judged cs x ≡ Err e → judged cs y ≡ Err e) → (b : Bool) → cond b (judged cs x) (Err c.refusal) ≡ Err e → cond b (judged cs y) (Err c.refusal) ≡ Err e
    go rest true k = rest k
    go rest false k = ap (λ (f : F). Err f) (err_same k)

-- How bytes are framed by what a book says of their first byte.
pub frame_by : (width : Widths) (bs : List ℕ) (b : ℕ) (o : Option ℕ) → o ≡ width b → b ≡ get_or bs 0 0 → framed (λ _. o) bs ≡ framed width bs
frame_by width bs b o h k = ap (λ (x : Option ℕ). framed (λ _. x) bs) (h ∙ ap width k)

module _ {F : Type 0} (net : NetFault → F) (bytes : Misfit → F) (refused : Refusal → F) (width : Widths) (parse : List ℕ → steps.Step) where
  -- What a book takes is a step.
  pub house_takes : (s t : State) (bs : List ℕ) → house_taken net bytes refused width parse s bs ≡ Ok t → steps.step s (parse bs) ≡ Ok t
  house_takes s t bs h =
      fault_ok refused (steps.step s (parse bs)) t (after_ok bytes (framed width bs) _ t (after_ok net (measured s.sheet) _ t h))

  pub house_keeps : (s t : State) (bs : List ℕ) → Qualities s → house_taken net bytes refused width parse s bs ≡ Ok t → Kept s t
  house_keeps s t bs q h = steps_are_lawful s t (parse bs) q (house_takes s t bs h)

  pub house_refuses : (number : F → ℕ) → ((e : Misfit) → number (bytes e) ≡ misfit_number e) → RefusesMisfits number width (house_taken net bytes refused width parse)
  house_refuses number same s bs e z h = (
    bytes e,
    ap (λ (r : Result Unit NetFault). after net r (after bytes (framed width bs) (with_fault refused (steps.step s (parse bs))))) right
        ∙ ap (λ (r : Result Unit Misfit). after bytes r (with_fault refused (steps.step s (parse bs)))) h,
    same e,
  )
    where
      right : measured s.sheet ≡ Ok tt
      right = ap (λ (b : Bool). cond b (Ok tt) (Err WrongSize)) z

  -- For a whole step over a sheet of the right size a book gives what the step's table and next state give.
  pub house_whole : (s : State) (bs : List ℕ) → measured s.sheet ≡ Ok tt → framed width bs ≡ Ok tt
      → house_taken net bytes refused width parse s bs ≡ with_fault refused (steps.step s (parse bs))
  house_whole s bs m f =
      ap (λ (q : Result Unit NetFault). after net q (after bytes (framed width bs) (with_fault refused (steps.step s (parse bs))))) m
      ∙ ap (λ (q : Result Unit Misfit). after bytes q (with_fault refused (steps.step s (parse bs)))) f

  module _ (s : State) (bs : List ℕ) (x : steps.Step) (m : measured s.sheet ≡ Ok tt) (f : framed width bs ≡ Ok tt) (e : x ≡ parse bs) where
    -- What the questions of the step answer.
    abbrev Asked : Result Unit Refusal → Type 0
    Asked r = ◌≡◌ {A = Result Unit Refusal} (judged (steps.table s x) tt) r

    -- A step that passes leads to its next state: the rewrite refuses only a sheet of wrong size.
    pub house_done : (q : Result Unit NetFault) (t : State) → Asked (Ok tt)
        → Answered q t s (judged (WrongSize unless sized s ∷ []) (steps.next s x)) → (q ≡ Ok tt) × Answered (Ok tt) t s (house_taken net bytes refused width parse s bs)
    house_done q t h a = (a.answer ∙ ap said written, record { answer = sym (ap said gives); state = a.state ∙ ap (left s) written ∙ sym (ap (left s) gives) })
      where
        written : judged (WrongSize unless sized s ∷ []) (steps.next s x) ≡ Ok (steps.next s x)
        written = passing (WrongSize unless sized s ∷ []) (steps.next s x) (passed (WrongSize unless sized s ∷ []) tt tt m).0

        passes : steps.step s x ≡ Ok (steps.next s x)
        passes = passing (steps.table s x) (steps.next s x) (passed (steps.table s x) tt tt h).0

        gives : house_taken net bytes refused width parse s bs ≡ Ok (steps.next s x)
        gives = house_whole s bs m f ∙ ap (λ y. with_fault refused (steps.step s y)) (sym e) ∙ ap (with_fault refused) passes

    -- A step that does not changes nothing, and its refusal is kept whole.
    pub house_refused : (y : Refusal) → Asked (Err y) → Answered (Err (refused y)) s s (house_taken net bytes refused width parse s bs)
    house_refused y h = record { answer = sym (ap said gives); state = sym (ap (left s) gives) }
      where
        gives : house_taken net bytes refused width parse s bs ≡ Err (refused y)
        gives =
            house_whole s bs m f ∙ ap (λ z. with_fault refused (steps.step s z)) (sym e)
            ∙ ap (with_fault refused) (refused_alike (steps.table s x) tt (steps.next s x) y h)

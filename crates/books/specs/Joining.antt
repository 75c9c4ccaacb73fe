-- What two joined books keep, from what each keeps.
use Rattle.std.specs.Prelude.{◌≡◌, ℕ, ◌≤◌, Bool, true, false, cond, ◌&&◌, ◌⊎◌, List, length, is_some, Some, None, Ok, Err, Option, Result, nat_lt, slice_index, refl}
use Rattle.std.proofs.Common.{sym, ◌∙◌, ap, inl, inr}
use Rattle.std.proofs.lemmas.Bool.{and_parts, and_cases, cases_Bool, both_ways}
use Rattle.net.specs.States.{State}
use Rattle.net.proofs.Tables.{ok_same, ok_not_err}
use Rattle.books.specs.declared.faults.Misfit.TheVariants.{Short}
use Rattle.books.specs.declared.joined.EitherFault.{EitherFault}
use Rattle.books.specs.declared.joined.EitherFault.TheVariants.{First, Second}
use Rattle.books.specs.Frames.{Widths, framed, misfit_number, Narrow, RefusesMisfits}
use Rattle.books.specs.Joins.{either_number, from_first, from_second, first_or, joined_width, joined_taken, SilentInFront}

first_ok : {F G : Type 0} (r : Result State F) (t : State) → from_first {G = G} r ≡ Ok t → r ≡ Ok t
first_ok (Ok x) t h = ap (λ (y : State). Ok y) (ok_same h)
first_ok (Err e) t h = absurd (ok_not_err h)

second_ok : {F G : Type 0} (r : Result State G) (t : State) → from_second {F = F} r ≡ Ok t → r ≡ Ok t
second_ok (Ok x) t h = ap (λ (y : State). Ok y) (ok_same h)
second_ok (Err e) t h = absurd (ok_not_err h)

-- How bytes are framed depends on the width of their first byte alone.
no_bytes : (o : Option ℕ) (bs : List ℕ) → nat_lt 0 (length bs) ≡ false → framed (λ _. o) bs ≡ Err Short
no_bytes o bs e = rw e

some_first : (o o' : Option ℕ) → is_some o ≡ true → first_or o o' ≡ o
some_first (Some w) o' e = refl
some_first None o' e = absurd (both_ways false refl e)

none_first : (o o' : Option ℕ) → is_some o ≡ false → first_or o o' ≡ o'
none_first (Some w) o' e = absurd (both_ways true e refl)
none_first None o' e = refl

module _ {F G : Type 0} (nf : F → ℕ) (ng : G → ℕ) (wf wg : Widths) (f : State → List ℕ → Result State F) (g : State → List ℕ → Result State G) where
  -- A property that each book keeps is kept by both.
  pub joined_keeps : (P : State → Type 0) (s t : State) (bs : List ℕ) → (f s bs ≡ Ok t → P t) → (g s bs ≡ Ok t → P t)
      → joined_taken wf f g s bs ≡ Ok t → P t
  joined_keeps P s t bs p q h = go (nat_lt 0 (length bs) && is_some (wf (slice_index bs 0))) h
    where
      go : (b : Bool) → cond b (from_first (f s bs)) (from_second (g s bs)) ≡ Ok t → P t
      go true k = p (first_ok (f s bs) t k)
      go false k = q (second_ok (g s bs) t k)

  pub joined_narrow : Narrow wf → Narrow wg → Narrow (joined_width wf wg)
  joined_narrow a b x w h = go (wf x) refl h
    where
      go : (o : Option ℕ) → wf x ≡ o → first_or o (wg x) ≡ Some w → w ≤ 16
      go (Some v) e k = a x w (e ∙ k)
      go None e k = b x w k

  -- Bytes that the first book owns are framed by it, all others by the second.
  owned_frame : (bs : List ℕ) → is_some (wf (slice_index bs 0)) ≡ true → framed (joined_width wf wg) bs ≡ framed wf bs
  owned_frame bs e = ap (λ (o : Option ℕ). framed (λ _. o) bs) (some_first (wf (slice_index bs 0)) (wg (slice_index bs 0)) e)

  other_frame : (bs : List ℕ) → (nat_lt 0 (length bs) && is_some (wf (slice_index bs 0))) ≡ false → framed (joined_width wf wg) bs ≡ framed wg bs
  other_frame bs e = go (and_cases (nat_lt 0 (length bs)) (is_some (wf (slice_index bs 0))) e)
    where
      go : (nat_lt 0 (length bs) ≡ false) ⊎ (is_some (wf (slice_index bs 0)) ≡ false) → framed (joined_width wf wg) bs ≡ framed wg bs
      go (inl k) = no_bytes (joined_width wf wg (slice_index bs 0)) bs k ∙ sym (no_bytes (wg (slice_index bs 0)) bs k)
      go (inr k) = ap (λ (o : Option ℕ). framed (λ _. o) bs) (none_first (wf (slice_index bs 0)) (wg (slice_index bs 0)) k)

  pub joined_refuses : RefusesMisfits nf wf f → RefusesMisfits ng wg g → RefusesMisfits (either_number nf ng) (joined_width wf wg) (joined_taken wf f g)
  joined_refuses a b s bs e z h = go (cases_Bool (nat_lt 0 (length bs) && is_some (wf (slice_index bs 0))))
    where
      go : ((nat_lt 0 (length bs) && is_some (wf (slice_index bs 0))) ≡ true) ⊎ ((nat_lt 0 (length bs) && is_some (wf (slice_index bs 0))) ≡ false)
          → (x : EitherFault F G) × (joined_taken wf f g s bs ≡ Err x) × (either_number nf ng x ≡ misfit_number e)
      go (inl k) =
          let x = a s bs e z (sym (owned_frame bs (and_parts (nat_lt 0 (length bs)) (is_some (wf (slice_index bs 0))) k).1) ∙ h) in
          (First x.0, rw k (ap (λ (r : Result State F). from_first r) x.1), x.2)
      go (inr k) =
          let x = b s bs e z (sym (other_frame bs k) ∙ h) in
          (Second x.0, rw k (ap (λ (r : Result State G). from_second r) x.1), x.2)

pub silent_in_front : {F G : Type 0} (wf wg : Widths) (f : State → List ℕ → Result State F) (g : State → List ℕ → Result State G) → SilentInFront wf f wg g
silent_in_front wf wg f g none = (λ b. rw (none b), λ s bs. go s bs (nat_lt 0 (length bs)))
  where
    go : (s : State) (bs : List ℕ) (b : Bool) → cond (b && is_some (wf (slice_index bs 0))) (from_first (f s bs)) (from_second (g s bs)) ≡ from_second (g s bs)
    go s bs true = rw (none (slice_index bs 0))
    go s bs false = refl

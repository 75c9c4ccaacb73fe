-- What a house book owns: its widths are narrow, and each whole step of it is one of its own.
use Rattle.std.proofs.Common.{◌≡◌, ℕ, ◌≤◌, Bool, true, false, cond, ◌&&◌, eqb, leb, List, is_some, Ok, Err, Result, refl, sym, subst, ap, ◌∙◌, rules, arith}
use Rattle.std.proofs.lemmas.Bool.{both_ways, eqb-true}
use Rattle.net.specs.declared.net.NetFault.{NetFault}
use Rattle.net.specs.Looks.{measured, sheet_checks}
use Rattle.net.specs.Refusals.{judged}
use Rattle.net.specs.States.{State, said, left, Answered}
use Rattle.net.proofs.Tables.{ok_same, ok_not_err, passed, passing}
use Rattle.theory.specs.declared.refusal.Refusal.{Refusal}
use Rattle.theory.specs.Steps as steps
use Rattle.books.specs.declared.faults.BookFault.{BookFault}
use Rattle.books.specs.declared.faults.Misfit.{Misfit}
use Rattle.books.specs.declared.faults.Misfit.TheVariants.{Unknown}
use Rattle.books.specs.Faults.{from_net, from_bytes, from_step}
use Rattle.books.specs.declared.step.Kind.{Kind}
use Rattle.books.specs.declared.step.Kind.TheVariants as kinds
use Rattle.books.specs.Frames.{Narrow, frame_table, framed}
use Rattle.books.proofs.Housing.{refused_alike, house_done, house_refused}
use Rattle.books.specs.House.{one, kind, kind_width, parsed, kind_or, step_of, width_of_kind, owned_kind, owned_width, owned_step, byte_of, owns, book_taken, with_fault, after}

few : (k : Kind) → kind_width k ≤ 16
few k = search rules

pub narrow : (first last : ℕ) → Narrow (owned_width first last)
narrow first last b w h = search (rules, few, arith)

-- A step has the first byte of its kind.
module _ (b : ℕ) (bs : List ℕ) (k : Kind) where
  abbrev Begins : Kind → Type 0
  Begins k = byte_of (parsed k bs) ≡ b

  next : (c : ℕ) (k' : Kind) (r : Result Kind Misfit) → (b ≡ c → Begins k') → (r ≡ Ok k → Begins k) → cond (eqb b c) (Ok k') r ≡ Ok k → Begins k
  next c k' r here rest = go (eqb b c) refl
    where
      go : (x : Bool) → eqb b c ≡ x → cond x (Ok k') r ≡ Ok k → Begins k
      go true e h = subst Begins (ok_same h) (here (eqb-true b c e))
      go false e h = rest h

  byte_kept : kind b ≡ Ok k → Begins k
  byte_kept =
      next 0x20 kinds.DropDominated _ (λ e. sym e)
      (next 0x21 kinds.DropMultiple _ (λ e. sym e)
      (next 0x22 kinds.DropComposed _ (λ e. sym e)
      (next 0x23 kinds.DropDraining _ (λ e. sym e)
      (next 0x24 kinds.DropStarved _ (λ e. sym e)
      (next 0x25 kinds.KeepSourceless _ (λ e. sym e)
      (next 0x26 kinds.RemovePlentiful _ (λ e. sym e)
      (next 0x27 kinds.RemoveImplied _ (λ e. sym e)
      (next 0x28 kinds.DropSiphon _ (λ e. sym e)
      (next 0x29 kinds.LimitTo _ (λ e. sym e)
      (next 0x2a kinds.PostAgglomerate _ (λ e. sym e)
      (next 0x2b kinds.PreAgglomerate _ (λ e. sym e)
      (next 0x2c kinds.FreeAgglomerate _ (λ e. sym e)
      (next 0x2d kinds.FireAhead _ (λ e. sym e)
      (next 0x2e kinds.FusePlaces _ (λ e. sym e) (λ h. absurd (ok_not_err h))))))))))))))))

module _ (first last : ℕ) (bs : List ℕ) where
  abbrev Own : Type 0
  Own = owns (owned_width first last) (step_of bs) ≡ true

  pub own : framed (owned_width first last) bs ≡ Ok tt → Own
  own h =
      let o = (passed (frame_table (owned_width first last) bs) tt tt h).0.1.0 in
      ap (λ b. is_some (owned_width first last b)) (of_kind (owned_kind first last (one bs 0)) refl o) ∙ o
    where
      within : (c : Bool) (r : Result Kind Misfit) (k : Kind) → cond c r (Err Unknown) ≡ Ok k → r ≡ Ok k
      within true r k e = e
      within false r k e = absurd (ok_not_err e)

      of_kind : (r : Result Kind Misfit) → owned_kind first last (one bs 0) ≡ r → is_some (width_of_kind r) ≡ true → byte_of (step_of bs) ≡ one bs 0
      of_kind (Ok k) e o =
          let i = within (leb first (one bs 0) && leb (one bs 0) last) (kind (one bs 0)) k e in
          ap (λ x. byte_of (parsed (kind_or x) bs)) i ∙ byte_kept (one bs 0) bs k i
      of_kind (Err f) e o = absurd (both_ways false refl o)

  -- The step that the bytes are is framed by its width, and is the one in them.
  pub read_step : (x : steps.Step) → Ok x ≡ owned_step first last bs → (framed (owned_width first last) bs ≡ Ok tt) × (x ≡ step_of bs)
  read_step x h =
      let p = passed (frame_table (owned_width first last) bs) (step_of bs) x (sym h) in
      (passing (frame_table (owned_width first last) bs) tt p.0, sym p.1)

  pub read_own : (x : steps.Step) → Ok x ≡ owned_step first last bs → owns (owned_width first last) x ≡ true
  read_own x h = let p = read_step x h in ap (owns (owned_width first last)) p.1 ∙ own p.0

  pub no_step : (e : Misfit) → Err e ≡ owned_step first last bs → framed (owned_width first last) bs ≡ Err e
  no_step e h = refused_alike (frame_table (owned_width first last) bs) (step_of bs) tt e (sym h)

-- What the take of a house book gives: of bytes that are no step of it, their misfit; else the next state, or the refusal of the step with
-- nothing changed.
module _ {n : ℕ} (first last : ℕ) (s : State) (bs : List ℕ) (m : Ok tt ≡ measured s.sheet) where
  abbrev Taken : Result Unit (BookFault Refusal n) → State → Type 0
  Taken q t = Answered q t s (book_taken (owned_width first last) step_of s bs)

  pub bytes_refused : (e : Misfit) → Err e ≡ owned_step first last bs → Taken (Err (from_bytes e)) s
  bytes_refused e h = record { answer = sym (ap said gives); state = sym (ap (left s) gives) }
    where
      judging : Result State (BookFault Refusal n)
      judging = with_fault from_step (steps.step s (step_of bs))

      gives : book_taken {first = n} (owned_width first last) step_of s bs ≡ Err (from_bytes e)
      gives =
          ap (λ (q : Result Unit NetFault). after from_net q (after from_bytes (framed (owned_width first last) bs) judging)) (sym m)
          ∙ ap (λ (q : Result Unit Misfit). after from_bytes q judging) (no_step first last bs e h)

  module _ (x : steps.Step) (r : Ok x ≡ owned_step first last bs) where
    pub step_done : (q : Result Unit NetFault) (t : State) → ◌≡◌ {A = Result Unit Refusal} (Ok tt) (judged (steps.table s x) tt)
        → Answered q t s (judged (sheet_checks s) (steps.next s x)) → Taken (Ok tt) t
    step_done q t h a =
        let p = read_step first last bs x r in
        (house_done (from_net {first = n}) from_bytes from_step (owned_width first last) step_of s bs x (sym m) p.0 p.1 q t (sym h) a).1

    pub step_refused : (y : Refusal) → ◌≡◌ {A = Result Unit Refusal} (Err y) (judged (steps.table s x) tt) → Taken (Err (from_step y)) s
    step_refused y h =
        let p = read_step first last bs x r in
        house_refused (from_net {first = n}) from_bytes from_step (owned_width first last) step_of s bs x (sym m) p.0 p.1 y (sym h)

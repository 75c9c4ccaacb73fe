-- Tables in parts.
use Rattle.std.proofs.Common.{◌≡◌, Bool, true, false, cond, List, [], ◌∷◌, ◌++◌, Ok, Err, Result, refl, sym, ap, ◌∙◌, subst}
use Rattle.net.specs.Refusals.{Check, judged, Passes}
use Rattle.net.specs.States.{State, said, left, Answered}
use Rattle.net.proofs.Tables.{ok_not_err, err_same, passed, passing}
use Rattle.books.proofs.Housing.{refused_alike}
use Rattle.theory.specs.declared.refusal.Refusal.{Refusal}

-- What the first lines of a table refuse, the whole table refuses.
refused_early : {X : Type 0} (cs ds : List (Check Refusal)) (x : X) (r : Refusal) → judged cs x ≡ Err r → judged (cs ++ ds) x ≡ Err r
refused_early [] ds x r h = absurd (ok_not_err (sym h))
refused_early (c ∷ cs) ds x r h = go (λ k. refused_early cs ds x r k) c.holds h
  where
    go : (judged cs x ≡ Err r → judged (cs ++ ds) x ≡ Err r) → (b : Bool) → cond b (judged cs x) (Err c.refusal) ≡ Err r
        → cond b (judged (cs ++ ds) x) (Err c.refusal) ≡ Err r
    go rest true k = rest k
    go rest false k = ap (λ (f : Refusal). Err f) (err_same k)

pub first_refused : (cs ds : List (Check Refusal)) (q : Result Unit Refusal) (y r : Refusal) → q ≡ Err y → y ≡ r
    → ◌≡◌ {A = Result Unit Refusal} (Err r) (judged cs tt) → q ≡ judged (cs ++ ds) tt
first_refused cs ds q y r e f h = e ∙ ap (λ (z : Refusal). Err z) f ∙ sym (refused_early cs ds tt r (sym h))

-- Lines that pass are passed over.
passed_over : {X : Type 0} (cs ds : List (Check Refusal)) (x : X) → Passes cs → judged (cs ++ ds) x ≡ judged ds x
passed_over [] ds x p = refl
passed_over (c ∷ cs) ds x p = rw p.0 (passed_over cs ds x p.1)

-- A call that asks the first lines, and then is answered by the others, is answered by all.
pub answered_early : (cs ds : List (Check Refusal)) (s next : State) (q : Result Unit Refusal) (y r : Refusal) → q ≡ Err y → y ≡ r
    → ◌≡◌ {A = Result Unit Refusal} (Err r) (judged cs tt) → Answered q s s (judged (cs ++ ds) next)
answered_early cs ds s next q y r e f h =
    let d : judged (cs ++ ds) next ≡ Err r = refused_early cs ds next r (refused_alike cs tt next r (sym h)) in
    record { answer = e ∙ ap (λ (z : Refusal). Err z) f ∙ sym (ap said d); state = sym (ap (left s) d) }

pub answered_late : (cs ds : List (Check Refusal)) (s t next : State) (q : Result Unit Refusal) → ◌≡◌ {A = Result Unit Refusal} (Ok tt) (judged cs tt)
    → Answered q t s (judged ds next) → Answered q t s (judged (cs ++ ds) next)
answered_late cs ds s t next q h a =
    subst (λ (d : Result State Refusal). Answered q t s d) (sym (passed_over cs ds next (passed cs tt tt (sym h)).0)) a

-- What an answered table says: that it passes, and that the next state is left, or what it refuses, and that nothing is changed.
said_judged : (cs : List (Check Refusal)) (next : State) → said (judged cs next) ≡ judged cs tt
said_judged [] next = refl
said_judged (c ∷ cs) next = go c.holds (said_judged cs next)
  where
    go : (b : Bool) → said (judged cs next) ≡ judged cs tt → said (cond b (judged cs next) (Err c.refusal)) ≡ cond b (judged cs tt) (Err c.refusal)
    go true e = e
    go false e = refl

module _ (cs : List (Check Refusal)) (s t next : State) (q : Result Unit Refusal) (a : Answered q t s (judged cs next)) where
  pub table_passed : q ≡ Ok tt → (◌≡◌ {A = Result Unit Refusal} (Ok tt) (judged cs tt)) × (t ≡ next)
  table_passed e =
      let h : ◌≡◌ {A = Result Unit Refusal} (Ok tt) (judged cs tt) = sym e ∙ a.answer ∙ said_judged cs next in
      (h, a.state ∙ ap (left s) (passing cs next (passed cs tt tt (sym h)).0))

  pub table_refused : (r : Refusal) → q ≡ Err r → (◌≡◌ {A = Result Unit Refusal} (Err r) (judged cs tt)) × (t ≡ s)
  table_refused r e =
      let h : ◌≡◌ {A = Result Unit Refusal} (Err r) (judged cs tt) = sym e ∙ a.answer ∙ said_judged cs next in
      (h, a.state ∙ ap (left s) (refused_alike cs tt next r (sym h)))

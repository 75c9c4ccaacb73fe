-- A table of refusals: the result comes exactly when all conditions hold.
use Rattle.std.proofs.Common.{◌≡◌, ℕ, Bool, true, false, cond, List, [], ◌∷◌, Ok, Err, Result, refl, arith}
use Rattle.net.specs.Refusals.{Check, judged, Passes}

pub ok_not_err : {X F : Type 0} {x : X} {e : F} → ◌≡◌ {A = Result X F} (Err e) (Ok x) → ⊥
ok_not_err h = let z : ◌≡◌ {A = ℕ} 0 1 = cc in omega arith

pub ok_same : {X F : Type 0} {x y : X} → ◌≡◌ {A = Result X F} (Ok x) (Ok y) → x ≡ y
ok_same h = cc

pub err_same : {X F : Type 0} {x y : F} → ◌≡◌ {A = Result X F} (Err x) (Err y) → x ≡ y
err_same h = cc

pub passed : {F X : Type 0} (cs : List (Check F)) (x y : X) → judged cs x ≡ Ok y → Passes cs × (x ≡ y)
passed [] x y h = (tt, ok_same h)
passed (c ∷ cs) x y h = go (λ k. passed cs x y k) c.holds refl h
  where
    go : (judged cs x ≡ Ok y → Passes cs × (x ≡ y)) → (b : Bool) → c.holds ≡ b → cond b (judged cs x) (Err c.refusal) ≡ Ok y
        → ((c.holds ≡ true) × Passes cs) × (x ≡ y)
    go rest true e k = let r = rest k in ((e, r.0), r.1)
    go rest false e k = absurd (ok_not_err k)

pub passing : {F X : Type 0} (cs : List (Check F)) (x : X) → Passes cs → judged cs x ≡ Ok x
passing [] x p = refl
passing (c ∷ cs) x p = rw p.0 (passing cs x p.1)

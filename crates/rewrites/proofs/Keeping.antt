-- Transitions that stay, by a test or by equal flags.
use Rattle.std.proofs.Common.{◌≡◌, ℕ, zero, suc, ◌+◌, ◌<◌, ◌≤◌, Bool, true, false, get_or, cond, ◌&&◌, ltb, List, ◌∷◌, map, Ok, Err, filter, Result, refl, ap, ◌∙◌, subst, arith}
use Rattle.std.proofs.lemmas.Bool.{lt-ltb}
use Rattle.std.specs.List.{range_with_len}
use Rattle.net.specs.declared.net.NetFault.{NetFault}
use Rattle.net.specs.declared.net.NetFault.TheVariants.{WrongSize}
use Rattle.net.specs.Looks.{sheet_checks}
use Rattle.net.specs.Refusals.{judged}
use Rattle.net.specs.Sheets.{row_at}
use Rattle.net.specs.States.{State, sized, mark, left, Answered}
use Rattle.theory.specs.Rewrites.{rewritten, keeping}

kept_same : (f g : ℕ → Bool) (n a : ℕ) → ((i : ℕ) → a ≤ i → i < a + n → f i ≡ g i) → filter f (range_with_len a n) ≡ filter g (range_with_len a n)
kept_same f g zero a h = refl
kept_same f g (suc n) a h =
    ap (λ (b : Bool). cond b (a ∷ filter f (range_with_len (a + 1) n)) (filter f (range_with_len (a + 1) n))) (h a (omega arith) (omega arith))
    ∙ ap (λ (l : List ℕ). cond (g a) (a ∷ l) l) (kept_same f g n (a + 1) (λ i p q. h i (omega arith) (omega arith)))

keeping_same : (f g : ℕ → Bool) (s : State) → ((i : ℕ) → i < s.transitions → f i ≡ g i) → keeping f s ≡ keeping g s
keeping_same f g s h =
    ap (λ (l : List ℕ). rewritten s (mark s) (map (row_at s.sheet) l) s.standing) (kept_same f g s.transitions 0 (λ i _ q. h i (omega arith)))

-- Flags that are those of a test below the number of transitions, and false from there on, keep the same as the test.
pub keeping_answered : (keep : List Bool) (g : ℕ → Bool) (s next : State) (r : Result Unit NetFault) → ((i : ℕ) → get_or keep i false ≡ (ltb i s.transitions && g i))
    → Answered r next s (judged (sheet_checks s) (keeping (λ t. get_or keep t false) s)) → Answered r next s (judged (sheet_checks s) (keeping g s))
keeping_answered keep g s next r h a =
    subst (λ (t : State). Answered r next s (judged (sheet_checks s) t))
    (keeping_same (λ t. get_or keep t false) g s (λ i l. h i ∙ ap (λ b. b && g i) (lt-ltb i s.transitions l))) a

-- A call that refuses only a sheet of wrong size does its work on any other.
pub done : (r : Result Unit NetFault) (t s next : State) → sized s ≡ true → Answered r t s (judged (sheet_checks s) next) → t ≡ next
done r t s next z a = a.state ∙ ap (λ (b : Bool). left s (cond {A = Result State NetFault} b (Ok next) (Err WrongSize))) z

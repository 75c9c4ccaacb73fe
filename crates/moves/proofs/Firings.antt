-- The marks after firings ahead of time, and the last line of the table.
use Rattle.std.proofs.Common.{◌≡◌, ℕ, ◌+◌, ◌*◌, ◌<◌, ◌≤◌, Bool, true, ◌&&◌, leb, ◌⊎◌, inl, inr, List, length, get_or, Result, sym, ap, ◌∙◌, arith}
use mathlib.Core.Path.{fun_ext}
use Rattle.std.proofs.lemmas.Bool.{leb-true, ltb-true, cases_lt}
use Rattle.std.proofs.lemmas.List.{get_or_past}
use Rattle.net.specs.declared.net.Net.{Net}
use Rattle.net.specs.declared.net.NetFault.{NetFault}
use Rattle.net.specs.Refusals.{judged}
use Rattle.net.specs.Looks.{sheet_checks}
use Rattle.net.specs.States.{State, view, rows, Answered}
use Rattle.checks.proofs.Within.{rows_within}
use Rattle.theory.specs.Rewrites.{rewritten, firing_ahead}
use Rattle.theory.specs.Steps.{there, in_limits?}
use Rattle.theory.specs.Tests.{mark_ahead, ahead_fits?}
use Rattle.theory.proofs.Meaning.{part_past}
use Rattle.theory.proofs.Says.{every_at}
use Rattle.theory.proofs.Bounds.{ahead_in_limits}
use Rattle.moves.proofs.Leaving.{sheet_right, left_next}

-- They are within their limit.
pub ahead_below : (s : State) (t k : ℕ) → ahead_fits? s t k ≡ true → (p : ℕ) → p < 64 → mark_ahead s t k p ≤ 4294967295
ahead_below s t k h p l = leb-true (mark_ahead s t k p) 4294967295 (every_at 64 (λ q. leb (mark_ahead s t k q) 4294967295) h p l)

-- Numbers that are these marks at each of the 64 places are these marks as functions of the place.
ahead_marks : (s : State) (t k : ℕ) (ms : List ℕ) → length ms ≡ 64 → ((p : ℕ) → p < 64 → get_or ms p 0 ≡ mark_ahead s t k p)
    → (λ p. get_or ms p 0) ≡ mark_ahead s t k
ahead_marks s t k ms size h = fun_ext (λ p. go p (cases_lt p 64))
  where
    go : (p : ℕ) → (p < 64) ⊎ (64 ≤ p) → get_or ms p 0 ≡ mark_ahead s t k p
    go p (inl l) = h p l
    go p (inr g) =
        get_or_past ms p 0 (omega (arith, size))
        ∙ sym (rw (part_past s.sheet 0 p g, part_past s.sheet (64 + 128 * t) p g, part_past s.sheet (128 + 128 * t) p g) (omega arith))

-- So a net that is given them is the next one.
pub fired : (s : State) (t k : ℕ) (ms : List ℕ) (r : Result Unit NetFault) (u : State) → length s.sheet ≡ 12352 → length ms ≡ 64
    → ((p : ℕ) → p < 64 → get_or ms p 0 ≡ mark_ahead s t k p)
    → Answered r u s (judged (sheet_checks s) (rewritten s (λ p. get_or ms p 0) (rows s) s.standing)) → u ≡ firing_ahead t k s
fired s t k ms r u size many h a =
    left_next s size r u _ a ∙ ap (λ (m : ℕ → ℕ). rewritten s m (rows s) s.standing) (ahead_marks s t k ms many h)

-- The last line asks whether the weights are within theirs, which they are on a sheet of the right size, and they.
pub ahead_limits : (n : Net) (t k : ℕ) → length n.sheet.now ≡ 12352 → there (view n) t ≡ true → (b : Bool) → b ≡ ahead_fits? (view n) t k
    → in_limits? (firing_ahead t k (view n)) ≡ b
ahead_limits n t k size h b e =
    ahead_in_limits (view n) t k (ltb-true t n.shape.transitions h) n.shape.few
    ∙ ap (λ c. c && ahead_fits? (view n) t k) (rows_within n (sym (sheet_right (view n) size))) ∙ sym e

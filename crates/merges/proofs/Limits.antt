-- The last line of an agglomeration's table asks whether the numbers of the next state are within their limits: on a tidy sheet those that
-- stay are, so that it asks for the products.
use Rattle.std.proofs.Common.{◌≡◌, ℕ, ◌+◌, ◌*◌, ◌<◌, ◌≤◌, Bool, true, false, cond, not, ◌&&◌, leb, length, Ok, Err, Result, refl, sym, ap, ◌∙◌, subst, arith}
use Rattle.std.proofs.lemmas.Bool.{lt-ltb, le-leb, eq-eqb, leb-true}
use Rattle.net.specs.declared.net.NetFault.{NetFault}
use Rattle.net.specs.declared.net.NetFault.TheVariants.{BadWeight}
use Rattle.net.specs.Refusals.{Passes}
use Rattle.net.specs.Sheets.{part, most_weight, most_mark}
use Rattle.net.specs.States.{State, mark, Answered}
use Rattle.net.specs.Tidy.{Tidied}
use Rattle.theory.specs.declared.refusal.Refusal.{Refusal}
use Rattle.theory.specs.declared.refusal.Refusal.TheVariants.{PastLimit}
use Rattle.theory.specs.Rewrites.{merging}
use Rattle.theory.specs.Steps.{in_limits?}
use Rattle.theory.specs.Tests.{◌⇒◌, every_place, every_transition, feeder?, consumer?, row_fits?, products_fit?, rest_fits?}
use Rattle.theory.proofs.Bounds.{post_in_limits, pre_in_limits}
use Rattle.theory.proofs.Says.{every_from}
use Rattle.products.specs.declared.pairs.Kind.{Kind}
use Rattle.products.specs.declared.pairs.Kind.TheVariants.{Post, Pre}
use Rattle.products.specs.Products.{product_row, merged}
use Rattle.merges.specs.Merges.{count_lines, limited}

merging_limits : (k : Kind) (s : State) (p : ℕ) → (merging (product_row k s p) p s).transitions ≤ 96
    → in_limits? (merging (product_row k s p) p s) ≡ (rest_fits? s p && products_fit? s p (product_row k s p))
merging_limits Post s p few = post_in_limits s p few
merging_limits Pre s p few = pre_in_limits s p few

-- A test that follows from one that holds.
implied_by : (a b : Bool) → b ≡ true → (a ⇒ b) ≡ true
implied_by true b e = e
implied_by false b e = refl

-- The numbers that an agglomeration leaves as they are.
module _ (s : State) (starts : every_place (λ q. leb (mark s q) most_mark) ≡ true) (tidied : Tidied s.sheet s.transitions) where
  within : (i q : ℕ) → 64 ≤ i → q < 64 → part s.sheet i q ≤ most_weight
  within i q h l = rw (lt-ltb q 64 l) (tidied.weights (i + q) (omega arith))

  row_within : (t : ℕ) → row_fits? s t ≡ true
  row_within t =
      every_from 64 _ (λ q l. rw (le-leb _ _ (within (64 + 128 * t) q (omega arith) l)) (le-leb _ _ (within (128 + 128 * t) q (omega arith) l)))

  pub rest_within : (p : ℕ) → rest_fits? s p ≡ true
  rest_within p =
      let rows : every_transition s (λ t. (not (feeder? s p t) && not (consumer? s p t)) ⇒ row_fits? s t) ≡ true =
      every_from s.transitions _ (λ t l. implied_by (not (feeder? s p t) && not (consumer? s p t)) (row_fits? s t) (row_within t)) in
      ap (λ b. b && every_transition s (λ t. (not (feeder? s p t) && not (consumer? s p t)) ⇒ row_fits? s t)) starts ∙ rows

-- What a merge answers, with its refusals told as the last line's, is what that line says.
module _ (s : State) (k : Kind) (p : ℕ) (rest : rest_fits? s p ≡ true) (size : length s.sheet ≡ 12352) (counts : Passes (count_lines s p (merging (product_row k s p) p s))) where
  abbrev next : State
  next = merging (product_row k s p) p s

  limits : in_limits? next ≡ products_fit? s p (product_row k s p)
  limits = merging_limits k s p (leb-true _ 96 counts.1.0) ∙ ap (λ b. b && products_fit? s p (product_row k s p)) rest

  asked : merged k p s ≡ cond (products_fit? s p (product_row k s p)) (Ok next) (Err BadWeight)
  asked = rw (eq-eqb (length s.sheet) 12352 size, counts.0, counts.1.0) refl

  pub answered_limit : (r : Result Unit NetFault) (t : State) (q : Result Unit Refusal) → Answered r t s (merged k p s) → (r ≡ Ok tt → q ≡ Ok tt)
      → ((e : NetFault) → r ≡ Err e → q ≡ Err PastLimit) → Answered q t s (limited next)
  answered_limit r t q a done refused =
      subst (λ (b : Bool). Answered q t s (cond {A = Result State Refusal} b (Ok next) (Err PastLimit))) (sym limits)
      (go (products_fit? s p (product_row k s p)) (subst (λ (d : Result State NetFault). Answered r t s d) asked a))
    where
      go : (b : Bool) → Answered r t s (cond {A = Result State NetFault} b (Ok next) (Err BadWeight))
          → Answered q t s (cond {A = Result State Refusal} b (Ok next) (Err PastLimit))
      go true x = record { answer = done x.answer; state = x.state }
      go false x = record { answer = refused BadWeight x.answer; state = x.state }

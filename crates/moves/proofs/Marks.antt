-- The marks after firings ahead of time, as they are counted one place after the other.
use Rattle.std.proofs.Common.{◌≡◌, ℕ, ◌+◌, ◌%◌, ◌<◌, Bool, true, false, not, ◌&&◌, leb, ◌⊎◌, inl, inr, List, length, replicate, get_or, set, refl, sym, ap, ◌∙◌, arith, length-set, get_or-set_same, get_or-set_other}
use Rattle.std.specs.Bool.{FalseIff, then_some}
use Rattle.std.specs.Option.{is_some, IfSome}
use Rattle.std.proofs.lemmas.Bool.{cases_eq, le-leb, lt-leb}
use Rattle.std.proofs.lemmas.List.{length-replicate}
use Rattle.net.specs.States.{State}
use Rattle.checks.proofs.Asking.{every_none, every_more, every_done}
use Rattle.theory.specs.Tests.{every, mark_ahead, ahead_fits?}
use Rattle.moves.proofs.Firings.{ahead_below}

module _ (s : State) (t k : ℕ) where
  abbrev fits_at : ℕ → Bool
  fits_at p = leb (mark_ahead s t k p) 4294967295

  -- The places below `n` have these marks, in 32 bits, and it is known whether all of them are within their limit.
  pub record Counted (ms : List ℕ) (all : Bool) (n : ℕ) : Type 0 where
    pub size : length ms ≡ 64
    pub marks : (p : ℕ) → p < n → get_or ms p 0 ≡ mark_ahead s t k p % 4294967296
    pub fit : all ≡ every n fits_at

  pub counted_none : (n : ℕ) → n ≡ 0 → Counted (replicate 64 0) true n
  counted_none n e = record { size = length-replicate {A = ℕ} 64 0; marks = λ p l. absurd (omega arith); fit = every_none fits_at n e }

  fits_not_past : (p : ℕ) (past : Bool) → FalseIff past (mark_ahead s t k p < 4294967296) → not past ≡ fits_at p
  fits_not_past p true h = sym (lt-leb (mark_ahead s t k p) 4294967295 (omega (arith, h)))
  fits_not_past p false h = sym (le-leb (mark_ahead s t k p) 4294967295 (omega (arith, h)))

  pub counted_more : (ms : List ℕ) (all : Bool) (n m i y : ℕ) (past : Bool) → m ≡ n + 1 → i ≡ n → n < 64 → y ≡ mark_ahead s t k n % 4294967296
      → FalseIff past (mark_ahead s t k n < 4294967296) → Counted ms all n → Counted (set ms i y) (all && not past) m
  counted_more ms all n m i y past e f l g h x =
      record {
        size = length-set ms i y ∙ x.size;
        marks = λ p a. go p a (cases_eq p i);
        fit = every_more fits_at n m all (not past) e x.fit (fits_not_past n past h);
      }
    where
      go : (p : ℕ) → p < m → (p ≡ i) ⊎ (p ≡ i → ⊥) → get_or (set ms i y) p 0 ≡ mark_ahead s t k p % 4294967296
      go p a (inl c) = ap (λ j. get_or (set ms i y) j 0) c ∙ get_or-set_same ms i y 0 (omega (arith, x.size)) ∙ g ∙ ap (λ j. mark_ahead s t k j % 4294967296) (sym (c ∙ f))
      go p a (inr c) = get_or-set_other ms i p y 0 c ∙ x.marks p (omega arith)

  module _ (ms : List ℕ) (all : Bool) (n : ℕ) (e : n ≡ 64) (x : Counted ms all n) where
    whole : all ≡ ahead_fits? s t k
    whole = every_done fits_at n 64 all e x.fit

    pub counted_fit : is_some (then_some all ms) ≡ ahead_fits? s t k
    counted_fit = go all ∙ whole
      where
        go : (b : Bool) → is_some (then_some b ms) ≡ b
        go true = refl
        go false = refl

    pub counted_marks : IfSome (then_some all ms) (λ ms. (p : ℕ) → p < 64 → get_or ms p 0 ≡ mark_ahead s t k p)
    counted_marks = go all whole
      where
        go : (b : Bool) → b ≡ ahead_fits? s t k → IfSome (then_some b ms) (λ ms. (p : ℕ) → p < 64 → get_or ms p 0 ≡ mark_ahead s t k p)
        go true h = λ p l. x.marks p (omega arith) ∙ omega (arith, ahead_below s t k (sym h) p l)
        go false h = tt

-- A sheet from which some places are taken.
use Rattle.std.proofs.Common.{◌≡◌, ℕ, ◌+◌, ◌*◌, ◌/◌, ◌%◌, ◌<◌, ◌≤◌, Bool, true, false, cond, not, eqb, ◌⊎◌, List, length, get_or, Ok, Result, sym, refl, ap, ◌∙◌, inl, inr, arith}
use Rattle.std.proofs.lemmas.Bool.{cases_lt, lt-ltb, cond_both}
use Rattle.std.proofs.lemmas.List.FromFn.{fill_by_all}
use Rattle.net.specs.declared.net.NetFault.{NetFault}
use Rattle.net.specs.Refusals.{Check, judged}
use Rattle.net.specs.States.{State, mark, Answered}
use Rattle.net.specs.Sheets.{part, mark_at, sheet_of}
use Rattle.net.specs.Tidy.{Tidied}
use Rattle.theory.specs.Nexts.{off, inside}
use Rattle.theory.specs.Rewrites.{rewritten, flags_by}
use Rattle.rewrites.specs.Rows.{changed_in, Limited}
use Rattle.rewrites.proofs.Parts.{length_changed, parts_all}
use Rattle.rewrites.proofs.Sized.{answered, rewritten_is}

-- One part: the numbers of the first `i` places are looked at, and one stays or becomes 0.
module _ (stays : ℕ → Bool) (xs : List ℕ) where
  abbrev pub Looked : List ℕ → ℕ → Type 0
  Looked ys i =
      ((q : ℕ) → q < i → get_or ys q 0 ≡ cond (stays q) (get_or xs q 0) 0) × ((q : ℕ) → i ≤ q → get_or ys q 0 ≡ get_or xs q 0) × (length ys ≡ 64)

-- The end: what is cleared of a tidy sheet is tidy, and is the sheet with its parts changed.
module _ (xs ys : List ℕ) (stays : ℕ → Bool) (n : ℕ) (p : Limited xs ys stays (1 + 2 * n)) (tidied : Tidied xs n) where
  pub limited_tidy : Tidied ys n
  limited_tidy =
      record { unused = λ i h. p.rest i (omega arith) ∙ tidied.unused i h; weights = λ i h. go i h (cases_lt i (64 * (1 + 2 * n))) }
    where
      go : (i : ℕ) → 64 ≤ i → (i < 64 * (1 + 2 * n)) ⊎ (64 * (1 + 2 * n) ≤ i) → get_or ys i 0 ≤ 65535
      go i h (inl l) =
          let e : i ≡ 64 * (i / 64) + i % 64 = omega arith in
          let w : cond (stays (i % 64)) (get_or xs (64 * (i / 64) + i % 64) 0) 0 ≤ 65535 =
          cond_both (stays (i % 64)) (get_or xs (64 * (i / 64) + i % 64) 0) 0 (λ z. z ≤ 65535)
          (λ _. tidied.weights (64 * (i / 64) + i % 64) (omega arith)) (λ _. omega arith) in
          omega (arith, ap (λ z. get_or ys z 0) e, p.parts (i / 64) (i % 64) (omega arith) (omega arith), w)
      go i h (inr g) = omega (arith, p.rest i g, tidied.weights i h)

  pub limited_all : (change : (ℕ → ℕ) → ℕ → ℕ) → ((f : ℕ → ℕ) (q : ℕ) → q < 64 → cond (stays q) (f q) 0 ≡ change f q) → length ys ≡ 12352
      → ys ≡ sheet_of (change (mark_at xs)) (changed_in change xs n)
  limited_all change told whole = parts_all change n xs ys whole parts (λ i a h. p.rest i (omega arith) ∙ tidied.unused i a)
    where
      parts : (k q : ℕ) → k < 1 + 2 * n → q < 64 → get_or ys (64 * k + q) 0 ≡ change (part xs (64 * k)) q
      parts k q h l =
          let d : get_or xs (64 * k + q) 0 ≡ part xs (64 * k) q = rw (lt-ltb q 64 l) in
          p.parts k q h l ∙ ap (λ z. cond (stays q) z 0) d ∙ told (part xs (64 * k)) q l

cond_not : (b : Bool) (x y : ℕ) → cond (not b) x y ≡ cond b y x
cond_not true x y = refl
cond_not false x y = refl

pub off_stays : (a : ℕ) (f : ℕ → ℕ) (q : ℕ) → q < 64 → cond (not (eqb q a)) (f q) 0 ≡ off a f q
off_stays a f q l = cond_not (eqb q a) (f q) 0

pub inside_stays : (flags : List Bool) (z : ℕ → Bool) → ((q : ℕ) → q < 64 → get_or flags q false ≡ z q)
    → (f : ℕ → ℕ) (q : ℕ) → q < 64 → cond (get_or flags q false) (f q) 0 ≡ inside z f q
inside_stays flags z e f q l = ap (λ b. cond b (f q) 0) (e q l)

pub all_flags : (f : ℕ → Bool) (bs : List Bool) → length bs ≡ 64 → ((i : ℕ) → i < 64 → get_or bs i false ≡ f i) → bs ≡ flags_by f
unfolding flags_by
all_flags f bs h e = fill_by_all f bs 64 false h e

-- A net from which places are taken is what its definition says.
module _ (s : State) (cs : List (Check NetFault)) (asked : ◌≡◌ {A = Result Unit NetFault} (judged cs tt) (Ok tt)) (tidied : Tidied s.sheet s.transitions) (stays : ℕ → Bool) (ys : List ℕ)
    (p : Limited s.sheet ys stays (1 + 2 * s.transitions)) where
  pub places_left : (change : (ℕ → ℕ) → ℕ → ℕ) (flags standing : List Bool) → ((f : ℕ → ℕ) (q : ℕ) → q < 64 → cond (stays q) (f q) 0 ≡ change f q)
      → length ys ≡ 12352 → flags ≡ standing
      → Answered (Ok tt) (record { sheet = ys; transitions = s.transitions; standing = flags; support = s.support; question = s.question }) s
      (judged cs (rewritten s (change (mark s)) (changed_in change s.sheet s.transitions) standing))
  places_left change flags standing told whole same =
      answered s cs asked _ (rewritten s (change (mark s)) (changed_in change s.sheet s.transitions) standing)
      (rewritten_is s ys s.transitions (change (mark s)) (changed_in change s.sheet s.transitions) standing flags
      (limited_all s.sheet ys stays s.transitions p tidied change told whole) (sym (length_changed change s.transitions s.sheet)) same)

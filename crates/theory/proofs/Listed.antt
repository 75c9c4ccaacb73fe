-- A sheet made from marks and rows holds the net with those marks and rows.
use Rattle.std.proofs.Common.{◌≡◌, ℕ, zero, suc, ◌+◌, ◌-◌, ◌*◌, ◌/◌, ◌%◌, ◌<◌, ◌≤◌, Bool, ltb, ◌⊎◌, List, [], ◌∷◌, length, get_or, sym, refl, ap, ◌∙◌, subst, inl, inr, arith}
use mathlib.Core.List.{Memᴰ}
use Rattle.std.proofs.lemmas.Bool.{lt-ltb, le-ltb, cases_lt, cond_both}
use Rattle.std.proofs.lemmas.List.{get_or_past}
use Rattle.net.specs.Sheets.{Row, no_row, number, cell, sheet_of, part}
use Rattle.net.specs.States.{State}
use Rattle.net.proofs.Writes.{made_by, length_by, number_by}
use Rattle.theory.specs.Nets.{Net, SameRow, SameNet}
use Rattle.theory.specs.Rewrites.{rewritten}
use Rattle.theory.specs.Laws.{net_of}

-- What stands at a number of a list is in the list, and what is in it stands somewhere.
pub mem_at : {A : Type 0} (l : List A) (i : ℕ) (d : A) → i < length l → Memᴰ (get_or l i d) l
mem_at [] i d h = absurd (omega arith)
mem_at (x ∷ xs) zero d h = Memᴰ.head refl
mem_at (x ∷ xs) (suc i) d h = Memᴰ.tail (mem_at xs i d (omega arith))

at_mem : {A : Type 0} {a : A} {l : List A} (d : A) → Memᴰ a l → (i : ℕ) × (i < length l) × (get_or l i d ≡ a)
at_mem d (Memᴰ.head e) = (0, omega arith, sym e)
at_mem d (Memᴰ.tail m) = let r = at_mem d m in (suc r.0, omega (arith, r.1), r.2)

-- The numbers of a row, and those past the last row.
number_take : (r : Row) (p : ℕ) → p < 64 → number r p ≡ r.takes p
number_take r p h = rw (lt-ltb p 64 h)

number_put : (r : Row) (p : ℕ) → number r (64 + p) ≡ r.puts p
number_put r p = rw (le-ltb (64 + p) 64 (omega arith)) (ap (λ q. r.puts q) (omega arith))

no_number : (j : ℕ) → number no_row j ≡ 0
no_number j = cond_both (ltb j 64) 0 0 (λ z. z ≡ 0) (λ _. refl) (λ _. refl)

cell_past : (marks : ℕ → ℕ) (rows : List Row) (i : ℕ) → 64 + 128 * length rows ≤ i → cell marks rows i ≡ 0
cell_past marks rows i g =
    rw (le-ltb i 64 (omega arith))
    (ap (λ (r : Row). number r ((i - 64) % 128)) (get_or_past rows ((i - 64) / 128) no_row (omega arith)) ∙ no_number ((i - 64) % 128))

-- The marks and the rows of a made sheet.
module _ (marks : ℕ → ℕ) (rows : List Row) (fits : length rows ≤ 96) where
  pub cell_in : (i : ℕ) → get_or (sheet_of marks rows) i 0 ≡ cell marks rows i
  cell_in i = go (cases_lt i 12352)
    where
      go : (i < 12352) ⊎ (12352 ≤ i) → get_or (sheet_of marks rows) i 0 ≡ cell marks rows i
      go (inl h) = number_by (cell marks rows) i h
      go (inr g) =
          get_or_past (sheet_of marks rows) i 0 (omega (arith, length_by (cell marks rows))) ∙ sym (cell_past marks rows i (omega arith))

  pub past_in : (i : ℕ) → 64 + 128 * length rows ≤ i → get_or (sheet_of marks rows) i 0 ≡ 0
  past_in i g = cell_in i ∙ cell_past marks rows i g

  pub row_in : (i t j : ℕ) → i ≡ 64 + 128 * t + j → j < 128 → get_or (sheet_of marks rows) i 0 ≡ number (get_or rows t no_row) j
  row_in i t j e l =
      let a : (i - 64) / 128 ≡ t = omega arith in
      let b : (i - 64) % 128 ≡ j = omega arith in
      cell_in i ∙ rw (le-ltb i 64 (omega arith), a, b)

  pub start_in : (p : ℕ) → p < 64 → part (sheet_of marks rows) 0 p ≡ marks p
  start_in p h = rw (lt-ltb p 64 h) (cell_in (0 + p) ∙ rw (lt-ltb (0 + p) 64 (omega arith)) (ap marks (omega arith)))

  pub takes_in : (t p : ℕ) → p < 64 → part (sheet_of marks rows) (64 + 128 * t) p ≡ (get_or rows t no_row).takes p
  takes_in t p h = rw (lt-ltb p 64 h) (row_in (64 + 128 * t + p) t p (omega arith) (omega arith) ∙ number_take (get_or rows t no_row) p h)

  pub puts_in : (t p : ℕ) → p < 64 → part (sheet_of marks rows) (128 + 128 * t) p ≡ (get_or rows t no_row).puts p
  puts_in t p h = rw (lt-ltb p 64 h) (row_in (128 + 128 * t + p) t (64 + p) (omega arith) (omega arith) ∙ number_put (get_or rows t no_row) p)

-- A net has only the 64 places.
pub record Narrow (N : Net) : Type 0 where
  pub start : (p : ℕ) → 64 ≤ p → N.start p ≡ 0
  pub row : (t : N.Trans) (p : ℕ) → 64 ≤ p → (N.take t p ≡ 0) × (N.put t p ≡ 0)

-- A row has what a transition takes and puts.
abbrev pub Shows : (N : Net) → N.Trans → Row → Type 0
Shows N t r = (p : ℕ) → p < 64 → (N.take t p ≡ r.takes p) × (N.put t p ≡ r.puts p)

-- The rows are those of the net's transitions, in any order.
pub record Lists (N : Net) (marks : ℕ → ℕ) (rows : List Row) : Type 0 where
  pub marked : (p : ℕ) → p < 64 → N.start p ≡ marks p
  pub each : (t : N.Trans) → (r : Row) × Memᴰ r rows × Shows N t r
  pub every : (r : Row) → Memᴰ r rows → (t : N.Trans) × Shows N t r

module _ (N : Net) (s : State) (marks : ℕ → ℕ) (rows : List Row) (standing : List Bool) (fits : length rows ≤ 96) (narrow : Narrow N)
    (lists : Lists N marks rows) where
  abbrev Next : Net
  Next = net_of (rewritten s marks rows standing)

  shown : (t : N.Trans) (u : Next.Trans) → Shows N t (get_or rows u.0 no_row) → SameRow N Next t u
  shown t u r p = go (cases_lt p 64)
    where
      go : (p < 64) ⊎ (64 ≤ p) → (N.take t p ≡ Next.take u p) × (N.put t p ≡ Next.put u p)
      go (inl l) = ((r p l).0 ∙ sym (takes_in marks rows fits u.0 p l), (r p l).1 ∙ sym (puts_in marks rows fits u.0 p l))
      go (inr g) = rw (le-ltb p 64 g) (narrow.row t p g)

  there : (t : N.Trans) → (u : Next.Trans) × SameRow N Next t u
  there t =
      let x = lists.each t in
      let i = at_mem no_row x.1 in
      ((i.0, i.1), shown t (i.0, i.1) (subst (Shows N t) (sym i.2) x.2))

  back : (u : Next.Trans) → (t : N.Trans) × SameRow N Next t u
  back u =
      let x = lists.every (get_or rows u.0 no_row) (mem_at rows u.0 no_row u.1) in
      (x.0, shown x.0 u x.1)

  begin : (p : ℕ) → N.start p ≡ Next.start p
  begin p = go (cases_lt p 64)
    where
      go : (p < 64) ⊎ (64 ≤ p) → N.start p ≡ Next.start p
      go (inl l) = lists.marked p l ∙ sym (start_in marks rows fits p l)
      go (inr g) = rw (le-ltb p 64 g) (narrow.start p g)

  pub listed_same : SameNet N Next
  listed_same = record { begins = begin; there = there; back = back }

-- A sheet is the made one if its marks and rows are, and it has 0 past them: what a loop over rows shows.
module _ (ys : List ℕ) (marks : ℕ → ℕ) (rs : List Row) (whole : length ys ≡ 12352)
    (marked : (p : ℕ) → p < 64 → get_or ys p 0 ≡ marks p)
    (rowed : (t j : ℕ) → t < length rs → j < 128 → get_or ys (64 + 128 * t + j) 0 ≡ number (get_or rs t no_row) j)
    (rest : (i : ℕ) → 64 + 128 * length rs ≤ i → i < 12352 → get_or ys i 0 ≡ 0) where
  as_cell : (i : ℕ) → i < 12352 → get_or ys i 0 ≡ cell marks rs i
  as_cell i h = go (cases_lt i 64) (cases_lt i (64 + 128 * length rs))
    where
      t : ℕ
      t = (i - 64) / 128

      j : ℕ
      j = (i - 64) % 128

      go : (i < 64) ⊎ (64 ≤ i) → (i < 64 + 128 * length rs) ⊎ (64 + 128 * length rs ≤ i) → get_or ys i 0 ≡ cell marks rs i
      go (inl l) b = rw (lt-ltb i 64 l) (marked i l)
      go (inr g) (inl l) =
          let e : i ≡ 64 + 128 * t + j = omega arith in
          rw (le-ltb i 64 g) (ap (λ k. get_or ys k 0) e ∙ rowed t j (omega arith) (omega arith))
      go (inr g) (inr l) = rest i l h ∙ sym (cell_past marks rs i l)

  pub sheet_from : ys ≡ sheet_of marks rs
  sheet_from = made_by (cell marks rs) ys whole as_cell

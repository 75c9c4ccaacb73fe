-- The next states of the steps: other marks, rows and standing places; all 12,352 numbers of the sheet follow from these.
use Rattle.std.specs.Prelude.{ℕ, ◌+◌, ◌-◌, ◌*◌, ◌/◌, Bool, false, not, ◌&&◌, List, [], ◌∷◌, ◌++◌, map, length, ◌==◌, nat_eq, slice_set}
use Rattle.std.specs.List.{range_with_len}
use Rattle.net.specs.Sheets.{Row, row_at, sheet_of}
use Rattle.net.specs.States.{State, stands, mark, take, put, rows}
use Rattle.theory.specs.Nexts.{off, inside, fuse}
use Rattle.theory.specs.Tests.{those, takes_from?, outside, feeder?, consumer?, feeders, consumers}

abbrev pub rewritten : State → (ℕ → ℕ) → List Row → List Bool → State
rewritten s marks rs standing =
    record {
      sheet = sheet_of marks rs;
      transitions = length rs;
      standing = standing;
      support = s.support;
      question = s.question;
    }

-- Only the transitions of which `keep` is true stay; the list closes up.
abbrev pub kept_rows : (ℕ → Bool) → State → List Row
kept_rows keep s = map (row_at s.sheet) (those keep s.transitions)

abbrev pub keeping : (ℕ → Bool) → State → State
keeping keep s = rewritten s (mark s) (kept_rows keep s) s.standing

abbrev pub dropping : ℕ → State → State
dropping t s = keeping (λ v. not (v == t)) s

abbrev pub keeping_only : ℕ → State → State
keeping_only t s = keeping (λ v. nat_eq v t) s

abbrev pub dropping_takers : (ℕ → Bool) → State → State
dropping_takers z s = keeping (λ t. not (takes_from? s z t)) s

-- Place `p` goes: its mark and weights become 0.
abbrev pub off_row : ℕ → Row → Row
off_row p r = record { takes = off p r.takes; puts = off p r.puts }

abbrev pub leaving : ℕ → State → State
leaving p s = rewritten s (off p (mark s)) (map (off_row p) (rows s)) (slice_set s.standing p false)

-- What takes from outside the set is dropped, and the places outside go.
abbrev pub in_row : (ℕ → Bool) → Row → Row
in_row z r = record { takes = inside z r.takes; puts = inside z r.puts }

-- The 64 flags of a test of places; shut, since opened it would be counted out.
unfoldable pub flags_by : (ℕ → Bool) → List Bool
flags_by f = map f (range_with_len 0 64)

abbrev pub limiting : (ℕ → Bool) → State → State
limiting z s =
    rewritten s (inside z (mark s)) (map (in_row z) (kept_rows (λ t. not (takes_from? s (outside z) t)) s)) (flags_by (λ p. stands s p && z p))

-- For each of the first, then each of the second.
abbrev pub crossed : (ℕ → ℕ → Row) → List ℕ → List ℕ → List Row
crossed f [] gs = []
crossed f (h ∷ hs) gs = map (f h) gs ++ crossed f hs gs

-- Agglomeration at `p`: feeders and consumers are dropped, and their products follow, for each feeder and then each consumer.
abbrev pub merged_rows : (ℕ → ℕ → Row) → ℕ → State → List Row
merged_rows product p s =
    kept_rows (λ t. not (feeder? s p t) && not (consumer? s p t)) s ++ crossed product (feeders s p) (consumers s p)

abbrev pub merging : (ℕ → ℕ → Row) → ℕ → State → State
merging product p s = rewritten s (mark s) (merged_rows product p s) (slice_set s.standing p false)

-- The product of feeder `h` and consumer `f`: `h`'s takes, and `h`'s puts outside `p` plus `f`'s as often as `h` feeds it.
abbrev pub post_row : State → ℕ → ℕ → ℕ → Row
post_row s p h f =
    record {
      takes = take s h;
      puts = λ q. off p (put s h) q + (put s h p / take s f p) * put s f q;
    }

abbrev pub post_merging : ℕ → State → State
post_merging p s = merging (post_row s p) p s

-- The product of feeder `h` and consumer `f`: `h`'s takes plus `f`'s outside `p`, and `f`'s puts.
abbrev pub pre_row : State → ℕ → ℕ → ℕ → Row
pre_row s p h f =
    record {
      takes = λ q. take s h q + off p (take s f) q;
      puts = put s f;
    }

abbrev pub pre_merging : ℕ → State → State
pre_merging p s = merging (pre_row s p) p s

-- The start marking becomes that after `k` firings of `t`.
abbrev pub firing_ahead : ℕ → ℕ → State → State
firing_ahead t k s = rewritten s (λ p. (mark s p - k * take s t p) + k * put s t p) (rows s) s.standing

-- Weights and mark of `q` are added to those of `p`, and `q` goes.
abbrev pub fuse_row : ℕ → ℕ → Row → Row
fuse_row p q r = record { takes = fuse p q r.takes; puts = fuse p q r.puts }

abbrev pub fusing : ℕ → ℕ → State → State
fusing p q s = rewritten s (fuse p q (mark s)) (map (fuse_row p q) (rows s)) (slice_set s.standing q false)

-- The qualities that every net has.
use Rattle.std.specs.Prelude.{◌≡◌, ℕ, ◌≤◌, true, false, List, length, slice_index}
use Rattle.net.specs.Sheets.{sheet_size, most_places, most_transitions, most_weight, most_mark, takes_base}
use Rattle.net.specs.States.{State, stands, in_support, mark, take, put}
use Rattle.net.specs.Drafts.{Call, started, after_calls}

pub record Qualities (s : State) : Type 0 where
  pub size : length s.sheet ≡ sheet_size
  pub few : s.transitions ≤ most_transitions
  pub places : length s.standing ≡ most_places
  pub supports : length s.support ≡ most_places
  -- the support is of standing places
  pub supported : (p : ℕ) → in_support s p ≡ true → stands s p ≡ true
  -- a place that is gone has mark and weights 0
  pub gone_mark : (p : ℕ) → stands s p ≡ false → mark s p ≡ 0
  pub gone_take : (t p : ℕ) → stands s p ≡ false → take s t p ≡ 0
  pub gone_put : (t p : ℕ) → stands s p ≡ false → put s t p ≡ 0
  -- numbers past the last row are 0
  pub unused : (i : ℕ) → takes_base s.transitions ≤ i → slice_index s.sheet i ≡ 0
  -- weights and marks are in their limits
  pub takes : (t p : ℕ) → take s t p ≤ most_weight
  pub puts : (t p : ℕ) → put s t p ≤ most_weight
  pub marks : (p : ℕ) → mark s p ≤ most_mark

-- A state over a sheet of the right size has the qualities.
abbrev pub Sound : State → Type 0
Sound s = length s.sheet ≡ sheet_size → Qualities s

-- Every net that can be drafted has the qualities: whatever the sheet held, after any list of calls.
abbrev pub DraftsHaveQualities : Type 0
DraftsHaveQualities = (xs : List ℕ) → length xs ≡ sheet_size → (cs : List Call) → Qualities (after_calls (started xs) cs)

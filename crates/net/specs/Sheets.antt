-- The sheet: 12,352 numbers that hold the start marks and the rows of takes and puts of a net.
use Rattle.std.specs.Prelude.{ℕ, ◌+◌, ◌-◌, ◌*◌, ◌/◌, ◌%◌, cond, List, map, nat_lt, slice_index, slice_index_or}
use Rattle.std.specs.List.{range_with_len}
use Rattle.net.specs.declared.net.Side.{Side}
use Rattle.net.specs.declared.net.Side.TheVariants.{Takes, Puts}

-- The limits of a net.
abbrev pub most_places : ℕ
most_places = 64

abbrev pub most_transitions : ℕ
most_transitions = 96

abbrev pub most_weight : ℕ
most_weight = 65535

abbrev pub most_mark : ℕ
most_mark = 4294967295

-- The size of a sheet: 64 marks, and 64 takes and 64 puts for each of 96 transitions.
abbrev pub sheet_size : ℕ
sheet_size = 12352

-- Where the takes and the puts of transition `t` begin; the marks begin at 0.
abbrev pub takes_base : ℕ → ℕ
takes_base t = 64 + 128 * t

abbrev pub puts_base : ℕ → ℕ
puts_base t = 128 + 128 * t

-- Where the weights of transition `t` on one side begin.
abbrev pub base : Side → ℕ → ℕ
base Takes t = takes_base t
base Puts t = puts_base t

-- The 64 numbers of a sheet from `from` on, by place: 0 past the last place.
abbrev pub part : List ℕ → ℕ → ℕ → ℕ
part xs from p = cond (nat_lt p most_places) (slice_index xs (from + p)) 0

-- The start mark of place `p`, and what transition `t` takes from it and puts there.
abbrev pub mark_at : List ℕ → ℕ → ℕ
mark_at xs p = part xs 0 p

abbrev pub take_at : List ℕ → ℕ → ℕ → ℕ
take_at xs t p = part xs (takes_base t) p

abbrev pub put_at : List ℕ → ℕ → ℕ → ℕ
put_at xs t p = part xs (puts_base t) p

-- What a transition takes from each place and puts there.
pub record Row : Type 0 where
  pub takes : ℕ → ℕ
  pub puts : ℕ → ℕ

abbrev pub no_row : Row
no_row = record { takes = λ _. 0; puts = λ _. 0 }

-- The row of transition `t`, and the rows of the first `n` transitions.
abbrev pub row_at : List ℕ → ℕ → Row
row_at xs t = record { takes = take_at xs t; puts = put_at xs t }

abbrev pub rows_in : List ℕ → ℕ → List Row
rows_in xs n = map (row_at xs) (range_with_len 0 n)

-- The 128 numbers of a row: its takes, then its puts.
abbrev pub number : Row → ℕ → ℕ
number r j = cond (nat_lt j 64) (r.takes j) (r.puts (j - 64))

-- The number at `i` of the sheet that marks and rows make: 0 past the last row.
abbrev pub cell : (ℕ → ℕ) → List Row → ℕ → ℕ
cell marks rows i = cond (nat_lt i 64) (marks i) (number (slice_index_or rows ((i - 64) / 128) no_row) ((i - 64) % 128))

-- The sheet with the number `f i` at each `i`. It stays shut, since opened it would be counted out.
unfoldable pub sheet_by : (ℕ → ℕ) → List ℕ
sheet_by f = map f (range_with_len 0 sheet_size)

-- The sheet that marks and rows make: all 12,352 numbers.
abbrev pub sheet_of : (ℕ → ℕ) → List Row → List ℕ
sheet_of marks rows = sheet_by (cell marks rows)

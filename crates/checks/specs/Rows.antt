-- The numbers of a sheet by 64, as they are lent.
use Rattle.std.specs.Prelude.{ℕ, ◌+◌, cond, List, length, nat_le}
use Rattle.net.specs.Sheets.{most_places, part}

-- The 64 numbers of a sheet from `from` on, by place, where all of them are there; 0 where they are not.
abbrev pub whole : List ℕ → ℕ → ℕ → ℕ
whole xs from p = cond (nat_le (from + most_places) (length xs)) (part xs from p) 0

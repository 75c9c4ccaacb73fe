-- What a transition leaves untouched on one side.
use Rattle.std.specs.Prelude.{ℕ, Bool, false, not, ◌==◌, List, nat_eq, slice_index_or}
use Rattle.net.specs.declared.net.Side.{Side}
use Rattle.net.specs.Sheets.{base, part}
use Rattle.net.specs.States.{State, in_support}
use Rattle.theory.specs.Tests.{◌⇒◌, every_place}

-- The weight of a transition at a place, on one side: what it takes, or what it puts.
abbrev pub weight : Side → State → ℕ → ℕ → ℕ
weight d s t p = part s.sheet (base d t) p

-- On this side `t` touches no place but `p`.
abbrev pub touches_only? : Side → State → ℕ → ℕ → Bool
touches_only? d s t p = every_place (λ q. not (q == p) ⇒ nat_eq (weight d s t q) 0)

-- On this side `t` touches no place of a set, and none of the support.
abbrev pub spares? : Side → State → (ℕ → Bool) → ℕ → Bool
spares? d s z t = every_place (λ q. z q ⇒ nat_eq (weight d s t q) 0)

abbrev pub spares_support? : Side → State → ℕ → Bool
spares_support? d s t = spares? d s (in_support s) t

-- The set of the places whose flag is true.
abbrev pub flagged : List Bool → ℕ → Bool
flagged fs p = slice_index_or fs p false

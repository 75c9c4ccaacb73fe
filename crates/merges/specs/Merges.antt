-- The third house book owns 2A, 2B and 2C: agglomerations, which merge the feeders and the consumers of a place.
use Rattle.std.specs.Prelude.{ℕ, ◌*◌, not, ◌&&◌, List, [], ◌∷◌, ◌++◌, length, Result, nat_le}
use Rattle.net.specs.Refusals.{Check, ◌unless◌, judged}
use Rattle.net.specs.Sheets.{most_transitions}
use Rattle.net.specs.States.{State, stands, in_support}
use Rattle.theory.specs.declared.refusal.Refusal.{Refusal}
use Rattle.theory.specs.declared.refusal.Refusal.TheVariants.{NoPlace, Support, Arcs, Marks, TooManyPairs, TooManyRows, PastLimit}
use Rattle.theory.specs.Tests.{feeders, consumers, two_sided?, unmarked?, post_consumers?, post_weights?, free_feeders?, pre_feeders?, free_consumers?}
use Rattle.theory.specs.Rewrites.{post_merging, pre_merging}
use Rattle.theory.specs.Steps.{reach_only, in_limits?}
use Rattle.books.specs.declared.faults.BookFault.{BookFault}
use Rattle.books.specs.Frames.{Widths}
use Rattle.books.specs.House.{owned_width, step_of, book_taken}

-- The width of the operands.
abbrev pub merge_width : Widths
merge_width b = owned_width 0x2a 0x2c b

-- The lines of the three tables before the products: the first ones, those on the numbers of pairs and of transitions afterwards, and the
-- last ones, which end with these.
abbrev pub first_lines : State → ℕ → List (Check Refusal)
first_lines s p = NoPlace unless stands s p ∷ Support unless not (in_support s p) ∷ Arcs unless two_sided? s p ∷ []

abbrev pub count_lines : State → ℕ → State → List (Check Refusal)
count_lines s p next =
    TooManyPairs unless nat_le (length (feeders s p) * length (consumers s p)) 32 ∷ TooManyRows unless nat_le next.transitions most_transitions ∷ []

abbrev pub last_lines : State → ℕ → State → List (Check Refusal)
last_lines s p next = Marks unless unmarked? s p ∷ count_lines s p next

-- All these lines of each table.
abbrev pub post_lines : State → ℕ → List (Check Refusal)
post_lines s p =
    first_lines s p ++ Arcs unless post_consumers? s p ∷ Arcs unless post_weights? s p ∷ last_lines s p (post_merging p s)

abbrev pub pre_lines : State → ℕ → List (Check Refusal)
pre_lines s p =
    first_lines s p
    ++ Arcs unless (free_feeders? s p && pre_feeders? s p)
    ∷ Arcs unless free_consumers? s p
    ∷ last_lines s p (pre_merging p s)

abbrev pub free_lines : State → ℕ → List (Check Refusal)
free_lines s p =
    reach_only s
    ∷ (first_lines s p ++ Arcs unless free_feeders? s p ∷ Arcs unless free_consumers? s p ∷ last_lines s p (pre_merging p s))

-- The last line of each table, on the limits of the next state, and that state.
abbrev pub limit_line : State → List (Check Refusal)
limit_line next = PastLimit unless in_limits? next ∷ []

abbrev pub limited : State → Result State Refusal
limited next = judged (limit_line next) next

-- What the book gives.
abbrev pub merge_taken : State → List ℕ → Result State (BookFault Refusal 0x2a)
merge_taken s bs = book_taken merge_width step_of s bs

-- The four house books joined: 20 to 27, then 28 and 29, then 2A to 2C, then 2D and 2E.
use Rattle.std.specs.Prelude.{◌≡◌, ℕ, ◌/◌, ◌%◌, true, List, [], ◌∷◌, length, Ok, Err, Result}
use Rattle.net.specs.States.{State, sized}
use Rattle.theory.specs.declared.refusal.Refusal.{Refusal}
use Rattle.theory.specs.Steps as steps
use Rattle.books.specs.declared.faults.BookFault.{BookFault}
use Rattle.books.specs.declared.joined.EitherFault.{EitherFault}
use Rattle.books.specs.Faults.{book_number}
use Rattle.books.specs.Frames.{Widths}
use Rattle.books.specs.House.{byte_of}
use Rattle.books.specs.Joins.{either_number, joined_width, joined_taken}
use Rattle.basics.specs.Basics.{basic_width, basic_taken}
use Rattle.merges.specs.Merges.{merge_width, merge_taken}
use Rattle.moves.specs.Moves.{move_width, move_taken}
use Rattle.sets.specs.Sets.{set_width, set_taken}

-- A fault of one of the four books, which its first byte names, and its number.
abbrev pub Fault : ℕ → Type 0
Fault first = BookFault Refusal first

abbrev pub fault_number : {first : ℕ} → Fault first → ℕ
fault_number e = book_number steps.refusal_number e

-- The books behind the first, and those behind the second.
abbrev pub LaterFault : Type 0
LaterFault = EitherFault (Fault 0x2a) (Fault 0x2d)

abbrev pub later_number : LaterFault → ℕ
later_number e = either_number fault_number fault_number e

abbrev pub later_width : Widths
later_width b = joined_width merge_width move_width b

abbrev pub taken_later : State → List ℕ → Result State LaterFault
taken_later s bs = joined_taken merge_width merge_taken move_taken s bs

abbrev pub BehindFault : Type 0
BehindFault = EitherFault (Fault 0x28) LaterFault

abbrev pub behind_number : BehindFault → ℕ
behind_number e = either_number fault_number later_number e

abbrev pub behind_width : Widths
behind_width b = joined_width set_width later_width b

abbrev pub taken_behind : State → List ℕ → Result State BehindFault
taken_behind s bs = joined_taken set_width set_taken taken_later s bs

-- The house book.
abbrev pub HouseFault : Type 0
HouseFault = EitherFault (Fault 0x20) BehindFault

abbrev pub house_number : HouseFault → ℕ
house_number e = either_number fault_number behind_number e

abbrev pub house_width : Widths
house_width b = joined_width basic_width behind_width b

abbrev pub taken_by_house : State → List ℕ → Result State HouseFault
taken_by_house s bs = joined_taken basic_width basic_taken taken_behind s bs

-- The operands of each step: one byte for a transition or a place, two for a factor, the higher first, eight for a set.
abbrev pub operands : steps.Step → List ℕ
operands (steps.drop_dominated t u) = t ∷ u ∷ []
operands (steps.drop_multiple t u k) = t ∷ u ∷ k / 256 ∷ k % 256 ∷ []
operands (steps.drop_composed t u v) = t ∷ u ∷ v ∷ []
operands (steps.drop_draining t) = t ∷ []
operands (steps.drop_starved t p) = t ∷ p ∷ []
operands (steps.keep_sourceless t) = t ∷ []
operands (steps.remove_plentiful p) = p ∷ []
operands (steps.remove_implied p q k) = p ∷ q ∷ k / 256 ∷ k % 256 ∷ []
operands (steps.drop_siphon z) = z
operands (steps.limit_to z) = z
operands (steps.post_agglomerate p) = p ∷ []
operands (steps.pre_agglomerate p) = p ∷ []
operands (steps.free_agglomerate p) = p ∷ []
operands (steps.fire_ahead t k) = t ∷ k / 256 ∷ k % 256 ∷ []
operands (steps.fuse_places p q a b) = p ∷ q ∷ a ∷ b ∷ []

abbrev pub encoded : steps.Step → List ℕ
encoded x = byte_of x ∷ operands x

-- A set has eight bytes.
abbrev pub WholeSet : steps.Step → Type 0
WholeSet (steps.drop_dominated t u) = Unit {0}
WholeSet (steps.drop_multiple t u k) = Unit {0}
WholeSet (steps.drop_composed t u v) = Unit {0}
WholeSet (steps.drop_draining t) = Unit {0}
WholeSet (steps.drop_starved t p) = Unit {0}
WholeSet (steps.keep_sourceless t) = Unit {0}
WholeSet (steps.remove_plentiful p) = Unit {0}
WholeSet (steps.remove_implied p q k) = Unit {0}
WholeSet (steps.drop_siphon z) = length z ≡ 8
WholeSet (steps.limit_to z) = length z ≡ 8
WholeSet (steps.post_agglomerate p) = Unit {0}
WholeSet (steps.pre_agglomerate p) = Unit {0}
WholeSet (steps.free_agglomerate p) = Unit {0}
WholeSet (steps.fire_ahead t k) = Unit {0}
WholeSet (steps.fuse_places p q a b) = Unit {0}

-- A judgement by the number of its refusal.
abbrev pub numbered : {F : Type 0} → (F → ℕ) → Result State F → Result State ℕ
numbered number (Ok t) = Ok t
numbered number (Err e) = Err (number e)

-- The house book judges the bytes of every step as the step's table and next state do.
abbrev pub JudgesSteps : Type 0
JudgesSteps =
    (s : State) (x : steps.Step) → sized s ≡ true → WholeSet x
    → numbered house_number (taken_by_house s (encoded x)) ≡ numbered steps.refusal_number (steps.step s x)

-- What the house book takes is a step.
abbrev pub TakesSteps : Type 0
TakesSteps = (s t : State) (bs : List ℕ) → taken_by_house s bs ≡ Ok t → (x : steps.Step) × (steps.step s x ≡ Ok t)

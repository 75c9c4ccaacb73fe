-- Two books joined: the first that owns the byte judges, else the second.
use Rattle.std.specs.Prelude.{◌≡◌, ℕ, cond, ◌&&◌, List, length, is_some, Some, None, Ok, Err, Option, Result, nat_lt, slice_index}
use Rattle.net.specs.States.{State}
use Rattle.books.specs.declared.joined.EitherFault.{EitherFault}
use Rattle.books.specs.declared.joined.EitherFault.TheVariants.{First, Second}
use Rattle.books.specs.Frames.{Widths}

abbrev pub either_number : {F G : Type 0} → (F → ℕ) → (G → ℕ) → EitherFault F G → ℕ
either_number f g (First x) = f x
either_number f g (Second y) = g y

-- A fault with the book that it came from.
abbrev pub from_first : {F G : Type 0} → Result State F → Result State (EitherFault F G)
from_first (Ok t) = Ok t
from_first (Err e) = Err (First e)

abbrev pub from_second : {F G : Type 0} → Result State G → Result State (EitherFault F G)
from_second (Ok t) = Ok t
from_second (Err e) = Err (Second e)

abbrev pub first_or : Option ℕ → Option ℕ → Option ℕ
first_or (Some w) o = Some w
first_or None o = o

abbrev pub joined_width : Widths → Widths → Widths
joined_width f g b = first_or (f b) (g b)

abbrev pub joined_taken : {F G : Type 0} → Widths → (State → List ℕ → Result State F) → (State → List ℕ → Result State G)
    → State → List ℕ → Result State (EitherFault F G)
joined_taken width f g s bs =
    cond (nat_lt 0 (length bs) && is_some (width (slice_index bs 0))) (from_first (f s bs)) (from_second (g s bs))

-- A book that owns no byte, joined in front of another, changes nothing: the widths are the other's, and each step is judged as the
-- other judges it.
abbrev pub SilentInFront : {F G : Type 0} → Widths → (State → List ℕ → Result State F) → Widths → (State → List ℕ → Result State G) → Type 0
SilentInFront wf f wg g =
    ((b : ℕ) → wf b ≡ None)
    → ((b : ℕ) → joined_width wf wg b ≡ wg b) × ((s : State) (bs : List ℕ) → joined_taken wf f g s bs ≡ from_second (g s bs))

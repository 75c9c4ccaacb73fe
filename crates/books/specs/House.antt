-- House books: a step is framed by its widths, decoded, and judged by the tables of the steps.
use Rattle.std.specs.Prelude.{ℕ, ◌+◌, ◌*◌, Bool, cond, ◌&&◌, List, take, drop, is_some, Some, None, Ok, Err, Option, Result, ◌==◌, nat_le, slice_index}
use Rattle.net.specs.declared.net.NetFault.{NetFault}
use Rattle.net.specs.Refusals.{judged}
use Rattle.net.specs.States.{State}
use Rattle.net.specs.Looks.{measured}
use Rattle.theory.specs.declared.refusal.Refusal.{Refusal}
use Rattle.theory.specs.Steps as steps
use Rattle.books.specs.declared.faults.Misfit.{Misfit}
use Rattle.books.specs.declared.faults.Misfit.TheVariants.{Unknown}
use Rattle.books.specs.declared.faults.BookFault.{BookFault}
use Rattle.books.specs.declared.step.Step.{Step}
use Rattle.books.specs.declared.step.Step.TheVariants as cases
use Rattle.books.specs.declared.step.Kind.{Kind}
use Rattle.books.specs.declared.step.Kind.TheVariants as kinds
use Rattle.books.specs.Faults.{from_net, from_bytes, from_step}
use Rattle.books.specs.Frames.{Widths, frame_table, framed}

-- Operands of one and two bytes, the higher first.
abbrev pub one : List ℕ → ℕ → ℕ
one bs i = slice_index bs i

abbrev pub two : List ℕ → ℕ → ℕ
two bs i = 256 * one bs i + one bs (i + 1)

-- A set of places: the eight bytes behind the first.
abbrev pub set_in : List ℕ → List ℕ
set_in bs = take 8 (drop 1 bs)

-- A decoded step by its values, without the reference.
abbrev pub plain : Step → steps.Step
plain (cases.DropDominated t u) = steps.drop_dominated t u
plain (cases.DropMultiple t u k) = steps.drop_multiple t u k
plain (cases.DropComposed t u v) = steps.drop_composed t u v
plain (cases.DropDraining t) = steps.drop_draining t
plain (cases.DropStarved t p) = steps.drop_starved t p
plain (cases.KeepSourceless t) = steps.keep_sourceless t
plain (cases.RemovePlentiful p) = steps.remove_plentiful p
plain (cases.RemoveImplied p q k) = steps.remove_implied p q k
plain (cases.DropSiphon z) = steps.drop_siphon z.now
plain (cases.LimitTo z) = steps.limit_to z.now
plain (cases.PostAgglomerate p) = steps.post_agglomerate p
plain (cases.PreAgglomerate p) = steps.pre_agglomerate p
plain (cases.FreeAgglomerate p) = steps.free_agglomerate p
plain (cases.FireAhead t k) = steps.fire_ahead t k
plain (cases.FusePlaces p q a b) = steps.fuse_places p q a b

-- The kind of a step, by its first byte.
abbrev pub kind : ℕ → Result Kind Misfit
kind b =
    cond (b == 0x20) (Ok kinds.DropDominated)
    (cond (b == 0x21) (Ok kinds.DropMultiple)
    (cond (b == 0x22) (Ok kinds.DropComposed)
    (cond (b == 0x23) (Ok kinds.DropDraining)
    (cond (b == 0x24) (Ok kinds.DropStarved)
    (cond (b == 0x25) (Ok kinds.KeepSourceless)
    (cond (b == 0x26) (Ok kinds.RemovePlentiful)
    (cond (b == 0x27) (Ok kinds.RemoveImplied)
    (cond (b == 0x28) (Ok kinds.DropSiphon)
    (cond (b == 0x29) (Ok kinds.LimitTo)
    (cond (b == 0x2a) (Ok kinds.PostAgglomerate)
    (cond (b == 0x2b) (Ok kinds.PreAgglomerate)
    (cond (b == 0x2c) (Ok kinds.FreeAgglomerate)
    (cond (b == 0x2d) (Ok kinds.FireAhead)
    (cond (b == 0x2e) (Ok kinds.FusePlaces) (Err Unknown)))))))))))))))

-- How many bytes the operands of each kind have: one for a transition or a place, two for a factor, eight for a set.
abbrev pub kind_width : Kind → ℕ
kind_width kinds.DropDominated = 2
kind_width kinds.DropMultiple = 4
kind_width kinds.DropComposed = 3
kind_width kinds.DropDraining = 1
kind_width kinds.DropStarved = 2
kind_width kinds.KeepSourceless = 1
kind_width kinds.RemovePlentiful = 1
kind_width kinds.RemoveImplied = 4
kind_width kinds.DropSiphon = 8
kind_width kinds.LimitTo = 8
kind_width kinds.PostAgglomerate = 1
kind_width kinds.PreAgglomerate = 1
kind_width kinds.FreeAgglomerate = 1
kind_width kinds.FireAhead = 3
kind_width kinds.FusePlaces = 4

-- The step of a kind in the bytes of a whole step.
abbrev pub parsed : Kind → List ℕ → steps.Step
parsed kinds.DropDominated bs = steps.drop_dominated (one bs 1) (one bs 2)
parsed kinds.DropMultiple bs = steps.drop_multiple (one bs 1) (one bs 2) (two bs 3)
parsed kinds.DropComposed bs = steps.drop_composed (one bs 1) (one bs 2) (one bs 3)
parsed kinds.DropDraining bs = steps.drop_draining (one bs 1)
parsed kinds.DropStarved bs = steps.drop_starved (one bs 1) (one bs 2)
parsed kinds.KeepSourceless bs = steps.keep_sourceless (one bs 1)
parsed kinds.RemovePlentiful bs = steps.remove_plentiful (one bs 1)
parsed kinds.RemoveImplied bs = steps.remove_implied (one bs 1) (one bs 2) (two bs 3)
parsed kinds.DropSiphon bs = steps.drop_siphon (set_in bs)
parsed kinds.LimitTo bs = steps.limit_to (set_in bs)
parsed kinds.PostAgglomerate bs = steps.post_agglomerate (one bs 1)
parsed kinds.PreAgglomerate bs = steps.pre_agglomerate (one bs 1)
parsed kinds.FreeAgglomerate bs = steps.free_agglomerate (one bs 1)
parsed kinds.FireAhead bs = steps.fire_ahead (one bs 1) (two bs 2)
parsed kinds.FusePlaces bs = steps.fuse_places (one bs 1) (one bs 2) (one bs 3) (one bs 4)

-- The step in the bytes of a whole step. No step begins with another byte than those of the kinds; the last kind stands in for it.
abbrev pub kind_or : Result Kind Misfit → Kind
kind_or (Ok k) = k
kind_or (Err e) = kinds.FusePlaces

abbrev pub step_of : List ℕ → steps.Step
step_of bs = parsed (kind_or (kind (one bs 0))) bs

-- The widths of a book that owns the bytes from `first` to `last`.
abbrev pub width_of_kind : Result Kind Misfit → Option ℕ
width_of_kind (Ok k) = Some (kind_width k)
width_of_kind (Err e) = None

abbrev pub owned_kind : ℕ → ℕ → ℕ → Result Kind Misfit
owned_kind first last b = cond (nat_le first b && nat_le b last) (kind b) (Err Unknown)

abbrev pub owned_width : ℕ → ℕ → Widths
owned_width first last b = width_of_kind (owned_kind first last b)

-- The step that the bytes are, if they are one whole step of that book.
abbrev pub owned_step : ℕ → ℕ → List ℕ → Result steps.Step Misfit
owned_step first last bs = judged (frame_table (owned_width first last) bs) (step_of bs)

abbrev pub plainly : Result Step Misfit → Result steps.Step Misfit
plainly (Ok x) = Ok (plain x)
plainly (Err e) = Err e

-- A result with its fault in another's words.
abbrev pub with_fault : {X E F : Type 0} → (E → F) → Result X E → Result X F
with_fault f (Ok x) = Ok x
with_fault f (Err e) = Err (f e)

-- After a test: what comes next, or the test's fault.
abbrev pub after : {E F : Type 0} → (E → F) → Result Unit E → Result State F → Result State F
after f (Ok u) r = r
after f (Err e) r = Err (f e)

-- What a house book gives: the sheet's size is asked first, then the bytes, then the questions of the step.
abbrev pub house_taken : {F : Type 0} → (NetFault → F) → (Misfit → F) → (Refusal → F) → Widths → (List ℕ → steps.Step) → State → List ℕ → Result State F
house_taken net bytes refused width parse s bs =
    after net (measured s.sheet) (after bytes (framed width bs) (with_fault refused (steps.step s (parse bs))))

-- The same with the fault of a book.
abbrev pub book_taken : {first : ℕ} → Widths → (List ℕ → steps.Step) → State → List ℕ → Result State (BookFault Refusal first)
book_taken width parse s bs = house_taken from_net from_bytes from_step width parse s bs

-- The first byte of each step.
abbrev pub byte_of : steps.Step → ℕ
byte_of (steps.drop_dominated t u) = 0x20
byte_of (steps.drop_multiple t u k) = 0x21
byte_of (steps.drop_composed t u v) = 0x22
byte_of (steps.drop_draining t) = 0x23
byte_of (steps.drop_starved t p) = 0x24
byte_of (steps.keep_sourceless t) = 0x25
byte_of (steps.remove_plentiful p) = 0x26
byte_of (steps.remove_implied p q k) = 0x27
byte_of (steps.drop_siphon z) = 0x28
byte_of (steps.limit_to z) = 0x29
byte_of (steps.post_agglomerate p) = 0x2a
byte_of (steps.pre_agglomerate p) = 0x2b
byte_of (steps.free_agglomerate p) = 0x2c
byte_of (steps.fire_ahead t k) = 0x2d
byte_of (steps.fuse_places p q a b) = 0x2e

-- Is the step one of the book's own?
abbrev pub owns : Widths → steps.Step → Bool
owns width x = is_some (width (byte_of x))

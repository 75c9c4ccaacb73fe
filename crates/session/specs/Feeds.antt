-- What a propose, a feed and a look do, for lists of bytes of any length and sheets of any size. Of a book they use what its two
-- calls mean, and nothing else.
use Rattle.std.specs.Prelude.{◌≡◌, ℕ, zero, suc, ◌+◌, ◌≤◌, cond, List, length, take, drop, Ok, Err, Result, ◌==◌}
use Rattle.net.specs.declared.net.Look.{Look}
use Rattle.net.specs.declared.net.NetFault.{NetFault}
use Rattle.net.specs.declared.net.NetFault.TheVariants.{WrongSize}
use Rattle.net.specs.States.{State, sized}
use Rattle.net.specs.Looks.{looked, measured}
use Rattle.books.specs.declared.faults.Misfit.{Misfit}
use Rattle.books.specs.Frames.{Widths, framed, front}
use Rattle.session.specs.declared.faults.SessionFault.{SessionFault}
use Rattle.session.specs.Faults.{net_refuses, bytes_misfit, book_refuses}

-- What the two calls of a book mean: the operand width for a first byte, and the refusal or the next state.
pub record Meaning (F : Type 0) : Type 0 where
  pub width : Widths
  pub take_step : State → List ℕ → Result State F

abbrev pub meaning : {F : Type 0} → Widths → (State → List ℕ → Result State F) → Meaning F
meaning w t = record { width = w; take_step = t }

-- What comes after a test of the net or of the bytes, or the test's fault; and a book's answer.
abbrev pub after_net : {X F : Type 0} → Result Unit NetFault → Result X (SessionFault F) → Result X (SessionFault F)
after_net (Ok u) r = r
after_net (Err e) r = Err (net_refuses e 0 0)

abbrev pub after_bytes : {X F : Type 0} → Result Unit Misfit → Result X (SessionFault F) → Result X (SessionFault F)
after_bytes (Ok u) r = r
after_bytes (Err e) r = Err (bytes_misfit e 0 0)

abbrev pub by_book : {X F : Type 0} → Result X F → ℕ → ℕ → Result X (SessionFault F)
by_book (Ok t) byte count = Ok t
by_book (Err f) byte count = Err (book_refuses f byte count)

-- A propose: the size of the sheet is asked first, then whether the bytes are one whole step, then the book.
abbrev pub proposed : {F : Type 0} → Meaning F → State → List ℕ → Result State (SessionFault F)
proposed m s bs = after_net (measured s.sheet) (after_bytes (framed m.width bs) (by_book (m.take_step s bs) 0 0))

-- One step of a feed: the next state, and how many bytes were used.
pub record Step : Type 0 where
  pub state : State
  pub used : ℕ

abbrev pub with_used : {F : Type 0} → Result State (SessionFault F) → ℕ → Result Step (SessionFault F)
with_used (Ok t) n = Ok (record { state = t; used = n })
with_used (Err e) n = Err e

abbrev pub after_front : {F : Type 0} → Meaning F → State → List ℕ → ℕ → ℕ → Result ℕ Misfit → Result Step (SessionFault F)
after_front m s bs byte count (Ok n) = with_used (by_book (m.take_step s (take n bs)) byte count) n
after_front m s bs byte count (Err e) = Err (bytes_misfit e byte count)

abbrev pub stepped : {F : Type 0} → Meaning F → State → List ℕ → ℕ → ℕ → Result Step (SessionFault F)
stepped m s bs byte count = after_front m s bs byte count (front m.width bs)

-- A feed: steps in a row until the bytes end or one is refused. The first number bounds the steps: there are no more than bytes.
pub record End (F : Type 0) : Type 0 where
  pub state : State
  pub said : Result ℕ (SessionFault F)

abbrev pub ended : {F : Type 0} → State → Result ℕ (SessionFault F) → End F
ended s r = record { state = s; said = r }

abbrev pub go_on : {F : Type 0} → (State → List ℕ → ℕ → ℕ → End F) → State → List ℕ → ℕ → ℕ → Result Step (SessionFault F) → End F
go_on rest s bs byte count (Ok t) = rest t.state (drop t.used bs) (byte + t.used) (count + 1)
go_on rest s bs byte count (Err e) = ended s (Err e)

abbrev pub fed_from : {F : Type 0} → Meaning F → ℕ → State → List ℕ → ℕ → ℕ → End F
fed_from m zero s bs byte count = ended s (Ok count)
fed_from m (suc bound) s bs byte count =
    cond (length bs == 0) (ended s (Ok count)) (go_on (fed_from m bound) s bs byte count (stepped m s bs byte count))

abbrev pub fed : {F : Type 0} → Meaning F → State → List ℕ → End F
fed m s bs = cond (sized s) (fed_from m (length bs) s bs 0 0) (ended s (Err (net_refuses WrongSize 0 0)))

-- A refused step starts within the bytes, or at their end.
abbrev pub PlaceWithin : {F : Type 0} → Result ℕ (SessionFault F) → ℕ → Type 0
PlaceWithin (Ok n) len = Unit {0}
PlaceWithin (Err e) len = e.origin.at.byte ≤ len

-- A look.
abbrev pub by_net : {X F : Type 0} → Result X NetFault → Result X (SessionFault F)
by_net (Ok x) = Ok x
by_net (Err e) = Err (net_refuses e 0 0)

abbrev pub looked_at : {F : Type 0} → State → Look → Result ℕ (SessionFault F)
looked_at s l = by_net (looked s l)

-- A step, and a feed, answers and leaves what the definition gives.
abbrev pub used_of : {F : Type 0} → Result Step F → Result ℕ F
used_of (Ok t) = Ok t.used
used_of (Err e) = Err e

abbrev pub state_of : {F : Type 0} → State → Result Step F → State
state_of before (Ok t) = t.state
state_of before (Err e) = before

pub record StepAnswered {F : Type 0} (r : Result ℕ F) (after before : State) (d : Result Step F) : Type 0 where
  pub answer : r ≡ used_of d
  pub state : after ≡ state_of before d

pub record FeedAnswered {F : Type 0} (r : Result ℕ (SessionFault F)) (after : State) (d : End F) : Type 0 where
  pub answer : r ≡ d.said
  pub state : after ≡ d.state

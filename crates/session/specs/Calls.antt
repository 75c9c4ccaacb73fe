-- What a list of calls does to a session, and the theorem over every such list.
use Rattle.std.specs.Prelude.{◌≡◌, ℕ, zero, suc, true, List, [], ◌∷◌, ◌++◌, length, take, drop, Ok, Err, Result}
use Rattle.net.specs.declared.net.Look.{Look}
use Rattle.net.specs.States.{State, left}
use Rattle.net.specs.Qualities.{Qualities}
use Rattle.theory.specs.Nets.{asks_reach, asks_standstill, SameReach, SameStandstill}
use Rattle.theory.specs.Laws.{net_of, Supports}
use Rattle.session.specs.declared.faults.SessionFault.{SessionFault}
use Rattle.books.specs.Frames.{step_length}
use Rattle.session.specs.Feeds.{Meaning, proposed, fed}

-- The calls of a user.
pub data Call : Type 0 where
  propose : List ℕ → Call
  feed : List ℕ → Call
  look : Look → Call

-- The state after a call, and after a list of calls, refused ones included.
abbrev pub after : {F : Type 0} → Meaning F → State → Call → State
after m s (propose bs) = left s (proposed m s bs)
after m s (feed bs) = (fed m s bs).state
after m s (look l) = s

abbrev pub run : {F : Type 0} → Meaning F → State → List Call → State
run m s [] = s
run m s (c ∷ cs) = run m (after m s c) cs

-- The steps that a list of calls takes, in order: the bytes of each propose that is not refused, and the first steps of each feed,
-- as many as its answer or its fault counts.
abbrev pub if_taken : {F : Type 0} → List ℕ → Result State F → List (List ℕ)
if_taken bs (Ok t) = bs ∷ []
if_taken bs (Err e) = []

abbrev pub counted : {F : Type 0} → Result ℕ (SessionFault F) → ℕ
counted (Ok n) = n
counted (Err e) = e.origin.at.count

abbrev pub first_steps : {F : Type 0} → Meaning F → ℕ → List ℕ → List (List ℕ)
first_steps m zero bs = []
first_steps m (suc n) bs = take (step_length m.width bs) bs ∷ first_steps m n (drop (step_length m.width bs) bs)

abbrev pub steps_of : {F : Type 0} → Meaning F → State → Call → List (List ℕ)
steps_of m s (propose bs) = if_taken bs (proposed m s bs)
steps_of m s (feed bs) = first_steps m (counted (fed m s bs).said) bs
steps_of m s (look l) = []

abbrev pub steps_taken : {F : Type 0} → Meaning F → State → List Call → List (List ℕ)
steps_taken m s [] = []
steps_taken m s (c ∷ cs) = steps_of m s c ++ steps_taken m (after m s c) cs

abbrev pub joined : List (List ℕ) → List ℕ
joined [] = []
joined (x ∷ xs) = x ++ joined xs

-- After any list of calls, where the question of reach is open, exactly the same numbers of tokens on the support are reachable as
-- before; where that of standstill is open, exactly the same are reachable with a dead marking. And the steps taken tell all that
-- happened: a fresh session on the net of the start that is fed their bytes, one after another, answers their count, and its net is the
-- same, all 12,352 numbers of the sheet included.
pub record FaithfulAfter {F : Type 0} (m : Meaning F) (s : State) (cs : List Call) : Type 0 where
  pub reach : asks_reach s.question ≡ true → SameReach (Supports s) (net_of s) (net_of (run m s cs))
  pub standstill : asks_standstill s.question ≡ true → SameStandstill (Supports s) (net_of s) (net_of (run m s cs))
  pub counts : (fed m s (joined (steps_taken m s cs))).said ≡ Ok (length (steps_taken m s cs))
  pub ends : (fed m s (joined (steps_taken m s cs))).state ≡ run m s cs

-- A book is faithful: from every net, after every list of calls.
abbrev pub Faithful : {F : Type 0} → Meaning F → Type 0
Faithful m = (s : State) → Qualities s → (cs : List Call) → FaithfulAfter m s cs

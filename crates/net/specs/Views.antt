-- The state of a draft, and the sheet that a net holds.
use Rattle.std.specs.Prelude.{◌≡◌, ℕ, List}
use Rattle.std.specs.Borrow.{MutBor}
use Rattle.net.specs.declared.draft.Draft.{Draft}
use Rattle.net.specs.declared.net.Net.{Net}
use Rattle.net.specs.States.{State, view}

abbrev pub drafted : Draft → State
drafted d = view d.net

-- The net holds this lent sheet: what the net's numbers are, the numbers of the sheet are for its owner.
abbrev pub Holds : MutBor (List ℕ) → Net → Type 0
Holds sheet n = n.sheet.ghost_name ≡ sheet.ghost_name

-- After a call the net holds the same sheet as before.
abbrev pub SameSheet : Net → Net → Type 0
SameSheet after before = after.sheet.ghost_name ≡ before.sheet.ghost_name

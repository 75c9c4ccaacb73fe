-- A reading uses no more bytes than there are.
use Rattle.std.proofs.Common.{◌≡◌, ℕ, zero, suc, ◌+◌, ◌-◌, ◌≤◌, List, length, drop, Ok, Err, Result, refl, arith, length-drop}
use Rattle.net.specs.States.{State, empty}
use Rattle.net.proofs.Tables.{ok_not_err}
use Rattle.stream.specs.declared.command.Command.{Command}
use Rattle.stream.specs.declared.command.Command.TheVariants.{Place, Transition, ArcIn, ArcOut, End}
use Rattle.stream.specs.declared.faults.Cause.{Cause}
use Rattle.stream.specs.Streams.{Reading, reading, read_on, goes_on, after_step, with_command, decoded, size}
use Rattle.stream.proofs.Filling.{decoded_size}

abbrev Before : ℕ → Reading → Type 0
Before fuel r = (s : State) (bs : List ℕ) (byte count : ℕ) → read_on fuel s bs byte count ≡ Ok r → r.used ≤ byte + length bs

module _ (fuel : ℕ) (bs : List ℕ) (byte count : ℕ) (r : Reading) (rest : Before fuel r) where
  behind : (t : State) (n : ℕ) → n ≤ length bs → read_on fuel t (drop n bs) (byte + n) (count + 1) ≡ Ok r → r.used ≤ byte + length bs
  behind t n k h = let i = rest t (drop n bs) (byte + n) (count + 1) h in let l : length (drop n bs) ≡ length bs - n = length-drop n bs in omega arith

  goes_on_used : (t : State) (c : Command) → size c ≤ length bs → goes_on (read_on fuel) bs byte count t c ≡ Ok r → r.used ≤ byte + length bs
  goes_on_used t (Place m f) k h = behind t 6 k h
  goes_on_used t Transition k h = behind t 1 k h
  goes_on_used t (ArcIn u p w) k h = behind t 5 k h
  goes_on_used t (ArcOut u p w) k h = behind t 5 k h
  goes_on_used t (End q) k h = grind arith

  step_used : (s : State) (d : Result Command Cause) → decoded bs ≡ d → after_step (read_on fuel) bs byte count (with_command s byte count d) ≡ Ok r
      → r.used ≤ byte + length bs
  step_used s (Ok c) e h = let k = (decoded_size bs c e).1 in grind (arith, goes_on_used)
  step_used s (Err f) e h = absurd (ok_not_err h)

read_on_used : (fuel : ℕ) (r : Reading) → Before fuel r
read_on_used zero r s bs byte count h = absurd (ok_not_err h)
read_on_used (suc fuel) r s bs byte count h = step_used fuel bs byte count r (read_on_used fuel r) s (decoded bs) refl h

pub reading_used : (bs : List ℕ) (r : Reading) → reading bs ≡ Ok r → r.used ≤ length bs
reading_used bs r h = let i = read_on_used (length bs) r empty bs 0 0 h in omega arith

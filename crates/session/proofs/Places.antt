-- A refusal of a feed has its place within the bytes.
use Rattle.std.proofs.Common.{◌≡◌, ℕ, zero, suc, ◌+◌, ◌-◌, ◌≤◌, Bool, true, false, cond, eqb, List, length, take, drop, Ok, Err, Result, sym, refl, ap, arith, length-drop}
use Rattle.net.specs.States.{State, sized}
use Rattle.net.proofs.Tables.{err_same, ok_not_err}
use Rattle.books.specs.declared.faults.Misfit.{Misfit}
use Rattle.session.specs.declared.faults.SessionFault.{SessionFault}
use Rattle.books.specs.Frames.{front}
use Rattle.session.specs.Feeds.{Meaning, Step, ended, by_book, with_used, after_front, stepped, go_on, fed_from, fed, PlaceWithin}
use Rattle.session.specs.Faults.{net_refuses}
use Rattle.net.specs.declared.net.NetFault.TheVariants.{WrongSize}
use Rattle.session.proofs.Feeds.{step_used}

module _ {F : Type 0} (m : Meaning F) where
  with_used_byte : (r : Result State F) (n byte count : ℕ) (e : SessionFault F) → with_used (by_book r byte count) n ≡ Err e → e.origin.at.byte ≡ byte
  with_used_byte (Ok s) n byte count e h = absurd (ok_not_err (sym h))
  with_used_byte (Err f) n byte count e h = ap (λ (x : SessionFault F). x.origin.at.byte) (sym (err_same h))

  front_byte : (s : State) (bs : List ℕ) (byte count : ℕ) (e : SessionFault F) (r : Result ℕ Misfit) → after_front m s bs byte count r ≡ Err e → e.origin.at.byte ≡ byte
  front_byte s bs byte count e (Ok n) h = with_used_byte (m.take_step s (take n bs)) n byte count e h
  front_byte s bs byte count e (Err f) h = ap (λ (x : SessionFault F). x.origin.at.byte) (sym (err_same h))

  abbrev Before : ℕ → SessionFault F → Type 0
  Before bound e = (s : State) (bs : List ℕ) (byte count : ℕ) → (fed_from m bound s bs byte count).said ≡ Err e → e.origin.at.byte ≤ byte + length bs

  go_on_byte : (bound : ℕ) (s : State) (bs : List ℕ) (byte count : ℕ) (e : SessionFault F) → Before bound e
      → (r : Result Step (SessionFault F)) → stepped m s bs byte count ≡ r → (go_on (fed_from m bound) s bs byte count r).said ≡ Err e → e.origin.at.byte ≤ byte + length bs
  go_on_byte bound s bs byte count e rest (Ok t) k l =
      let i = rest t.state (drop t.used bs) (byte + t.used) (count + 1) l in
      let u = step_used m s bs byte count t k in
      let n : length (drop t.used bs) ≡ length bs - t.used = length-drop t.used bs in
      omega arith
  go_on_byte bound s bs byte count e rest (Err f) k l =
      let i : e.origin.at.byte ≡ f.origin.at.byte = ap (λ (x : SessionFault F). x.origin.at.byte) (sym (err_same l)) in
      let j : f.origin.at.byte ≡ byte = front_byte s bs byte count f (front m.width bs) k in
      omega arith

  fed_byte : (bound : ℕ) (e : SessionFault F) → Before bound e
  fed_byte zero e s bs byte count h = absurd (ok_not_err (sym h))
  fed_byte (suc bound) e s bs byte count h = go_end (fed_byte bound e) (eqb (length bs) 0) h
    where
      go_end : Before bound e → (b : Bool)
          → (cond b (ended s (Ok count)) (go_on (fed_from m bound) s bs byte count (stepped m s bs byte count))).said ≡ Err e → e.origin.at.byte ≤ byte + length bs
      go_end rest true k = absurd (ok_not_err (sym k))
      go_end rest false k = go_on_byte bound s bs byte count e rest (stepped m s bs byte count) refl k

  said_within : (r : Result ℕ (SessionFault F)) (n : ℕ) → ((e : SessionFault F) → r ≡ Err e → e.origin.at.byte ≤ n) → PlaceWithin r n
  said_within (Ok k) n h = tt
  said_within (Err e) n h = h e refl

  pub fed_within : (s : State) (bs : List ℕ) → PlaceWithin (fed m s bs).said (length bs)
  fed_within s bs = go (sized s)
    where
      go : (b : Bool) → PlaceWithin (cond b (fed_from m (length bs) s bs 0 0) (ended s (Err (net_refuses WrongSize 0 0)))).said (length bs)
      go true = said_within _ _ (λ e h. let i = fed_byte (length bs) e s bs 0 0 h in omega arith)
      go false = omega arith

-- A step that changes nothing is lawful.
use Rattle.std.specs.Prelude.{◌≡◌, ℕ, List, Ok, Err, Result, refl}
use Rattle.std.proofs.Common.{ap, subst}
use Rattle.net.specs.declared.net.NetFault.{NetFault}
use Rattle.net.specs.States.{State}
use Rattle.net.specs.Qualities.{Qualities}
use Rattle.net.specs.Looks.{measured}
use Rattle.net.proofs.Tables.{passed, ok_same, ok_not_err}
use Rattle.theory.specs.Laws.{Kept}
use Rattle.books.specs.declared.faults.Misfit.{Misfit}
use Rattle.books.specs.Faults.{book_number, from_net, from_bytes, from_step}
use Rattle.books.specs.Frames.{framed, RefusesMisfits}
use Rattle.books.specs.House.{one, two, after, with_fault}
use Rattle.book_tests.specs.declared.checkpoint.CheckpointRefusal.{CheckpointRefusal}
use Rattle.book_tests.specs.Checkpoints.{checkpoint_number, checkpoint_width, checkpoint_table, checkpoint_taken}

kept_self : (s : State) → Qualities s → Kept s s
kept_self s q =
    record {
      support = refl;
      question = refl;
      standing = q.supported;
      qualities = q;
      law = record { reach = λ _ v. (λ x. x, λ x. x); standstill = λ _ v. (λ x. x, λ x. x) };
    }

-- Where the step is taken, its table lets it pass.
table_ok : (m : Result Unit NetFault) (f : Result Unit Misfit) (r : Result State CheckpointRefusal) (t : State)
    → after from_net m (after from_bytes f (with_fault (from_step {first = 0x80}) r)) ≡ Ok t → r ≡ Ok t
table_ok (Ok u) (Ok v) (Ok s) t h = ap (λ (y : State). Ok y) (ok_same h)
table_ok (Ok u) (Ok v) (Err e) t h = absurd (ok_not_err h)
table_ok (Ok u) (Err e) r t h = absurd (ok_not_err h)
table_ok (Err e) f r t h = absurd (ok_not_err h)

pub checkpoint_keeps : (s t : State) (bs : List ℕ) → Qualities s → checkpoint_taken s bs ≡ Ok t → Kept s t
checkpoint_keeps s t bs q h =
    let k = passed (checkpoint_table s (one bs 1) (two bs 2)) s t (table_ok (measured s.sheet) (framed checkpoint_width bs) _ t h) in
    subst (Kept s) k.1 (kept_self s q)

pub checkpoint_refuses : RefusesMisfits (book_number checkpoint_number) checkpoint_width checkpoint_taken
checkpoint_refuses s bs e z h = (from_bytes e, rw (z, h) refl, refl)

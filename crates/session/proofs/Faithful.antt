-- The theorem over every list of calls.
use Rattle.std.proofs.Common.{◌≡◌, ℕ, zero, suc, ◌+◌, ◌<◌, ◌≤◌, Bool, true, false, cond, eqb, List, [], ◌∷◌, ◌++◌, length, get_or, take, drop, is_some, Ok, Err, Result, sym, refl, ap, ◌∙◌, subst, add-zero, zero-add, arith, length-append, length-take, get_or-take}
use lib.ListN.{get_or-append}
use lib.Seq.{take-append_seam, drop-append_seam}
use Rattle.std.proofs.lemmas.Bool.{leb-true, lt-ltb, le-leb, eq-eqb}
use Rattle.net.specs.declared.net.NetFault.{NetFault}
use Rattle.net.specs.States.{State, sized, left}
use Rattle.net.specs.Looks.{measured}
use Rattle.net.specs.Qualities.{Qualities}
use Rattle.net.proofs.Tables.{passed, passing, ok_same, ok_not_err}
use Rattle.theory.specs.Nets.{asks_reach, asks_standstill, SameReach, SameStandstill}
use Rattle.theory.specs.Laws.{net_of, Supports, Kept}
use Rattle.theory.proofs.Runs.{reach_trans, standstill_trans}
use Rattle.books.specs.declared.faults.Misfit.{Misfit}
use Rattle.books.specs.Frames.{width_or, step_length, front_table, front, frame_table, framed}
use Rattle.session.specs.declared.faults.SessionFault.{SessionFault}
use Rattle.session.specs.Feeds.{Meaning, Step, End, ended, after_net, after_bytes, by_book, proposed, with_used, after_front, stepped, go_on, fed_from, fed}
use Rattle.session.specs.Calls.{Call, propose, feed, look, after, run, if_taken, counted, first_steps, steps_of, steps_taken, joined, Faithful}
use Rattle.session.proofs.Feeds.{step_to, fed_end, fed_step}

-- What is kept by no step, and by two in a row.
kept_self : (s : State) → Qualities s → Kept s s
kept_self s q =
    record {
      support = refl;
      question = refl;
      standing = q.supported;
      qualities = q;
      law = record { reach = λ _ v. (λ h. h, λ h. h); standstill = λ _ v. (λ h. h, λ h. h) };
    }

pub kept_trans : (s t u : State) → Kept s t → Kept t u → Kept s u
kept_trans s t u a b =
    record {
      support = b.support ∙ a.support;
      question = b.question ∙ a.question;
      standing = λ p e. b.standing p (ap (λ (l : List Bool). get_or l p false) a.support ∙ e);
      qualities = b.qualities;
      law =
          record {
            reach = λ e.
                reach_trans (Supports s) (net_of s) (net_of t) (net_of u) (a.law.reach e)
                (subst (λ (l : List Bool). SameReach (λ p. get_or l p false ≡ true) (net_of t) (net_of u)) a.support
                (b.law.reach (ap asks_reach a.question ∙ e)));
            standstill = λ e.
                standstill_trans (Supports s) (net_of s) (net_of t) (net_of u) (a.law.standstill e)
                (subst (λ (l : List Bool). SameStandstill (λ p. get_or l p false ≡ true) (net_of t) (net_of u)) a.support
                (b.law.standstill (ap asks_standstill a.question ∙ e)));
          };
    }

-- The law of a book.
abbrev pub Lawful : {F : Type 0} → Meaning F → Type 0
Lawful m = (s t : State) (bs : List ℕ) → Qualities s → m.take_step s bs ≡ Ok t → Kept s t

-- The bytes are one whole step, and taking it leads from one state to the other.
pub record Takes {F : Type 0} (m : Meaning F) (s : State) (bs : List ℕ) (t : State) : Type 0 where
  pub owned : is_some (m.width (get_or bs 0 0)) ≡ true
  pub whole : length bs ≡ step_length m.width bs
  pub taken : m.take_step s bs ≡ Ok t

-- Steps taken one after another lead from one state to the other.
data Leads {F : Type 0} (m : Meaning F) : State → List (List ℕ) → State → Type 0 where
  none : {s : State} → Leads m s [] s
  one : {s t u : State} {x : List ℕ} {xs : List (List ℕ)} → Takes m s x t → Leads m t xs u → Leads m s (x ∷ xs) u

module _ {F : Type 0} (m : Meaning F) where
  leads_append : {s t u : State} {xs ys : List (List ℕ)} → Leads m s xs t → Leads m t ys u → Leads m s (xs ++ ys) u
  leads_append none q = q
  leads_append (one h p) q = one h (leads_append p q)

  leads_kept : Lawful m → {s t : State} {xs : List (List ℕ)} → Qualities s → Leads m s xs t → Kept s t
  leads_kept law {s} q none = kept_self s q
  leads_kept law {s} {t} q (one {t = u} {x = x} h p) =
      let a = law s u x q h.taken in
      kept_trans s u t a (leads_kept law a.qualities p)

  -- A whole step at the front of the bytes.
  front_is : (s t : State) (x rest : List ℕ) → Takes m s x t → front m.width (x ++ rest) ≡ Ok (length x)
  front_is s t x rest h =
      let n : length (x ++ rest) ≡ length x + length rest = length-append x rest in
      let w = h.whole in
      let pos : 0 < length x = omega arith in
      let head : get_or (x ++ rest) 0 0 ≡ get_or x 0 0 = get_or-append x rest 0 0 pos in
      let same : step_length m.width (x ++ rest) ≡ length x = ap (λ (b : ℕ). width_or (m.width b) + 1) head ∙ sym w in
      passing (front_table m.width (x ++ rest)) (step_length m.width (x ++ rest))
      (lt-ltb _ _ (omega arith), (ap (λ (b : ℕ). is_some (m.width b)) head ∙ h.owned, (le-leb _ _ (omega arith), tt)))
      ∙ ap (λ (k : ℕ). Ok k) same

  step_at_front : (s t : State) (x rest : List ℕ) (byte count : ℕ) → Takes m s x t → stepped m s (x ++ rest) byte count ≡ Ok (step_to t (length x))
  step_at_front s t x rest byte count h =
      ap (after_front m s (x ++ rest) byte count) (front_is s t x rest h)
      ∙ ap (λ (l : List ℕ). with_used (by_book (m.take_step s l) byte count) (length x)) (take-append_seam x rest)
      ∙ ap (λ (r : Result State F). with_used (by_book r byte count) (length x)) h.taken

  -- A feed of steps that are taken one after another.
  leads_fed : (bound byte count : ℕ) {s t : State} (xs : List (List ℕ)) → Leads m s xs t → length (joined xs) ≤ bound
      → fed_from m bound s (joined xs) byte count ≡ ended t (Ok (count + length xs))
  leads_fed bound byte count {s} {t} [] none h = fed_end m bound s [] byte count refl ∙ ap (λ (k : ℕ). ended t (Ok k)) (sym (add-zero count))
  leads_fed zero byte count (x ∷ xs) (one p q) h = absurd (omega (arith, length-append x (joined xs), p.whole))
  leads_fed (suc bound) byte count {s} {t} (x ∷ xs) (one {t = u} p q) h =
      let n : length (x ++ joined xs) ≡ length x + length (joined xs) = length-append x (joined xs) in
      let k = p.whole in
      let rest = leads_fed bound (byte + length x) (count + 1) xs q (omega arith) in
      fed_step m bound s (x ++ joined xs) byte count (omega arith)
      ∙ ap (go_on (fed_from m bound) s (x ++ joined xs) byte count) (step_at_front s u x (joined xs) byte count p)
      ∙ ap (λ (l : List ℕ). fed_from m bound u l (byte + length x) (count + 1)) (drop-append_seam x (joined xs))
      ∙ rest
      ∙ ap (λ (j : ℕ). ended t (Ok j)) (omega arith)

  -- What a propose that is not refused took.
  by_book_ok : (r : Result State F) (byte count : ℕ) (t : State) → by_book r byte count ≡ Ok t → r ≡ Ok t
  by_book_ok (Ok x) byte count t h = ap (λ (y : State). Ok y) (ok_same h)
  by_book_ok (Err e) byte count t h = absurd (ok_not_err h)

  proposed_framed : (s t : State) (bs : List ℕ) (r : Result Unit Misfit) → framed m.width bs ≡ r
      → after_bytes r (by_book (m.take_step s bs) 0 0) ≡ Ok t → Takes m s bs t
  proposed_framed s t bs (Ok u) e h =
      let p = (passed (frame_table m.width bs) tt u e).0 in
      let a = leb-true _ _ p.1.1.0 in
      let b = leb-true _ _ p.1.1.1.0 in
      record { owned = p.1.0; whole = omega arith; taken = by_book_ok (m.take_step s bs) 0 0 t h }
  proposed_framed s t bs (Err f) e h = absurd (ok_not_err h)

  proposed_takes : (s t : State) (bs : List ℕ) → proposed m s bs ≡ Ok t → Takes m s bs t
  proposed_takes s t bs h = go (measured s.sheet) h
    where
      go : (r : Result Unit NetFault) → after_net r (after_bytes (framed m.width bs) (by_book (m.take_step s bs) 0 0)) ≡ Ok t → Takes m s bs t
      go (Ok u) k = proposed_framed s t bs (framed m.width bs) refl k
      go (Err f) k = absurd (ok_not_err k)

  -- What a step of a feed took, and how a fault of it counts.
  abbrev Took : State → List ℕ → ℕ → Result Step (SessionFault F) → Type 0
  Took s bs count (Ok x) = Takes m s (take (step_length m.width bs) bs) x.state × (x.used ≡ step_length m.width bs)
  Took s bs count (Err e) = e.origin.at.count ≡ count

  took_step : (s : State) (bs : List ℕ) (byte count n : ℕ) (r : Result State F) → front m.width bs ≡ Ok n → m.take_step s (take n bs) ≡ r
      → Took s bs count (with_used (by_book r byte count) n)
  took_step s bs byte count n (Ok t) e q =
      let p = passed (front_table m.width bs) (step_length m.width bs) n e in
      let i : step_length m.width bs ≡ n = p.1 in
      let enough = leb-true _ _ p.0.1.1.0 in
      let l : length (take n bs) ≡ n = simp length-take (omega arith) in
      let z : 0 < n = omega arith in
      let d : get_or (take n bs) 0 0 ≡ get_or bs 0 0 = rw get_or-take refl in
      let tk : Takes m s (take n bs) t
      = record { owned = ap (λ (b : ℕ). is_some (m.width b)) d ∙ p.0.1.0; whole = l ∙ sym i ∙ ap (λ (b : ℕ). width_or (m.width b) + 1) (sym d); taken = q } in
      (subst (λ (k : ℕ). Takes m s (take k bs) t) (sym i) tk, sym i)
  took_step s bs byte count n (Err f) e q = refl

  took : (s : State) (bs : List ℕ) (byte count : ℕ) → Took s bs count (stepped m s bs byte count)
  took s bs byte count = go (front m.width bs) refl
    where
      go : (r : Result ℕ Misfit) → front m.width bs ≡ r → Took s bs count (after_front m s bs byte count r)
      go (Ok n) e = took_step s bs byte count n (m.take_step s (take n bs)) e refl
      go (Err f) e = refl

  -- What a feed took.
  abbrev FedTo : State → List ℕ → ℕ → End F → Type 0
  FedTo s bs count e = (k : ℕ) × (counted e.said ≡ count + k) × Leads m s (first_steps m k bs) e.state

  go_leads : (rest : State → List ℕ → ℕ → ℕ → End F) → ((s : State) (bs : List ℕ) (byte count : ℕ) → FedTo s bs count (rest s bs byte count))
      → (s : State) (bs : List ℕ) (byte count : ℕ) (r : Result Step (SessionFault F)) → Took s bs count r → FedTo s bs count (go_on rest s bs byte count r)
  go_leads rest ih s bs byte count (Ok x) h =
      let q = ih x.state (drop x.used bs) (byte + x.used) (count + 1) in
      let end : State = (rest x.state (drop x.used bs) (byte + x.used) (count + 1)).state in
      let p : Leads m x.state (first_steps m q.0 (drop (step_length m.width bs) bs)) end
      = subst (λ (n : ℕ). Leads m x.state (first_steps m q.0 (drop n bs)) end) h.1 q.2 in
      (suc q.0, omega (arith, q.1), one h.0 p)
  go_leads rest ih s bs byte count (Err e) h = (0, h ∙ sym (add-zero count), none)

  if_leads : (s : State) (bs : List ℕ) (count : ℕ) (b : Bool) (e : End F) → FedTo s bs count e → FedTo s bs count (cond b (ended s (Ok count)) e)
  if_leads s bs count true e h = (0, sym (add-zero count), none)
  if_leads s bs count false e h = h

  fed_leads : (bound : ℕ) (s : State) (bs : List ℕ) (byte count : ℕ) → FedTo s bs count (fed_from m bound s bs byte count)
  fed_leads zero s bs byte count = (0, sym (add-zero count), none)
  fed_leads (suc bound) s bs byte count =
      if_leads s bs count (eqb (length bs) 0) _
      (go_leads (fed_from m bound) (fed_leads bound) s bs byte count (stepped m s bs byte count) (took s bs byte count))

  feed_leads : (s : State) (bs : List ℕ) (b : Bool) (f : SessionFault F) → f.origin.at.count ≡ 0 → FedTo s bs 0 (cond b (fed_from m (length bs) s bs 0 0) (ended s (Err f)))
  feed_leads s bs true f h = fed_leads (length bs) s bs 0 0
  feed_leads s bs false f h = (0, h, none)

  propose_leads : (s : State) (bs : List ℕ) (r : Result State (SessionFault F)) → proposed m s bs ≡ r → Leads m s (if_taken bs r) (left s r)
  propose_leads s bs (Ok t) h = one (proposed_takes s t bs h) none
  propose_leads s bs (Err e) h = none

  call_leads : (s : State) (c : Call) → Leads m s (steps_of m s c) (after m s c)
  call_leads s (propose bs) = propose_leads s bs (proposed m s bs) refl
  call_leads s (feed bs) =
      let q = feed_leads s bs (sized s) _ refl in
      let n : q.0 ≡ counted (fed m s bs).said = sym (q.1 ∙ zero-add q.0) in
      subst (λ (k : ℕ). Leads m s (first_steps m k bs) (fed m s bs).state) n q.2
  call_leads s (look l) = none

  calls_lead : (s : State) (cs : List Call) → Leads m s (steps_taken m s cs) (run m s cs)
  calls_lead s [] = none
  calls_lead s (c ∷ cs) = leads_append (call_leads s c) (calls_lead (after m s c) cs)

  pub faithful : Lawful m → Faithful m
  faithful law s q cs =
      let r = calls_lead s cs in
      let all = steps_taken m s cs in
      let kept = leads_kept law q r in
      let right : sized s ≡ true = eq-eqb _ _ q.size in
      let e : fed m s (joined all) ≡ ended (run m s cs) (Ok (0 + length all)) = rw right (leads_fed (length (joined all)) 0 0 all r (omega arith)) in
      record {
        reach = kept.law.reach;
        standstill = kept.law.standstill;
        counts = ap (λ (x : End F). x.said) e ∙ ap (λ (k : ℕ). Ok k) (zero-add (length all));
        ends = ap (λ (x : End F). x.state) e;
      }

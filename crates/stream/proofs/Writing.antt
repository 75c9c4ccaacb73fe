-- What is written is read.
use Rattle.std.proofs.Common.{◌≡◌, ℕ, zero, suc, ◌+◌, ◌<◌, ◌≤◌, List, [], ◌∷◌, ◌++◌, length, drop, Ok, Err, Result, refl, ap, ◌∙◌, arith, length-append}
use Rattle.std.proofs.lemmas.List.{append_assoc}
use Rattle.net.specs.declared.net.NetFault.{NetFault}
use Rattle.net.specs.States.{State, empty}
use Rattle.net.specs.Drafts.{question_told}
use Rattle.stream.specs.declared.command.Command.{Command}
use Rattle.stream.specs.declared.command.Command.TheVariants.{Place, Transition, ArcIn, ArcOut, End}
use Rattle.stream.specs.declared.faults.Cause.{Cause}
use Rattle.stream.specs.declared.faults.ReadFault.{ReadFault}
use Rattle.stream.specs.Streams.{decoded, size, applied, with_state, with_command, Reading, after_step, read_on}
use Rattle.stream.specs.Written.{encoded, written, Plain, AllPlain, ended, done_next, done, ReadsWhatIsWritten}
use Rattle.stream.proofs.Filling.{behind}

-- A written command is decoded.
pub decodes : (c : Command) (l : List ℕ) → Plain c → decoded (encoded c ++ l) ≡ Ok c
decodes (Place m f) l p = grind arith
decodes Transition l p = grind arith
decodes (ArcIn t q w) l p = grind arith
decodes (ArcOut t q w) l p = grind arith
decodes (End q) l p = absurd p

-- It is as long as its size says, and what follows it is behind it.
sizes : (c : Command) → size c ≡ length (encoded c)
sizes (Place m f) = refl
sizes Transition = refl
sizes (ArcIn t p w) = refl
sizes (ArcOut t p w) = refl
sizes (End q) = refl

rest_of : (c : Command) (l : List ℕ) → drop (size c) (encoded c ++ l) ≡ l
rest_of (Place m f) l = refl
rest_of Transition l = refl
rest_of (ArcIn t p w) l = refl
rest_of (ArcOut t p w) l = refl
rest_of (End q) l = refl

not_end : (c : Command) → Plain c → (q : ℕ) → c ≡ End q → ⊥
not_end (Place m f) p q e = cc
not_end Transition p q e = cc
not_end (ArcIn t r w) p q e = cc
not_end (ArcOut t r w) p q e = cc
not_end (End r) p q e = p

-- One written command.
one_read : (fuel : ℕ) (s : State) (c : Command) (l : List ℕ) (byte count : ℕ) → Plain c
    → read_on (suc fuel) s (encoded c ++ l) byte count
    ≡ done_next (λ t. read_on fuel t l (byte + length (encoded c)) (count + 1)) byte count (applied s c)
one_read fuel s c l byte count p =
    ap (λ (d : Result Command Cause). after_step (read_on fuel) (encoded c ++ l) byte count (with_command s byte count d)) (decodes c l p)
    ∙ go (applied s c)
  where
    go : (r : Result State NetFault)
        → after_step (read_on fuel) (encoded c ++ l) byte count (with_state c byte count r)
        ≡ done_next (λ t. read_on fuel t l (byte + length (encoded c)) (count + 1)) byte count r
    go (Ok t) =
        behind (read_on fuel) (encoded c ++ l) byte count t c (not_end c p)
        ∙ ap (λ (k : List ℕ). read_on fuel t k (byte + size c) (count + 1)) (rest_of c l)
        ∙ ap (λ (n : ℕ). read_on fuel t l (byte + n) (count + 1)) (sizes c)
    go (Err e) = refl

end_read : (fuel : ℕ) (s : State) (q : ℕ) (rest : List ℕ) (byte count : ℕ)
    → read_on (suc fuel) s (0x1f ∷ q ∷ rest) byte count ≡ ended byte count (question_told s q)
end_read fuel s q rest byte count =
    ap (λ (d : Result Command Cause). after_step (read_on fuel) (0x1f ∷ q ∷ rest) byte count (with_command s byte count d))
    ended_there
    ∙ go (question_told s q)
  where
    ended_there : decoded (0x1f ∷ q ∷ rest) ≡ Ok (End q)
    ended_there = grind arith

    go : (r : Result State NetFault) → after_step (read_on fuel) (0x1f ∷ q ∷ rest) byte count (with_state (End q) byte count r) ≡ ended byte count r
    go (Ok t) = refl
    go (Err e) = refl

next_same : (f g : State → Result Reading ReadFault) (byte count : ℕ) (r : Result State NetFault) → ((t : State) → f t ≡ g t)
    → done_next f byte count r ≡ done_next g byte count r
next_same f g byte count (Ok t) h = h t
next_same f g byte count (Err e) h = refl

some_bytes : (c : Command) → 0 < length (encoded c)
some_bytes c = grind arith

reads : (cs : List Command) (fuel : ℕ) (s : State) (q : ℕ) (rest : List ℕ) (byte count : ℕ) → AllPlain cs
    → length (written cs ++ (0x1f ∷ q ∷ rest)) ≤ fuel → read_on fuel s (written cs ++ (0x1f ∷ q ∷ rest)) byte count ≡ done s cs q byte count
reads [] zero s q rest byte count p h = absurd (omega arith)
reads [] (suc fuel) s q rest byte count p h = end_read fuel s q rest byte count
reads (c ∷ cs) zero s q rest byte count p h =
    let b = some_bytes c in
    absurd (omega (arith, length-append (encoded c ++ written cs) (0x1f ∷ q ∷ rest), length-append (encoded c) (written cs)))
reads (c ∷ cs) (suc fuel) s q rest byte count p h =
    let l = written cs ++ (0x1f ∷ q ∷ rest) in
    let a : (encoded c ++ written cs) ++ (0x1f ∷ q ∷ rest) ≡ encoded c ++ l = append_assoc (encoded c) (written cs) (0x1f ∷ q ∷ rest) in
    let b = some_bytes c in
    let small : length l ≤ fuel = omega (arith, ap length a, length-append (encoded c) l) in
    ap (λ (k : List ℕ). read_on (suc fuel) s k byte count) a
    ∙ one_read fuel s c l byte count p.0
    ∙ next_same _ _ byte count (applied s c) (λ t. reads cs fuel t q rest (byte + length (encoded c)) (count + 1) p.1 small)

pub reads_what_is_written : ReadsWhatIsWritten
reads_what_is_written cs q rest p = reads cs (length (written cs ++ (0x1f ∷ q ∷ rest))) empty q rest 0 0 p (omega arith)

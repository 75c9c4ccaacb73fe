-- Streams as they are written: an honest writer's commands are read back, each at its place.
use Rattle.std.specs.Prelude.{◌≡◌, ℕ, ◌+◌, ◌/◌, ◌%◌, ◌^◌, ◌<◌, List, [], ◌∷◌, ◌++◌, length, Ok, Err, Result}
use Rattle.net.specs.declared.net.Layer.TheVariants as layer
use Rattle.net.specs.declared.net.NetFault.{NetFault}
use Rattle.net.specs.States.{State, empty}
use Rattle.net.specs.Drafts.{question_told}
use Rattle.stream.specs.declared.command.Command.{Command}
use Rattle.stream.specs.declared.command.Command.TheVariants.{Place, Transition, ArcIn, ArcOut, End}
use Rattle.stream.specs.declared.faults.Cause.TheVariants.{Net}
use Rattle.stream.specs.declared.faults.ReadFault.{ReadFault}
use Rattle.stream.specs.Faults.{fault}
use Rattle.stream.specs.Streams.{Reading, reading, applied}

-- The bytes of a number, the most significant first.
abbrev pub bytes_2 : ℕ → List ℕ
bytes_2 n = n / 256 ∷ n % 256 ∷ []

abbrev pub bytes_4 : ℕ → List ℕ
bytes_4 n = bytes_2 (n / 65536) ++ bytes_2 (n % 65536)

-- The bytes of a command.
abbrev pub encoded : Command → List ℕ
encoded (Place m f) = 0x10 ∷ bytes_4 m ++ (f ∷ [])
encoded Transition = 0x11 ∷ []
encoded (ArcIn t p w) = 0x12 ∷ t ∷ p ∷ bytes_2 w
encoded (ArcOut t p w) = 0x13 ∷ t ∷ p ∷ bytes_2 w
encoded (End q) = 0x1f ∷ q ∷ []

abbrev pub written : List Command → List ℕ
written [] = []
written (c ∷ cs) = encoded c ++ written cs

-- A command before the end, with operands that fit their bytes.
abbrev pub Plain : Command → Type 0
Plain (Place m f) = (m < 2 ^ 32) × (f < 256)
Plain Transition = Unit {0}
Plain (ArcIn t p w) = (t < 256) × (p < 256) × (w < 65536)
Plain (ArcOut t p w) = (t < 256) × (p < 256) × (w < 65536)
Plain (End q) = ⊥

abbrev pub AllPlain : List Command → Type 0
AllPlain [] = Unit {0}
AllPlain (c ∷ cs) = Plain c × AllPlain cs

-- The commands done one after another, then the end with its question; the first refused one is the fault, at its place.
abbrev pub ended : ℕ → ℕ → Result State NetFault → Result Reading ReadFault
ended byte count (Ok t) = Ok (record { state = t; used = byte + 2 })
ended byte count (Err e) = Err (fault (Net e) layer.Net byte count)

abbrev pub done_next : (State → Result Reading ReadFault) → ℕ → ℕ → Result State NetFault → Result Reading ReadFault
done_next rest byte count (Ok t) = rest t
done_next rest byte count (Err e) = Err (fault (Net e) layer.Net byte count)

abbrev pub done : State → List Command → ℕ → ℕ → ℕ → Result Reading ReadFault
done s [] q byte count = ended byte count (question_told s q)
done s (c ∷ cs) q byte count = done_next (λ t. done t cs q (byte + length (encoded c)) (count + 1)) byte count (applied s c)

-- What is written is read: the commands in their order, whatever follows the end.
abbrev pub ReadsWhatIsWritten : Type 0
ReadsWhatIsWritten =
    (cs : List Command) (q : ℕ) (rest : List ℕ) → AllPlain cs → reading (written cs ++ (0x1f ∷ q ∷ rest)) ≡ done empty cs q 0 0

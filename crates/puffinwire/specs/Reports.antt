-- What the exported calls leave in the caller's memory: the numbers of the sheet, and a report.
use Rattle.std.specs.Prelude.{◌≡◌, ℕ, ◌+◌, ◌*◌, Bool, cond, List, [], ◌∷◌, Ok, Err, Result, Some, None, Option}
use Rattle.net.specs.declared.net.Layer.{Layer}
use Rattle.net.specs.declared.net.Layer.TheVariants as layer
use Rattle.net.specs.declared.net.Told.{Told}
use Rattle.net.specs.States.{State, question_number}
use Rattle.net.specs.Drafts.{started}
use Rattle.stream.specs.declared.faults.ReadFault.{ReadFault}
use Rattle.stream.specs.Faults.{read_told}
use Rattle.stream.specs.Streams.{Reading, reading_into, left_or_empty}
use Rattle.house.specs.House.{HouseFault, house_number, house_width, taken_by_house}
use Rattle.session.specs.declared.faults.SessionFault.{SessionFault}
use Rattle.session.specs.Faults.{session_told}
use Rattle.session.specs.Feeds.{meaning, End, fed}
use Rattle.puffinwire.specs.declared.report.Report.{Report}

-- The set of the flags that are true as a number: bit p is that of place p.
abbrev pub set_number : List Bool → ℕ
set_number [] = 0
set_number (b ∷ bs) = cond b 1 0 + 2 * set_number bs

-- The number of a layer.
abbrev pub layer_number : Layer → ℕ
layer_number layer.Net = 1
layer_number layer.Reader = 2
layer_number layer.Book = 3
layer_number layer.Session = 4

-- What is told of a refusal: all are 0 where nothing was refused.
abbrev pub told_number : Option Told → ℕ
told_number (Some t) = t.number
told_number None = 0

abbrev pub told_layer : Option Told → ℕ
told_layer (Some t) = layer_number t.origin.layer
told_layer None = 0

abbrev pub told_byte : Option Told → ℕ
told_byte (Some t) = t.origin.at.byte
told_byte None = 0

abbrev pub told_count : Option Told → ℕ
told_count (Some t) = t.origin.at.count
told_count None = 0

-- The report on the net that is left, the bytes of the net stream that were used, the steps taken, and the refusal.
abbrev pub report_of : State → ℕ → ℕ → Option Told → Report
report_of s used taken refusal =
    record {
      used = used;
      taken = taken;
      byte = told_byte refusal;
      count = told_count refusal;
      standing = set_number s.standing;
      support = set_number s.support;
      number = told_number refusal;
      layer = told_layer refusal;
      transitions = s.transitions;
      question = question_number s.question;
    }

-- Of a reading, and of a feed.
abbrev pub reading_report : State → Result ℕ ReadFault → Report
reading_report s (Ok used) = report_of s used 0 None
reading_report s (Err f) = report_of s 0 0 (Some (read_told f))

abbrev pub feed_report : State → ℕ → Result ℕ (SessionFault HouseFault) → Report
feed_report s used (Ok n) = report_of s used n None
feed_report s used (Err f) = report_of s used f.origin.at.count (Some (session_told house_number f))

-- What a call leaves.
pub record Left : Type 0 where
  pub sheet : List ℕ
  pub report : Report

-- Reading alone: the net that was read; or the empty net; or, where the sheet has no net, the sheet as it was.
abbrev pub used_of : Result Reading ReadFault → Result ℕ ReadFault
used_of (Ok r) = Ok r.used
used_of (Err f) = Err f

abbrev pub read_left : State → Result Reading ReadFault → Left
read_left s r = record { sheet = (left_or_empty s r).sheet; report = reading_report (left_or_empty s r) (used_of r) }

-- Reading a net into the numbers `xs`.
abbrev pub read_over : List ℕ → List ℕ → Left
read_over xs net = read_left (started xs) (reading_into (started xs) net)

-- The net that was read is fed the steps with the house book; of a refused one no step is looked at.
abbrev pub feed_left : ℕ → End HouseFault → Left
feed_left used e = record { sheet = e.state.sheet; report = feed_report e.state used e.said }

abbrev pub reduced_left : State → List ℕ → Result Reading ReadFault → Left
reduced_left s steps (Ok r) = feed_left r.used (fed (meaning house_width taken_by_house) r.state steps)
reduced_left s steps (Err f) = read_left s (Err f)

-- Reading a net into the numbers `xs`, and reducing it.
abbrev pub reduced_over : List ℕ → List ℕ → List ℕ → Left
reduced_over xs net steps = reduced_left (started xs) steps (reading_into (started xs) net)

-- The call leaves what the definition gives.
pub record Leaves (sheet : List ℕ) (report : Report) (d : Left) : Type 0 where
  pub numbers : sheet ≡ d.sheet
  pub told : report ≡ d.report

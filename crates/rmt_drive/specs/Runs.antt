-- What a packet text of which so many bytes may be read gives, and how a run over it ends.
use Rattle.std.specs.Prelude.{◌≡◌, ℕ, Bool, List, Option, Some, None, if◌then◌else◌, length, nat_lt}
use Rattle.rmt_bits.specs.Lines.{numbered_lines}
use Rattle.rmt_packets.specs.PacketText.{BadLine}
use Rattle.rmt_runs.specs.TextLines.{lines_within}
use Rattle.rmt_drive.specs.declared.status.Status.{Status}
use Rattle.rmt_drive.specs.declared.status.Status.TheVariants.{Done, BadPackets, TooLong}
use Rattle.rmt_drive.specs.Files.{Files}
use Rattle.rmt_drive.specs.Given.{Given, told}

-- how the numbered lines of a packet text are read: what they say, and which of them is the first bad one
pub record Way (X : Type 0) : Type 0 where
  pub read : List (ℕ × List ℕ) → X
  pub bad : X → Option BadLine

-- what is read of a text: all of it, or the lines that end within the limit
abbrev pub said_within : {X : Type 0} → Way X → ℕ → List ℕ → X
said_within way limit text = way.read (lines_within limit text)

-- a bad line that is read ends a run with BadPackets; else a text that is too long with TooLong
abbrev pub run_status : Bool → Option BadLine → Status
run_status is_long (Some bad) = BadPackets
run_status is_long None = if is_long then TooLong else Done

-- what is told of a text that is too long is of the whole text, of which a front is printed
abbrev pub told_within : {X : Type 0} → Way X → ℕ → List ℕ → Option BadLine → X
told_within way limit text (Some bad) = said_within way limit text
told_within way limit text None = way.read (numbered_lines 1 text)

-- a run over a packet text that is read so, by what is printed for what such a text says
abbrev pub RunsBy : {X : Type 0} → Way X → Files → (X → List ℕ) → ℕ → List ℕ → Given → Type 0
RunsBy way files printed limit text g =
    let bad = way.bad (said_within way limit text) in
    g ≡ told files (run_status (nat_lt limit (length text)) bad) (printed (told_within way limit text bad))

-- What `sim` and `probe` give.
use Rattle.std.specs.Prelude.{◌≡◌, ℕ, List, Result, Ok, Err}
use Rattle.rmt_core.specs.Types.{Config}
use Rattle.rmt_items.specs.declared.fault.ImageFault.{ImageFault}
use Rattle.rmt_image.specs.Reading.{Answers}
use Rattle.rmt_drive.specs.declared.status.Status.TheVariants.{BadImage}
use Rattle.rmt_drive.specs.declared.watch.Watch.{Watch}
use Rattle.rmt_drive.specs.Files.{Files, image_limit, packets_limit}
use Rattle.rmt_drive.specs.Given.{Given, Opens, Reads, told}
use Rattle.rmt_drive.specs.ChipRuns.{RunsChip}
use Rattle.rmt_core.specs.ImageFaults.{bad_image_line}

-- with the configuration of an image a command goes on; it ends with the fault of bytes that are none
abbrev pub OfAnswer : Files → (Config → Given → Type 0) → Given → Result Config ImageFault → Type 0
OfAnswer files next g (Ok c) = next c g
OfAnswer files next g (Err fault) = g ≡ told files BadImage (bad_image_line fault)

-- a command that looks at the bytes of an image
abbrev pub Spelled : Files → List ℕ → (Config → Given → Type 0) → Given → Type 0
Spelled files bytes next g = (answer : Result Config ImageFault) × Answers bytes answer × OfAnswer files next g answer

-- `sim IMAGE PACKETS` and `probe IMAGE PACKETS CYCLE`, by what is watched
abbrev pub GivesRun : Watch → Files → List ℕ → List ℕ → Given → Type 0
GivesRun watch files image packets =
    Reads files image image_limit (λ bytes.
    Opens files packets (λ text.
    Spelled files bytes (λ c. RunsChip watch files c packets_limit text)))

-- ---- the steps of `sim` and `probe`

-- a run of the chip of an image over a packet text
abbrev pub OfOpen : Watch → Files → List ℕ → List ℕ → Given → Type 0
OfOpen watch files bytes text = Spelled files bytes (λ c. RunsChip watch files c packets_limit text)

-- and over that of a file
abbrev pub OfImage : Watch → Files → List ℕ → List ℕ → Given → Type 0
OfImage watch files packets bytes = Opens files packets (OfOpen watch files bytes)

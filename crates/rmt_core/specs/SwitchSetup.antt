-- What the three files of `switch` say, and why they say nothing.
use Rattle.std.specs.Prelude.{◌≡◌, ◌≢◌, ⊤, ℕ, List, [], Ok, Err}
use Rattle.rmt_config.specs.Spells.{Spells}
use Rattle.rmt_items.specs.declared.fault.ImageFault.TheVariants as image_fault
use Rattle.rmt_image.specs.Reading.{Answers}
use Rattle.rmt_io.specs.Outside.{ShelfState}
use Rattle.rmt_pcap.specs.declared.fault.CaptureFault.TheVariants as capture_fault
use Rattle.rmt_pcap.specs.Captures.{capture_of}
use Rattle.rmt_switch.specs.declared.fault.GroupFault.TheVariants as group_fault
use Rattle.rmt_switch.specs.GroupText.{groups_of}
use Rattle.rmt_core.specs.Types.{Config}
use Rattle.rmt_drive.specs.declared.status.Status.{Status}
use Rattle.rmt_drive.specs.declared.status.Status.TheVariants as status
use Rattle.rmt_core.specs.declared.switching.setup.Inputs.{Inputs}
use Rattle.rmt_core.specs.declared.switching.setup.SetupFault.{SetupFault}
use Rattle.rmt_core.specs.declared.switching.setup.SetupFault.TheVariants.{Image, Groups, Capture}
use Rattle.rmt_drive.specs.Files.{capture_limit, groups_limit, image_limit}
use Rattle.rmt_drive.specs.Loading.{IsFound, NotRead}
use Rattle.rmt_drive.specs.SimText.{bad_packets_line}
use Rattle.rmt_core.specs.ImageFaults.{bad_image_line}
use Rattle.rmt_core.specs.Texts.{bad_entries_line}

-- the three files were found
pub record AreFound (shelf : ShelfState) (image_name groups_name capture_name : List ℕ) (inputs : Inputs) : Type 0 where
  pub image : IsFound shelf image_name image_limit inputs.image.items
  pub groups : IsFound shelf groups_name groups_limit inputs.groups.items
  pub capture : IsFound shelf capture_name capture_limit inputs.capture.items

-- one of them was not read, behind those before it
pub data NoneRead (shelf : ShelfState) (image groups capture : List ℕ) (status : Status) : Type 0 where
  no_image : NotRead shelf image image_limit status → NoneRead shelf image groups capture status
  no_groups : (bytes : List ℕ) → IsFound shelf image image_limit bytes → NotRead shelf groups groups_limit status → NoneRead shelf image groups capture status
  no_capture : (bytes text : List ℕ) → IsFound shelf image image_limit bytes → IsFound shelf groups groups_limit text → NotRead shelf capture capture_limit status
      → NoneRead shelf image groups capture status

-- an image of a configuration
pub record IsImageOf (bytes : List ℕ) (c : Config) : Type 0 where
  pub spells : Spells bytes c
  pub answers : Answers bytes (Ok c)

-- what a fault says of the three files
abbrev pub SaysFault : List ℕ → List ℕ → List ℕ → SetupFault → Type 0
SaysFault image groups capture (Image fault) = fault ≢ image_fault.NoMemory → Answers image (Err fault)
SaysFault image groups capture (Groups group_fault.NoMemory) = ⊤
SaysFault image groups capture (Groups (group_fault.At code line)) = (c : Config) × IsImageOf image c × (groups_of groups ≡ Err (group_fault.At code line))
SaysFault image groups capture (Capture capture_fault.NoMemory) = ⊤
SaysFault image groups capture (Capture (capture_fault.Code code)) =
    (c : Config) × IsImageOf image c × (ports : List (List ℕ)) × (groups_of groups ≡ Ok ports) × (capture_of capture ≡ Err code)

-- the status and the last line that tell it
abbrev pub setup_fault_status : SetupFault → Status
setup_fault_status (Image fault) = status.BadImage
setup_fault_status (Groups group_fault.NoMemory) = status.NoMemory
setup_fault_status (Groups (group_fault.At code line)) = status.BadEntries
setup_fault_status (Capture capture_fault.NoMemory) = status.NoMemory
setup_fault_status (Capture (capture_fault.Code code)) = status.BadPackets

abbrev pub setup_fault_line : SetupFault → List ℕ
setup_fault_line (Image fault) = bad_image_line fault
setup_fault_line (Groups group_fault.NoMemory) = []
setup_fault_line (Groups (group_fault.At code line)) = bad_entries_line code line
setup_fault_line (Capture capture_fault.NoMemory) = []
setup_fault_line (Capture (capture_fault.Code code)) = bad_packets_line code 0

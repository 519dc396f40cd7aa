-- What `switch` gives: a capture for each port that sent, and the line of what was counted.
use Rattle.std.specs.Prelude.{◌≡◌, ℕ, List, ◌++◌, codes, map, Result, Ok, Err}
use Rattle.std.specs.Fmt.{decimal}
use Rattle.rmt_pcap.specs.declared.capture.Capture.{Capture}
use Rattle.rmt_pcap.specs.Captures.{capture_of}
use Rattle.rmt_switch.specs.declared.fault.GroupFault.{GroupFault}
use Rattle.rmt_switch.specs.declared.fault.GroupFault.TheVariants.{At, NoMemory}
use Rattle.rmt_switch.specs.declared.switched.PortFile.{PortFile}
use Rattle.rmt_switch.specs.declared.switched.Switched.{Switched}
use Rattle.rmt_switch.specs.GroupText.{groups_of}
use Rattle.rmt_switch.specs.Printed.{switch_line}
use Rattle.rmt_switch.specs.Switch.{switched}
use Rattle.rmt_drive.specs.declared.status.Status.TheVariants.{BadEntries, BadPackets}
use Rattle.rmt_drive.specs.Files.{Files, Write, capture_limit, groups_limit, image_limit}
use Rattle.rmt_drive.specs.Given.{Given, Reads, stored, told}
use Rattle.rmt_drive.specs.SimText.{bad_packets_line}
use Rattle.rmt_core.specs.Simulating.{Spelled}
use Rattle.rmt_core.specs.Texts.{bad_entries_line}

-- with the groups of a text a command goes on; it ends with the first bad line
abbrev pub OfGroups : Files → (List (List ℕ) → Given → Type 0) → Given → Result (List (List ℕ)) GroupFault → Type 0
OfGroups files next g (Ok groups) = next groups g
OfGroups files next g (Err (At code line)) = g ≡ told files BadEntries (bad_entries_line code line)
OfGroups files next g (Err NoMemory) = ⊥

-- with what a capture file says it goes on; it ends with the code of the file's fault, and no line
abbrev pub OfCapture : Files → (Capture → Given → Type 0) → Given → Result Capture ℕ → Type 0
OfCapture files next g (Ok capture) = next capture g
OfCapture files next g (Err code) = g ≡ told files BadPackets (bad_packets_line code 0)

abbrev pub HasGroups : Files → List ℕ → (List (List ℕ) → Given → Type 0) → Given → Type 0
HasGroups files text next g = OfGroups files next g (groups_of text)

abbrev pub HasCapture : Files → List ℕ → (Capture → Given → Type 0) → Given → Type 0
HasCapture files file next g = OfCapture files next g (capture_of file)

-- the capture of a port is the file `OUT.P.pcap`
abbrev pub port_name : List ℕ → ℕ → List ℕ
port_name out port = out ++ (codes "." ++ (decimal port ++ codes ".pcap"))

abbrev pub port_write : List ℕ → PortFile → Write
port_write out file = record { name = port_name out file.port; bytes = file.bytes }

-- by rising port, as a run has them
abbrev pub port_writes : List ℕ → List PortFile → List Write
port_writes out files = map (port_write out) files

-- the captures of what a run gave, and behind them its line
abbrev pub switch_given : Files → List ℕ → Switched → Given
switch_given files out s = stored files (port_writes out s.files) (switch_line s.counts)

-- a command that goes on with a configuration, groups, and a capture file
abbrev pub Switches : Files → List ℕ → ℕ → List ℕ → List ℕ → List ℕ → Given → Type 0
Switches files out every image groups capture =
    Spelled files image (λ c.
    HasGroups files groups (λ ports.
    HasCapture files capture (λ said g. g ≡ switch_given files out (switched c ports every capture said))))

-- `switch IMAGE GROUPS CAPTURE OUT EVERY`
abbrev pub GivesSwitch : Files → List ℕ → List ℕ → List ℕ → List ℕ → ℕ → Given → Type 0
GivesSwitch files image groups capture out every =
    Reads files image image_limit (λ bytes.
    Reads files groups groups_limit (λ group_text.
    Reads files capture capture_limit (λ file. Switches files out every bytes group_text file)))

-- Output ports that stand for a list of calls of their queues.
use Rattle.std.specs.Prelude.{◌≡◌, ℕ, ◌+◌, ◌*◌, ◌<◌, ◌≤◌, true, false, List, [], ◌∷◌, ◌++◌, length, map, slice_index_or, Vec}
use Rattle.std.specs.Global.{Global}
use Rattle.rmt_pcap.specs.declared.capture.Capture.{Capture}
use Rattle.rmt_pcap.specs.Written.{written}
use Rattle.rmt_queues.specs.Calls.{Call, after_all}
use Rattle.rmt_queues.specs.Lists.{Lists, empty, queue_of}
use Rattle.rmt_queues.specs.Stands.{Stands}
use Rattle.rmt_switch.specs.declared.ports.Ports.{Ports}
use Rattle.rmt_switch.specs.declared.switched.PortFile.{PortFile}
use Rattle.rmt_switch.specs.Copies.{counted, dropped_by, refused_by, sent_in, taken_by}

-- the queues at first
abbrev pub start : Lists
start = empty 65536 512 64

-- the capture of a port that sent these items; no bytes where it sent nothing
abbrev pub file_text : Capture → List (List ℕ) → List ℕ
file_text capture [] = []
file_text capture (item ∷ items) = written capture.head capture.big (item ∷ items)

-- the bytes for a port
abbrev pub file_at : List (Vec ℕ Global) → ℕ → List ℕ
file_at files port = slice_index_or (map (λ (f : Vec ℕ Global). f.items) files) port []

-- ports stand for these calls
pub record Holds (capture : Capture) (calls : List Call) (p : Ports) : Type 0 where
  pub queues : Stands (after_all start calls) p.queues
  pub many : length (after_all start calls).queues ≡ 512
  -- a port whose queue has an item is not passed over
  pub all_waiting : length p.waiting.items ≡ 512
  pub idle : (port : ℕ) → port < 512 → slice_index_or p.waiting.items port true ≡ false → queue_of (after_all start calls) port ≡ []
  pub room : length p.room.items ≡ 13320
  -- each port's capture is that of what it sent
  pub all_files : length p.files.items ≡ 512
  pub files : (port : ℕ) → port < 512 → file_at p.files.items port ≡ file_text capture (sent_in start calls port)
  -- what is counted
  pub out : p.out ≡ counted taken_by start calls
  pub queue : p.queue ≡ counted dropped_by start calls
  pub cells : p.cells ≡ counted refused_by start calls
  pub few_out : p.out ≤ length calls
  pub few_queue : p.queue ≤ 8 * length calls
  pub few_cells : p.cells ≤ 8 * length calls

-- the file of a port, none where there are no bytes
abbrev pub named : ℕ → List ℕ → List PortFile
named port [] = []
named port (b ∷ bytes) = record { port = port; bytes = b ∷ bytes } ∷ []

-- the files of the ports from one on
abbrev pub files_from : ℕ → List (Vec ℕ Global) → List PortFile
files_from port [] = []
files_from port (f ∷ fs) = named port f.items ++ files_from (port + 1) fs

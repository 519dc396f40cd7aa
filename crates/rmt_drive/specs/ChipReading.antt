-- What the chip of a configuration reads of a packet text: its packets, and where the configuration has names its changes and commits, up to the first bad line.
use Rattle.std.specs.Prelude.{ℕ, ◌+◌, ◌==◌, List, [], ◌∷◌, Bool, false, Option, Some, None, if◌then◌else◌, fold, is_some}
use Rattle.rmt_config.specs.declared.config.Config.{Config}
use Rattle.rmt_ast.specs.Events.{Arrives, Commits, Event}
use Rattle.rmt_packets.specs.declared.line_kind.LineKind.{LineKind}
use Rattle.rmt_packets.specs.declared.line_kind.LineKind.TheVariants as line
use Rattle.rmt_packets.specs.LineKinds.{kind_of}
use Rattle.rmt_packets.specs.PacketText.{BadLine, packet_of}
use Rattle.rmt_lists.specs.Running.{fresh, line_change}
use Rattle.rmt_drive.specs.EventText.{EventReading, most_additions, with_bad, with_change, with_commit, with_packet}
use Rattle.rmt_drive.specs.Runs.{Way}
use Rattle.rmt_drive.specs.ChipEvents.{lists_in, names_in}

-- before the first line
abbrev pub unread_by : Config → EventReading
unread_by c = record { events = []; changes = []; run = fresh (names_in c) (lists_in c) most_additions; bad = None }

-- how many commits there are
abbrev pub commits_in : List Event → ℕ
commits_in [] = 0
commits_in (Arrives packet ∷ events) = commits_in events
commits_in (Commits changes ∷ events) = commits_in events + 1

-- The next commit is the one that finds no room, where one of the text does: the one behind so many others.
abbrev pub finds_none : Option ℕ → List Event → Bool
finds_none None events = false
finds_none (Some before) events = commits_in events == before

-- a commit more, or code 10 where it finds no room
abbrev pub with_chip_commit : Option ℕ → ℕ → EventReading → EventReading
with_chip_commit full number r = if finds_none full r.events then with_bad number 10 r else with_commit r

-- a line more, by its kind; without names a change and a commit have code 4
abbrev pub with_chip_line : Bool → Option ℕ → ℕ → List ℕ → LineKind → EventReading → EventReading
with_chip_line named full number text line.Packet r = with_packet number (packet_of text) r
with_chip_line named full number text line.Addition r = if named then with_change number text (line_change r.run text) r else with_bad number 4 r
with_chip_line named full number text line.Removal r = if named then with_change number text (line_change r.run text) r else with_bad number 4 r
with_chip_line named full number text line.Commit r = if named then with_chip_commit full number r else with_bad number 4 r

-- behind a bad line nothing is read
abbrev pub chip_reads_on : Bool → Option ℕ → EventReading → Option BadLine → ℕ × List ℕ → EventReading
chip_reads_on named full r (Some bad) l = r
chip_reads_on named full r None l = with_chip_line named full l.0 l.1 (kind_of l.1) r

-- what numbered lines say
abbrev pub read_by : Config → Option ℕ → List (ℕ × List ℕ) → EventReading
read_by c full lines = fold (λ (r : EventReading) (l : ℕ × List ℕ). chip_reads_on (is_some c.names) full r r.bad l) (unread_by c) lines

-- a text whose packets and commits run in the chip of a configuration
abbrev pub by_chip : Config → Option ℕ → Way EventReading
by_chip c full = record { read = read_by c full; bad = λ (r : EventReading). r.bad }

-- What a packet text says that may change entries: its packets and commits up to its first bad line, for the entries with which it begins.
use Rattle.std.specs.Prelude.{ℕ, List, [], ◌∷◌, ◌++◌, Option, Some, None, Result, Ok, Err, if◌then◌else◌, drop, fold}
use Rattle.rmt_bits.specs.Packet.{Packet}
use Rattle.rmt_ast.specs.declared.program.Program.{Program}
use Rattle.rmt_ast.specs.declared.entry.Entry.{Entry}
use Rattle.rmt_ast.specs.declared.names.Names.{Names}
use Rattle.rmt_ast.specs.Changes.{Adds, Change, Removes}
use Rattle.rmt_ast.specs.Events.{Arrives, Commits, Event}
use Rattle.rmt_ast.specs.Naming.{names_of}
use Rattle.rmt_entries.specs.declared.named.EntryName.{EntryName}
use Rattle.rmt_entries.specs.NamedLines.{named_entry, named_key}
use Rattle.rmt_packets.specs.declared.line_kind.LineKind.{LineKind}
use Rattle.rmt_packets.specs.declared.line_kind.LineKind.TheVariants as line
use Rattle.rmt_packets.specs.LineKinds.{kind_of}
use Rattle.rmt_packets.specs.PacketText.{BadLine, packet_of}
use Rattle.rmt_lists.specs.Running.{Running, begins, commit_of, fresh, key_of_name, line_change}
use Rattle.rmt_drive.specs.Runs.{Way}

-- how many additions a packet text may have
abbrev pub most_additions : ℕ
most_additions = 1048576

-- What was read of a text: its packets and commits, the changes since the last commit, the entries as they leave them, and the first
-- bad line.
pub record EventReading : Type 0 where
  pub events : List Event
  pub changes : List Change
  pub run : Running
  pub bad : Option BadLine

-- before the first line, with a program's entries
abbrev pub unread : Program → List (List Entry) → EventReading
unread p lists = record { events = []; changes = []; run = fresh (names_of p lists) lists most_additions; bad = None }

-- the change that an addition or a removal says by names
abbrev pub added_by : Result Entry ℕ → List Change
added_by (Ok entry) = Adds entry ∷ []
added_by (Err code) = []

abbrev pub removed_by : Result EntryName ℕ → List Change
removed_by (Ok name) = Removes name.table (key_of_name name) ∷ []
removed_by (Err code) = []

abbrev pub change_said : Names → List ℕ → List Change
change_said names text = if begins 43 text then added_by (named_entry names (drop 2 text)) else removed_by (named_key names (drop 2 text))

-- a bad line, and what stands before it
abbrev pub with_bad : ℕ → ℕ → EventReading → EventReading
with_bad number code r = record r { bad = Some (record { code = code; line = number }) }

-- a packet more, or the code of its line
abbrev pub with_packet : ℕ → Result Packet ℕ → EventReading → EventReading
with_packet number (Ok packet) r = record r { events = r.events ++ Arrives packet ∷ [] }
with_packet number (Err code) r = with_bad number code r

-- a change more that leaves these entries, or the code of its line
abbrev pub with_change : ℕ → List ℕ → Result Running ℕ → EventReading → EventReading
with_change number text (Ok run) r = record r { changes = r.changes ++ change_said r.run.names text; run = run }
with_change number text (Err code) r = with_bad number code r

-- a commit more
abbrev pub with_commit : EventReading → EventReading
with_commit r = record r { events = r.events ++ Commits r.changes ∷ []; changes = []; run = commit_of r.run }

-- a line more, by its kind
abbrev pub with_line : ℕ → List ℕ → LineKind → EventReading → EventReading
with_line number text line.Packet r = with_packet number (packet_of text) r
with_line number text line.Addition r = with_change number text (line_change r.run text) r
with_line number text line.Removal r = with_change number text (line_change r.run text) r
with_line number text line.Commit r = with_commit r

-- behind a bad line nothing is read
abbrev pub read_on : EventReading → Option BadLine → ℕ × List ℕ → EventReading
read_on r (Some bad) l = r
read_on r None l = with_line l.0 l.1 (kind_of l.1) r

-- what numbered lines say
abbrev pub events_of : Program → List (List Entry) → List (ℕ × List ℕ) → EventReading
events_of p lists lines = fold (λ (r : EventReading) (l : ℕ × List ℕ). read_on r r.bad l) (unread p lists) lines

-- a text whose packets and commits run with a program's entries
abbrev pub with_changes : Program → List (List Entry) → Way EventReading
with_changes p lists = record { read = events_of p lists; bad = λ (r : EventReading). r.bad }

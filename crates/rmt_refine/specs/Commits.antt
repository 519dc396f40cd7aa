-- What packets see of the cells while commits change them.
use Rattle.std.specs.Prelude.{◌≡◌, ◌≤◌, ℕ, ◌+◌, List, true, false, if◌then◌else◌, Some, All, Contains, fold, length, take, slice_get}
use Rattle.rmt_bits.specs.Packet.{Packet}
use Rattle.rmt_ast.specs.declared.entry.Entry.{Entry}
use Rattle.rmt_ast.specs.declared.names.Names.{Names}
use Rattle.rmt_ast.specs.EntryLists.{AreEntries, terms_of}
use Rattle.rmt_ast.specs.Events.{Event}
use Rattle.rmt_ast.specs.NameRules.{terms_named}
use Rattle.rmt_refine.specs.Types.{Config, Program, Table}
use Rattle.rmt_config.specs.declared.cell_write.CellWrite.{CellWrite}
use Rattle.rmt_config.specs.Commits.{AreWrites, Makes, RunsTo, all_entries, is_numbered_in}
use Rattle.rmt_config.specs.Form.{Formed}
use Rattle.rmt_config.specs.Limits.{IsWithinLimits}
use Rattle.rmt_config.specs.RunCells.{RunCells, look_in, no_content, sees, with_write}
use Rattle.rmt_config.specs.RunInputs.{Enters, Input, cells_at, look_from}
use Rattle.rmt_refine.specs.declared.map.CellOf.{CellOf}
use Rattle.rmt_refine.specs.declared.map.Map.{Map}
use Rattle.rmt_refine.specs.View.{View}
use Rattle.rmt_refine.specs.Units.{UnitsCarried, table_at}
use Rattle.rmt_refine.specs.Cells.{CellsCarried}

-- While a commit that moves no cell changes cells, one a cycle, each look-up of a packet of the version that is current finds what it found
-- before the commit, after any number of the changes.
abbrev pub ChangesAreUnseen : Type 0
ChangesAreUnseen =
    (c : Config) (names : Names) (cells : RunCells) (before after : List (List Entry)) (next : RunCells) (seed : ℕ) (writes : List CellWrite) (count k place key : ℕ)
    → c.names ≡ Some names → Makes c names cells before after false seed next → AreWrites c cells next writes
    → look_in c cells.version (fold (with_write c) cells (take count writes)) k place key ≡ look_in c cells.version cells k place key

-- Each packet of a run of packets and commits sees one state of the cells, that of the cycle in which it enters: each of its look-ups, in
-- whatever cycle its stage begins, finds what it would find in that cycle, although cells are changed and versions made while it is in flight.
abbrev pub PacketsSeeOneState : Type 0
PacketsSeeOneState =
    (c : Config) (names : Names) (lists : List (List Entry)) (events : List Event) (inputs : List Input) (cycle : ℕ) (packet : Packet) (k place key : ℕ)
    → Formed c → c.names ≡ Some names → RunsTo c names lists events inputs → slice_get inputs cycle ≡ Some (Enters packet)
    → look_from c inputs cycle k place key ≡ look_in c (cells_at c inputs cycle).version (cells_at c inputs cycle) k place key

-- what a packet of a version sees of cells
abbrev pub seen_by : ℕ → RunCells → View
seen_by version cells = record {
  seed = cells.seed;
  content = λ k place n. if sees true version (cells.content k place n).head then cells.content k place n else no_content;
  number = cells.number;
}

-- entries after changes that have the number of one before are that one
abbrev pub KeepEntries : List (List Entry) → List (List Entry) → Type 0
KeepEntries before after = All (λ e. is_numbered_in (all_entries before) e ≡ true → Contains (all_entries before) e) (all_entries after)

-- names tell what a program asks of the entries of each table that lists an action
abbrev pub AreNamesOf : Program → Names → Type 0
AreNamesOf p names = (n : ℕ) (t : Table) → table_at p n ≡ Some t → 1 ≤ length t.actions → terms_named names n ≡ Some (terms_of p t)

-- A commit that moves no cell turns cells in which a packet of the current version sees just the entries before the commit into cells in which
-- a packet of the next version sees just those after it.
abbrev pub CommitsKeepEntries : Type 0
CommitsKeepEntries =
    (p : Program) (m : Map) (c : Config) (names : Names) (cells : RunCells) (before after : List (List Entry)) (next : RunCells) (seed : ℕ) (told : List CellOf)
    → IsWithinLimits c → AreNamesOf p names → UnitsCarried p m.places m.placement.parts m.starts c
    → AreEntries p before → AreEntries p after → KeepEntries before after
    → CellsCarried p c (seen_by cells.version cells) told before → Makes c names cells before after false seed next
    → (now : List CellOf) × CellsCarried p c (seen_by (cells.version + 1) next) now after

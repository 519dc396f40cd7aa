-- How far a run of the chip has come with packets and commits.
use Rattle.std.specs.Prelude.{◌≡◌, ◌<◌, ℕ, ◌-◌, List, [], ◌∷◌, ◌++◌, Bool, false, ◌||◌, nat_lt, Option, Some, None, map, replicate, option_map, unwrap_or}
use Rattle.rmt_bits.specs.Packet.{Packet}
use Rattle.rmt_ast.specs.declared.entry.Entry.{Entry}
use Rattle.rmt_ast.specs.declared.names.Names.{Names}
use Rattle.rmt_ast.specs.Changes.{Change, committed}
use Rattle.rmt_ast.specs.Events.{Arrives, Commits, Event}
use Rattle.rmt_config.specs.declared.config.Config.{Config}
use Rattle.rmt_config.specs.declared.cell_write.CellWrite.{CellWrite}
use Rattle.rmt_config.specs.Commits.{AreFilled, AreWrites, Makes, Placed, RunState, behind_commit, behind_packet, placed_after, waits}
use Rattle.rmt_config.specs.RunCells.{RunCells}
use Rattle.rmt_config.specs.RunInputs.{Enters, Idle, Input, Turns, Writes}
use Rattle.rmt_config.specs.NamesForm.{entries_spelled}
use Rattle.rmt_refine.specs.RunStates.{first_state}

-- the names of a configuration, none of any table where it has none, and the entries that it spells by them
abbrev pub names_in : Config → Names
names_in c = unwrap_or c.names (record { tables = [] })

abbrev pub lists_in : Config → List (List Entry)
lists_in c = unwrap_or (option_map (entries_spelled c) c.names) []

-- the cycles of a commit
abbrev pub commit_cycles : RunState → Bool → ℕ → List CellWrite → List Input
commit_cycles r moved seed writes = replicate (waits r moved) Idle ++ (map Writes writes ++ Turns seed ∷ [])

-- A run has come so far with these packets and commits by these inputs, and goes on from here: `RunsTo` without the cycles at its end.
pub data Comes (c : Config) (names : Names) (lists : List (List Entry)) : List Event → List Input → RunState → Type 0 where
  begins : Comes c names lists [] [] (first_state c lists)
  arrived : (events : List Event) (made : List Input) (r : RunState) (packet : Packet)
      → Comes c names lists events made r → Comes c names lists (events ++ Arrives packet ∷ []) (made ++ Enters packet ∷ []) (behind_packet c r)
  turned : (events : List Event) (made : List Input) (r : RunState) (changes : List Change) (moved : Bool) (seed : ℕ) (next : RunCells) (writes : List CellWrite)
      → Comes c names lists events made r
      → Makes c names r.cells r.entries.lists (committed r.entries changes).lists moved seed next → AreWrites c r.cells next writes
      → Comes c names lists (events ++ Commits changes ∷ []) (made ++ commit_cycles r moved seed writes) (behind_commit r changes moved seed writes next)

-- for how many cycles nothing enters at the end, until no packet is in flight
abbrev pub empty_cycles : RunState → ℕ
empty_cycles r = r.all_gone - r.cycle

-- a commit is refused: a cell must move, and under no seed from 0 to 7 all exact tables have a loading
pub record IsRefused (c : Config) (names : Names) (r : RunState) (changes : List Change) : Type 0 where
  pub moves : placed_after c names r.cells r.entries.lists (committed r.entries changes).lists ≡ None
  pub full : (seed : ℕ) (placed : List Placed) → seed < 8 → AreFilled c names seed (committed r.entries changes).lists placed → ⊥

-- ---- how long a commit waits

-- a commit waits for the oldest packet in flight: where cells move, for any, and else for one of an older version than the current one
abbrev pub is_waiting : Bool → ℕ → Option ℕ → Bool
is_waiting moved version None = false
is_waiting moved version (Some oldest) = moved || nat_lt oldest version

-- How long a commit delays the next packet.
use Rattle.std.specs.Prelude.{◌≡◌, ◌≤◌, ℕ, ◌+◌, List, [], ◌++◌, Bool, false, Some, length}
use Rattle.rmt_ast.specs.declared.entry.Entry.{Entry}
use Rattle.rmt_ast.specs.declared.names.Names.{Names}
use Rattle.rmt_ast.specs.Changes.{Change, at_first, committed}
use Rattle.rmt_ast.specs.EntryLists.{AreEntries}
use Rattle.rmt_ast.specs.WellFormed.{IsProgram}
use Rattle.rmt_config.specs.declared.cell_write.CellWrite.{CellWrite}
use Rattle.rmt_config.specs.Commits.{AreWrites, Makes, RunState, behind_commit, behind_packet, come}
use Rattle.rmt_config.specs.Form.{Formed}
use Rattle.rmt_config.specs.Limits.{IsWithinLimits}
use Rattle.rmt_config.specs.RunCells.{RunCells, own_cells}
use Rattle.rmt_refine.specs.Types.{Config, Program}
use Rattle.rmt_refine.specs.declared.map.Map.{Map}
use Rattle.rmt_refine.specs.Carries.{Carries}
use Rattle.rmt_refine.specs.Fit.{AreFitChanges}

-- the entries that a commit adds or removes
abbrev pub touched : List (List Entry) → List (List Entry) → List Entry
touched before after = come before after ++ come after before

-- how far a run of packets and commits may have come, with the entries that the last commit so far added or removed
pub data IsReached (p : Program) (c : Config) (names : Names) (lists : List (List Entry)) : List Entry → RunState → Type 0 where
  begins : IsReached p c names lists [] (record { cells = own_cells c; entries = at_first lists; cycle = 0; older_gone = 0; all_gone = 0 })
  arrived : (recent : List Entry) (r : RunState) → IsReached p c names lists recent r → IsReached p c names lists recent (behind_packet c r)
  turned : (recent : List Entry) (r : RunState) (changes : List Change) (moved : Bool) (seed : ℕ) (next : RunCells) (writes : List CellWrite)
      → IsReached p c names lists recent r → AreFitChanges p r.entries changes
      → Makes c names r.cells r.entries.lists (committed r.entries changes).lists moved seed next → AreWrites c r.cells next writes
      → IsReached p c names lists (touched r.entries.lists (committed r.entries changes).lists) (behind_commit r changes moved seed writes next)

-- A commit that moves no cell, and finds no packet of an older version than the current one in flight, delays the next packet by at most one
-- cycle more than the entries that it and the commit before it added or removed.
abbrev pub CommitsAreShort : Type 0
CommitsAreShort =
    (p : Program) (lists : List (List Entry)) (m : Map) (c : Config) (names : Names) (recent : List Entry) (r : RunState) (changes : List Change) (seed : ℕ) (next : RunCells) (writes : List CellWrite)
    → IsProgram p → AreEntries p lists → Carries p lists m c → Formed c → IsWithinLimits c → c.names ≡ Some names
    → IsReached p c names lists recent r → AreFitChanges p r.entries changes
    → Makes c names r.cells r.entries.lists (committed r.entries changes).lists false seed next → AreWrites c r.cells next writes → r.older_gone ≤ r.cycle
    → (behind_commit r changes false seed writes next).cycle ≤ r.cycle + 1 + length (touched r.entries.lists (committed r.entries changes).lists) + length recent

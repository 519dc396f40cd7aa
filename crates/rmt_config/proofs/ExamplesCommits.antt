-- Commits on small tables: which cells their entries take, and what the cells hold afterwards.
use Rattle.std.specs.Prelude.{◌≡◌, ℕ, List, [], ◌∷◌, Option, Some, None, count_by, map, option_map, slice_get, refl, false, true}
use Rattle.rmt_ast.specs.declared.entry.Entry.{Entry}
use Rattle.rmt_ast.specs.declared.names.Names.{Names}
use Rattle.rmt_ast.specs.declared.program.Kind.TheVariants as kind
use Rattle.rmt_ast.specs.RowOrder.{goes_first}
use Rattle.rmt_config.specs.Types.{Config}
use Rattle.rmt_config.specs.RunCells.{RunCells, own_cells, with_version}
use Rattle.rmt_config.specs.Rooms.{Room, rooms_for}
use Rattle.rmt_config.specs.Commits.{Placed, placed_after, settled, RunState, waits}
use Rattle.rmt_config.proofs.ExamplesNames.{its_names}
use Rattle.rmt_config.proofs.ExamplesRunCells.{strict_and_weak, seven_holds, ternary, ternary_names}

-- the cells of entries, by their numbers
abbrev told : Placed → ℕ × ℕ
told p = (p.entry.number, p.room.cell)

-- ---- an exact table

abbrev pub config : Config
config = strict_and_weak false

abbrev pub names : Names
names = its_names

-- `b KEY go PORT` of a number
abbrev pub entry : ℕ → ℕ → ℕ → Entry
entry number key port = record { table = 1; number = number; tests = record { value = key; mask = 255 } ∷ []; rank = 0; action = 0; args = port ∷ [] }

abbrev pub lists : List Entry → List (List Entry)
lists es = [] ∷ es ∷ [] ∷ []

-- 7 may stand in three cells of each way; the entry that comes takes the next one beside that which goes
pub replaced_placed : option_map (map told) (placed_after config names (own_cells config) (lists (entry 0 7 5 ∷ [])) (lists (entry 1 7 6 ∷ []))) ≡ Some ((1, 2377) ∷ [])
replaced_placed = refl

-- what the cells hold after a commit that finds these rooms
abbrev after : RunCells → List Entry → List Entry → RunCells
after cells before next = unwrap (placed_after config names cells (lists before) (lists next))
  where
    unwrap : Option (List Placed) → RunCells
    unwrap None = cells
    unwrap (Some placed) = with_version (settled config names cells (lists before) placed) 0

abbrev once : RunCells
once = after (own_cells config) (entry 0 7 5 ∷ []) (entry 1 7 6 ∷ [])

-- the old cell keeps the bit of even versions, and the new one has that of odd ones; no other changes
pub replaced_cells : (once.content 1 0 2376 ≡ seven_holds 3 5) × (once.number 1 0 2376 ≡ 0) × (once.content 1 0 2377 ≡ seven_holds 5 6) × (once.number 1 0 2377 ≡ 1)
    × (once.content 1 0 2378 ≡ record { head = 0; key = 0; mask = 255; held = 0 }) × (once.version ≡ 1)
replaced_cells = (refl, refl, refl, refl, refl, refl)

-- an entry that stays gets the other bit too
pub kept_cells : ((after (own_cells config) (entry 0 7 5 ∷ []) (entry 0 7 5 ∷ [])).content 1 0 2376 ≡ seven_holds 7 5)
    × ((after once (entry 1 7 6 ∷ []) (entry 1 7 6 ∷ [])).content 1 0 2377 ≡ seven_holds 7 6)
kept_cells = (refl, refl)

-- the next commit empties the cell that the one before gave up, and takes a bit from no other
abbrev twice : RunCells
twice = after once (entry 1 7 6 ∷ []) []

pub removed_cells : (twice.content 1 0 2376 ≡ record { head = 0; key = 0; mask = 255; held = 0 }) × (twice.number 1 0 2376 ≡ 0) × (twice.content 1 0 2377 ≡ seven_holds 5 6)
removed_cells = (refl, refl, refl)

-- or gives it to an entry that comes
pub taken_again : (option_map (map told) (placed_after config names once (lists (entry 1 7 6 ∷ [])) (lists (entry 2 7 9 ∷ []))) ≡ Some ((2, 2376) ∷ []))
    × ((after once (entry 1 7 6 ∷ []) (entry 2 7 9 ∷ [])).content 1 0 2376 ≡ seven_holds 3 9) × ((after once (entry 1 7 6 ∷ []) (entry 2 7 9 ∷ [])).content 1 0 2377 ≡ seven_holds 5 6)
taken_again = (refl, refl, refl)

-- ---- a ternary table

abbrev pub row : ℕ → ℕ → ℕ → ℕ → Entry
row number rank value mask = record { table = 0; number = number; tests = record { value = value; mask = mask } ∷ []; rank = rank; action = 0; args = 1 ∷ [] }

-- row 1 has priority 20, and row 2 priority 30
abbrev pub rows : List Entry
rows = row 0 20 0x10 0xf0 ∷ row 1 30 0 0 ∷ []

abbrev placed_rows : List Entry → List Entry → Option (List (ℕ × ℕ))
placed_rows before next = option_map (map told) (placed_after ternary ternary_names (own_cells ternary) (before ∷ []) (next ∷ []))

-- one of less priority number takes row 0, and one of a greater one row 3
pub rows_before_and_behind : (placed_rows rows (row 0 20 0x10 0xf0 ∷ row 1 30 0 0 ∷ row 2 10 7 255 ∷ []) ≡ Some ((0, 1) ∷ (1, 2) ∷ (2, 0) ∷ []))
    × (placed_rows rows (row 0 20 0x10 0xf0 ∷ row 1 30 0 0 ∷ row 2 30 7 255 ∷ []) ≡ Some ((0, 1) ∷ (1, 2) ∷ (2, 3) ∷ []))
rows_before_and_behind = (refl, refl)

-- between them is no free row, so a cell must move
pub no_row_between : placed_rows rows (row 0 20 0x10 0xf0 ∷ row 1 30 0 0 ∷ row 2 25 7 255 ∷ []) ≡ None
no_row_between = refl

-- where one of them goes at once, its row isn't free yet
pub row_not_free_yet : placed_rows rows (row 1 30 0 0 ∷ row 2 25 7 255 ∷ []) ≡ Some ((1, 2) ∷ (2, 0) ∷ [])
row_not_free_yet = refl

-- rows are filled without a gap, in order, where cells move
pub filled_rows : (option_map (λ (r : Room). r.cell) (slice_get (rooms_for ternary 0 0 0) (count_by (λ f. goes_first kind.Ternary f (row 2 25 7 255)) (row 0 20 0x10 0xf0 ∷ row 1 30 0 0 ∷ row 2 25 7 255 ∷ []))) ≡ Some 1)
    × (option_map (λ (r : Room). r.cell) (slice_get (rooms_for ternary 0 0 0) (count_by (λ f. goes_first kind.Ternary f (row 0 20 0x10 0xf0)) (row 0 20 0x10 0xf0 ∷ row 1 30 0 0 ∷ row 2 25 7 255 ∷ []))) ≡ Some 0)
filled_rows = (refl, refl)

-- prefixes stand by falling length, then number
pub prefix_order : (goes_first kind.Prefix (row 1 8 0 0) (row 0 0 0 0) ≡ true) × (goes_first kind.Prefix (row 0 8 0 0) (row 1 8 0 0) ≡ true) × (goes_first kind.Prefix (row 1 8 0 0) (row 0 8 0 0) ≡ false)
    × (goes_first kind.Exact (row 0 0 0 0) (row 1 0 0 0) ≡ false)
prefix_order = (refl, refl, refl, refl)

-- ---- waiting

-- the chip is clocked until the packets of older versions have left, and where cells move until all have
abbrev two_versions : RunState
two_versions = record { cells = once; entries = record { lists = lists (entry 1 7 6 ∷ []); next = 2 }; cycle = 5; older_gone = 25; all_gone = 29 }

pub waited : (waits two_versions false ≡ 20) × (waits two_versions true ≡ 24) × (waits (record two_versions { cycle = 40 }) true ≡ 0)
waited = (refl, refl, refl)

-- How a commit changes the cells of a run: which cells its entries take, what the cells hold afterwards, and the inputs by which they come to it.
use Rattle.std.specs.Prelude.{◌≡◌, ◌≢◌, ◌⊎◌, ◌<◌, ℕ, ◌+◌, ◌-◌, ◌%◌, ◌^◌, List, [], ◌∷◌, ◌++◌, Bool, true, false, not, ◌&&◌, ◌||◌, ◌==◌, if◌then◌else◌, Option, Some, None, length, nat_lt, All, AllPairs, Contains, IsSomeAnd, fold, find, filter, map, count_by, max, replicate, slice_get, option_map, option_and_then, unwrap_or}
use Rattle.std.specs.List.{filter_map, flat_map, list_all, list_any}
use Rattle.rmt_bits.specs.Packet.{Packet}
use Rattle.rmt_ast.specs.declared.entry.Entry.{Entry}
use Rattle.rmt_ast.specs.declared.names.Names.{Names}
use Rattle.rmt_ast.specs.declared.program.Kind.{Kind}
use Rattle.rmt_ast.specs.declared.program.Kind.TheVariants as kind
use Rattle.rmt_ast.specs.EntryLists.{Terms}
use Rattle.rmt_ast.specs.NameRules.{terms_named}
use Rattle.rmt_ast.specs.RowOrder.{goes_first}
use Rattle.rmt_ast.specs.Changes.{Change, Installed, at_first, committed, list_of}
use Rattle.rmt_ast.specs.Events.{Arrives, Commits, Event}
use Rattle.rmt_config.specs.Types.{Config, SlotUnit}
use Rattle.rmt_config.specs.Cells.{Content, cells_in, is_occupied, visible_bits}
use Rattle.rmt_config.specs.ChipRun.{latency_of}
use Rattle.rmt_config.specs.declared.cell_write.CellWrite.{CellWrite}
use Rattle.rmt_config.specs.RunCells.{RunCells, emptied, has_bit, no_content, own_cells, sees, slot_at, with_version, with_write}
use Rattle.rmt_config.specs.Rooms.{Room, content_in, entry_content, is_at, is_before, is_same, key_number, number_in, rooms_for}
use Rattle.rmt_config.specs.RunInputs.{Enters, Idle, Input, Turns, Writes}

-- ---- which cells entries have

-- an entry with its room
pub record Placed : Type 0 where
  pub entry : Entry
  pub room : Room

-- whether an entry has one of these numbers
abbrev pub is_numbered_in : List Entry → Entry → Bool
is_numbered_in es e = list_any (λ (o : Entry). o.number == e.number) es

-- the entries that stay and those that come, where the entries before a commit and after it are these: by node, those of a node by number
abbrev pub all_entries : List (List Entry) → List Entry
all_entries lists = flat_map (λ es. es) lists

abbrev pub stay : List (List Entry) → List (List Entry) → List Entry
stay before after = filter (is_numbered_in (all_entries before)) (all_entries after)

abbrev pub come : List (List Entry) → List (List Entry) → List Entry
come before after = filter (λ e. not (is_numbered_in (all_entries before) e)) (all_entries after)

-- the rooms that an entry may have under the current seed
abbrev pub rooms_of : Config → Terms → RunCells → Entry → List Room
rooms_of c t cells e = rooms_for c cells.seed e.table (key_number t e)

-- an entry with the room that it has by the current version
abbrev pub placed_now : Config → Names → RunCells → Entry → Option Placed
placed_now c names cells e =
    option_map (λ room. record { entry = e; room = room })
    (option_and_then (λ (t : Terms). find (λ room. sees true cells.version (content_in cells room).head && (number_in cells room == e.number)) (rooms_of c t cells e)) (terms_named names e.table))

-- a cell is free where its visible bit of the current version's parity is 0 and this commit hasn't given it
abbrev pub is_free : RunCells → List Placed → Room → Bool
is_free cells placed room = not (has_bit cells.version (content_in cells room).head) && not (list_any (λ (p : Placed). is_same p.room room) placed)

-- of the entries of a table that have a room by now, all that go before an entry stand before it, and all that go after it stand behind it
abbrev pub keeps_order : Kind → List Placed → Entry → Room → Bool
keeps_order k placed e room =
    list_all (λ (p : Placed). not (p.entry.table == e.table) || ((not (goes_first k p.entry e) || is_before p.room room) && (not (goes_first k e p.entry) || is_before room p.room))) placed

-- an entry that comes takes the first free room, over the parts in order, that keeps the order; where there is none, a cell must move
abbrev pub with_coming : Config → Names → RunCells → Option (List Placed) → Entry → Option (List Placed)
with_coming c names cells placed e =
    option_and_then (λ ps. option_map (λ room. ps ++ record { entry = e; room = room } ∷ [])
    (option_and_then (λ (t : Terms). find (λ room. is_free cells ps room && keeps_order t.kind ps e room) (rooms_of c t cells e)) (terms_named names e.table))) placed

-- the entries after a commit with their rooms, where no cell moves; None where one must
abbrev pub placed_after : Config → Names → RunCells → List (List Entry) → List (List Entry) → Option (List Placed)
placed_after c names cells before after =
    fold (with_coming c names cells) (Some (filter_map (placed_now c names cells) (stay before after))) (come before after)

-- ---- what the cells hold afterwards

-- a head with the visible bit of a version's parity
abbrev pub with_bit : ℕ → ℕ → ℕ
with_bit version head = if has_bit version head then head else head + 2 ^ (1 + version % 2)

abbrev pub without_bit : ℕ → ℕ → ℕ
without_bit version head = if has_bit version head then head - 2 ^ (1 + version % 2) else head

-- a cell of an entry that comes, seen by the next version alone
abbrev pub coming_content : Names → ℕ → Placed → Content
coming_content names version p = unwrap_or (option_map (λ t. entry_content t p.room.part (2 ^ (version % 2)) p.entry) (terms_named names p.entry.table)) (emptied p.room.part.slot)

-- a cell of an entry that stays
abbrev pub staying_content : ℕ → Content → Content
staying_content version content = record content { head = with_bit version content.head }

-- a cell of no entry of the next version: where it loses its last visible bit it is emptied
abbrev pub leaving_content : ℕ → SlotUnit → Content → Content
leaving_content version slot content =
    if visible_bits (without_bit version content.head) == 0 then emptied slot else record content { head = without_bit version content.head }

-- the placed entry at a cell
abbrev pub placed_at : List Placed → ℕ → ℕ → ℕ → Option Placed
placed_at placed k place n = find (λ (p : Placed). is_at k place n p.room) placed

-- what a cell holds after a commit that moves none, and the number of its entry
abbrev pub settled_content : Config → Names → RunCells → List (List Entry) → Option Placed → ℕ → ℕ → ℕ → Content
settled_content c names cells before (Some p) k place n =
    if is_numbered_in (all_entries before) p.entry then staying_content (cells.version + 1) (cells.content k place n) else coming_content names (cells.version + 1) p
settled_content c names cells before None k place n =
    if is_occupied (cells.content k place n).head
    then unwrap_or (option_map (λ slot. leaving_content (cells.version + 1) slot (cells.content k place n)) (slot_at c k place)) (cells.content k place n)
    else cells.content k place n

abbrev pub settled_number : RunCells → Option Placed → ℕ → ℕ → ℕ → ℕ
settled_number cells (Some p) k place n = p.entry.number
settled_number cells None k place n = if visible_bits (without_bit (cells.version + 1) (cells.content k place n).head) == 0 then 0 else cells.number k place n

-- the cells after a commit that moves none, still under the current version
abbrev pub settled : Config → Names → RunCells → List (List Entry) → List Placed → RunCells
settled c names cells before placed = record cells {
  content = λ k place n. settled_content c names cells before (placed_at placed k place n) k place n;
  number = λ k place n. settled_number cells (placed_at placed k place n) k place n;
}

-- ---- where cells must move

-- a room that an entry of a prefix or ternary table has where rows are filled without a gap, in order; an exact one has any candidate cell
abbrev pub IsFilled : Config → ℕ → Terms → Kind → List Entry → Entry → Room → Type 0
IsFilled c seed t kind.Keyless es e room = ⊥
IsFilled c seed t kind.Exact es e room = Contains (rooms_for c seed e.table (key_number t e)) room
IsFilled c seed t kind.Prefix es e room = slice_get (rooms_for c seed e.table (key_number t e)) (count_by (λ f. goes_first kind.Prefix f e) es) ≡ Some room
IsFilled c seed t kind.Ternary es e room = slice_get (rooms_for c seed e.table (key_number t e)) (count_by (λ f. goes_first kind.Ternary f e) es) ≡ Some room

-- entries with rooms under a seed, no room twice; a loading of the exact tables among them is any
pub record AreFilled (c : Config) (names : Names) (seed : ℕ) (lists : List (List Entry)) (placed : List Placed) : Type 0 where
  pub each : map (λ (p : Placed). p.entry) placed ≡ all_entries lists
  pub apart : AllPairs (λ (p q : Placed). is_same p.room q.room ≡ false) placed
  pub rooms : All (λ (p : Placed). IsSomeAnd (terms_named names p.entry.table) (λ t. IsFilled c seed t t.kind (list_of lists p.entry.table) p.entry p.room)) placed

-- the first of the seeds 0 to 7 under which there is such a loading
pub record IsFirstSeed (c : Config) (names : Names) (seed : ℕ) (lists : List (List Entry)) : Type 0 where
  pub in_range : seed < 8
  pub first : (s : ℕ) (placed : List Placed) → s < seed → AreFilled c names s lists placed → ⊥

-- the cells in which entries have these rooms, each with both visible bits, and all other cells are empty; still under the current version and seed
abbrev pub filled_content : Config → Names → Option Placed → ℕ → ℕ → Content
filled_content c names (Some p) k place = unwrap_or (option_map (λ t. entry_content t p.room.part 3 p.entry) (terms_named names p.entry.table)) (emptied p.room.part.slot)
filled_content c names None k place = unwrap_or (option_map emptied (slot_at c k place)) no_content

abbrev pub filled : Config → Names → RunCells → List Placed → RunCells
filled c names cells placed = record cells {
  content = λ k place n. filled_content c names (placed_at placed k place n) k place;
  number = λ k place n. unwrap_or (option_map (λ (p : Placed). p.entry.number) (placed_at placed k place n)) 0;
}

-- what a commit makes of cells: whether cells move, the seed of the next version, and the cells; None is told where an entry finds no room
pub data Makes (c : Config) (names : Names) (cells : RunCells) (before after : List (List Entry)) : Bool → ℕ → RunCells → Type 0 where
  stays : (placed : List Placed) → placed_after c names cells before after ≡ Some placed → Makes c names cells before after false cells.seed (settled c names cells before placed)
  moves : (seed : ℕ) (placed : List Placed) → placed_after c names cells before after ≡ None → IsFirstSeed c names seed after → AreFilled c names seed after placed
      → Makes c names cells before after true seed (filled c names cells placed)

-- ---- the cycles

-- a changed cell before another: by stage, place of the slot, and cell
abbrev pub writes_before : CellWrite → CellWrite → Bool
writes_before a b = nat_lt a.stage b.stage || (a.stage == b.stage && (nat_lt a.unit b.unit || (a.unit == b.unit && nat_lt a.cell b.cell)))

-- a cell of a slot
abbrev pub IsCell : Config → ℕ → ℕ → ℕ → Type 0
IsCell c k place n = IsSomeAnd (slot_at c k place) (λ slot. n < cells_in slot.memory)

-- the changed cells by which cells become others: each cell that changes, once, in order
pub record AreWrites (c : Config) (cells next : RunCells) (writes : List CellWrite) : Type 0 where
  pub in_order : AllPairs (λ a b. writes_before a b ≡ true) writes
  pub cells_are : All (λ (w : CellWrite). IsCell c w.stage w.unit w.cell) writes
  pub change : All (λ (w : CellWrite). (cells.content w.stage w.unit w.cell ≢ next.content w.stage w.unit w.cell) ⊎ (cells.number w.stage w.unit w.cell ≢ next.number w.stage w.unit w.cell)) writes
  pub content : (k place n : ℕ) → IsCell c k place n → (fold (with_write c) cells writes).content k place n ≡ next.content k place n
  pub number : (k place n : ℕ) → IsCell c k place n → (fold (with_write c) cells writes).number k place n ≡ next.number k place n

-- how far a run has come: its cells, the entries as the commits leave them, the next cycle, and the first cycles in which no packet of an older
-- version, and none at all, is in flight, if no further one enters
pub record RunState : Type 0 where
  pub cells : RunCells
  pub entries : Installed
  pub cycle : ℕ
  pub older_gone : ℕ
  pub all_gone : ℕ

-- a packet enters, and is in flight until the age at which it leaves
abbrev pub behind_packet : Config → RunState → RunState
behind_packet c r = record r { cycle = r.cycle + 1; all_gone = r.cycle + latency_of c.stages + 1 }

-- the cycles in which a commit waits: until no packet of an older version is in flight, and where cells move until none is
abbrev pub waits : RunState → Bool → ℕ
waits r moved = (if moved then max r.older_gone r.all_gone else r.older_gone) - r.cycle

-- behind the cycles of a commit: it waits, changes cells one a cycle, and makes the next version the current one
abbrev pub behind_commit : RunState → List Change → Bool → ℕ → List CellWrite → RunCells → RunState
behind_commit r changes moved seed writes next = record {
  cells = with_version next seed;
  entries = committed r.entries changes;
  cycle = r.cycle + waits r moved + length writes + 1;
  older_gone = r.all_gone;
  all_gone = r.all_gone;
}

-- the inputs of the cycles that a list of packets and commits may have: each packet has one, each commit its own, and then nothing enters until no packet
-- is in flight; the only choice is the loading where a commit moves cells
pub data RunsFrom (c : Config) (names : Names) : RunState → List Event → List Input → Type 0 where
  ends : (r : RunState) → RunsFrom c names r [] (replicate (r.all_gone - r.cycle) Idle)
  arrives : (r : RunState) (packet : Packet) (events : List Event) (inputs : List Input)
      → RunsFrom c names (behind_packet c r) events inputs → RunsFrom c names r (Arrives packet ∷ events) (Enters packet ∷ inputs)
  commits : (r : RunState) (changes : List Change) (events : List Event) (inputs : List Input) (moved : Bool) (seed : ℕ) (next : RunCells) (writes : List CellWrite)
      → Makes c names r.cells r.entries.lists (committed r.entries changes).lists moved seed next → AreWrites c r.cells next writes
      → RunsFrom c names (behind_commit r changes moved seed writes next) events inputs
      → RunsFrom c names r (Commits changes ∷ events) (replicate (waits r moved) Idle ++ map Writes writes ++ Turns seed ∷ inputs)

-- the inputs that a list may have from the configuration's own cells on, with the entries that they hold
abbrev pub RunsTo : Config → Names → List (List Entry) → List Event → List Input → Type 0
RunsTo c names lists events inputs = RunsFrom c names (record { cells = own_cells c; entries = at_first lists; cycle = 0; older_gone = 0; all_gone = 0 }) events inputs

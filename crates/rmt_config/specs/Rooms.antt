-- Where the entries of a table may stand, and what their cells hold.
use Rattle.std.specs.Prelude.{ℕ, ◌+◌, ◌*◌, ◌^◌, List, [], ◌∷◌, ◌++◌, Bool, ◌&&◌, ◌||◌, ◌==◌, nat_lt, if◌then◌else◌, map, sum, slice_index_or}
use Rattle.std.specs.List.{enumerate_from, flat_map}
use Rattle.rmt_ast.specs.declared.entry.Entry.{Entry}
use Rattle.rmt_ast.specs.declared.program.Test.{Test}
use Rattle.rmt_ast.specs.EntryLists.{Terms}
use Rattle.rmt_config.specs.Types.{Config, Stage, Unit, SlotUnit}
use Rattle.rmt_config.specs.declared.config.Unit.TheVariants.{Gate, Slot}
use Rattle.rmt_config.specs.LaneForm.{bits_of_lanes}
use Rattle.rmt_config.specs.Cells.{Content, candidates}
use Rattle.rmt_config.specs.RunCells.{RunCells}

-- a part of a table: its stage, the place of its slot in the stage, the number of its first instruction there, and the slot
pub record PartAt : Type 0 where
  pub stage : ℕ
  pub place : ℕ
  pub first : ℕ
  pub slot : SlotUnit

-- the parts of a node among units of stage k, of which the first has this place and this first instruction
abbrev pub parts_among : ℕ → ℕ → ℕ → ℕ → List Unit → List PartAt
parts_among node k place first [] = []
parts_among node k place first ((Gate g) ∷ units) = parts_among node k (place + 1) first units
parts_among node k place first ((Slot s) ∷ units) =
    (if s.node == node then record { stage = k; place = place; first = first; slot = s } ∷ [] else [])
    ++ parts_among node k (place + 1) (first + s.actions + 1) units

-- the parts of the table that a node applies, in the order of their stages
abbrev pub parts_of : Config → ℕ → List PartAt
parts_of c node = flat_map (λ (x : ℕ × Stage). parts_among node x.0 0 0 x.1.units) (enumerate_from 0 c.stages)

-- room for an entry: a cell of a part of its table
pub record Room : Type 0 where
  pub part : PartAt
  pub cell : ℕ

-- a room is the cell of that number in the slot at a place of a stage
abbrev pub is_at : ℕ → ℕ → ℕ → Room → Bool
is_at k place n r = (r.part.stage == k) && (r.part.place == place) && (r.cell == n)

abbrev pub is_same : Room → Room → Bool
is_same a b = is_at a.part.stage a.part.place a.cell b

-- a room of a table before another: in an earlier stage, or a smaller cell of the same one
abbrev pub is_before : Room → Room → Bool
is_before a b = nat_lt a.part.stage b.part.stage || (a.part.stage == b.part.stage && nat_lt a.cell b.cell)

-- the rooms of a key under a seed, over the parts in order: the candidate cells of exact parts, and all rows of ternary ones
abbrev pub rooms_for : Config → ℕ → ℕ → ℕ → List Room
rooms_for c seed node key =
    flat_map (λ (p : PartAt). map (λ n. record { part = p; cell = n }) (candidates seed (bits_of_lanes p.slot.keys) p.slot.memory key)) (parts_of c node)

-- ---- an entry in a cell

-- the mask of a test, or its value
abbrev pub mask_or_value : Bool → Test → ℕ
mask_or_value mask test = if mask then test.mask else test.value

-- values of these widths as one number, the first highest
abbrev pub side_by_side : List ℕ → List ℕ → ℕ
side_by_side [] vs = 0
side_by_side (w ∷ ws) [] = 0
side_by_side (w ∷ ws) (v ∷ vs) = v * 2 ^ sum ws + side_by_side ws vs

-- the numbers of an entry's tests as one, those of the first field highest
abbrev pub tests_as_one : (Test → ℕ) → List ℕ → List Test → ℕ
tests_as_one part widths tests = side_by_side widths (map part tests)

-- the key of an entry of a table
abbrev pub key_number : Terms → Entry → ℕ
key_number t e = tests_as_one (λ x. x.value) t.widths e.tests

-- arguments of these widths as one number, the first one lowest
abbrev pub args_as_one : List ℕ → List ℕ → ℕ
args_as_one [] args = 0
args_as_one (w ∷ ws) [] = 0
args_as_one (w ∷ ws) (a ∷ args) = a + 2 ^ w * args_as_one ws args

-- what a cell of a part holds of an entry with these visible bits
abbrev pub entry_content : Terms → PartAt → ℕ → Entry → Content
entry_content t p visible e = record {
  head = 1 + 2 * visible + 8 * (p.first + e.action);
  key = key_number t e;
  mask = tests_as_one (λ x. x.mask) t.widths e.tests;
  held = args_as_one (slice_index_or t.params e.action []) e.args;
}

-- what a room holds in the cells of a run, and the number of its entry
abbrev pub content_in : RunCells → Room → Content
content_in cells r = cells.content r.part.stage r.part.place r.cell

abbrev pub number_in : RunCells → Room → ℕ
number_in cells r = cells.number r.part.stage r.part.place r.cell

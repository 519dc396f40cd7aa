-- Where the entries of a table stand: in a cell of one of its parts.
use Rattle.std.specs.Prelude.{ℕ, ◌+◌, ◌-◌, ◌*◌, ◌^◌, List, [], ◌∷◌, ◌++◌, false, nat_lt, if◌then◌else◌, None, map, slice_index_or}
use Rattle.rmt_ast.specs.declared.entry.Entry.{Entry}
use Rattle.rmt_ast.specs.declared.program.Kind.{Kind}
use Rattle.rmt_ast.specs.declared.program.Kind.TheVariants.{Keyless, Exact, Prefix, Ternary}
use Rattle.rmt_config.specs.declared.config.Config.{Config}
use Rattle.rmt_config.specs.declared.config.Memory.TheVariants.{Without}
use Rattle.rmt_config.specs.Commits.{Placed}
use Rattle.rmt_config.specs.Rooms.{PartAt, Room, parts_of}
use Rattle.rmt_book.specs.declared.spots.Spot.{Spot}
use Rattle.rmt_book.specs.declared.table.PartCells.{PartCells}
use Rattle.rmt_book.specs.PartShape.{cell_count}

-- the spot of a cell by its number over all parts, of which the first has this place
abbrev pub spot_from : ℕ → List PartCells → ℕ → Spot
spot_from at [] n = record { part = at; cell = n }
spot_from at (x ∷ xs) n = if nat_lt n (cell_count x.shape.grid) then record { part = at; cell = n } else spot_from (at + 1) xs (n - cell_count x.shape.grid)

-- the spots of cells by their numbers over all parts of a table
abbrev pub spots_at : List PartCells → List ℕ → List Spot
spots_at parts numbers = map (spot_from 0 parts) numbers

-- what entries of a kind are put into rows by: the falling length of a prefix, or the rising priority
abbrev pub rank_by : Kind → ℕ → ℕ
rank_by Keyless rank = rank
rank_by Exact rank = rank
rank_by Prefix rank = 2 ^ 32 - 1 - rank
rank_by Ternary rank = rank

-- and then by entry number
abbrev pub order_by : Kind → Entry → ℕ
order_by k e = rank_by k e.rank * 2 ^ 32 + e.number

-- ---- the rooms of spots

-- no part
abbrev pub no_part : PartAt
no_part = record {
  stage = 0;
  place = 0;
  first = 0;
  slot = record { node = 0; guard = None; counted = false; actions = 0; last = false; held = 0; keys = []; memory = Without; numbers = [] };
}

-- the room of a spot
abbrev pub room_at : List PartAt → Spot → Room
room_at ps s = record { part = slice_index_or ps s.part no_part; cell = s.cell }

-- the entries of a table with the rooms of their spots
abbrev pub placed_in : List PartAt → List Entry → List Spot → List Placed
placed_in ps [] ss = []
placed_in ps (e ∷ es) [] = []
placed_in ps (e ∷ es) (s ∷ ss) = record { entry = e; room = room_at ps s } ∷ placed_in ps es ss

-- those of all nodes, of which the first has this number
abbrev pub placed_from : Config → ℕ → List (List Entry) → List (List Spot) → List Placed
placed_from c node [] spots = []
placed_from c node (es ∷ lists) [] = []
placed_from c node (es ∷ lists) (ss ∷ spots) = placed_in (parts_of c node) es ss ++ placed_from c (node + 1) lists spots

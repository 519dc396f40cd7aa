-- The cells that the look-ups of a packet see. A configuration has cells of its own; where entries change in flight, packets see others.
use Rattle.std.specs.Prelude.{ℕ, Option, find, option_map, option_and_then, slice_get, unwrap_or}
use Rattle.rmt_refine.specs.Types.{Config, Stage, SlotUnit}
use Rattle.rmt_config.specs.LaneForm.{bits_of_lanes}
use Rattle.rmt_config.specs.Cells.{Content, Found, candidates, code_of, content_of, has_key, number_of_cell}
use Rattle.rmt_config.specs.Life.{Look}
pub use Rattle.rmt_config.specs.RunCells.{as_slot, no_content, slot_at}
pub use Rattle.rmt_pack.specs.Slots.{slot_of}

-- a seed, and of each cell, by stage, place of the slot in the stage and number in the slot, what it holds and the number of its entry
pub record View : Type 0 where
  pub seed : ℕ
  pub content : ℕ → ℕ → ℕ → Content
  pub number : ℕ → ℕ → ℕ → ℕ

-- what a cell of a configuration holds
abbrev pub own_content : Config → ℕ → ℕ → ℕ → Content
own_content c k place n =
    unwrap_or (option_and_then (λ (stage : Stage). option_map (λ (slot : SlotUnit). content_of stage slot n) (slot_of stage place)) (slice_get c.stages k)) no_content

abbrev pub own_number : Config → ℕ → ℕ → ℕ → ℕ
own_number c k place n = unwrap_or (option_map (λ (slot : SlotUnit). number_of_cell slot.numbers n) (slot_at c k place)) 0

-- a configuration's own cells under its own seed
abbrev pub own_view : Config → View
own_view c = record { seed = c.seed; content = own_content c; number = own_number c }

-- what a look-up finds in a cell
abbrev pub found_at : View → ℕ → ℕ → ℕ → Found
found_at v k place n = record { code = code_of (v.content k place n).head; held = (v.content k place n).held; number = v.number k place n }

-- what a key finds in a slot: the cell of least number among its candidates that has it
abbrev pub found_in_slot : View → ℕ → ℕ → ℕ → SlotUnit → Option Found
found_in_slot v k place key slot =
    option_map (found_at v k place) (find (λ n. has_key key (v.content k place n)) (candidates v.seed (bits_of_lanes slot.keys) slot.memory key))

-- the look-ups in the slots of a configuration, made in a view
abbrev pub look_in : Config → View → Look
look_in c v k place key = option_and_then (found_in_slot v k place key) (slot_at c k place)

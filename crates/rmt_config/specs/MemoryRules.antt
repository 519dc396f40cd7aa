-- What the rules of form say of the rows of a stage and of the numbers of a memory, fact by fact.
use Rattle.std.specs.Prelude.{◌≡◌, ℕ, ◌+◌, ◌*◌, ◌^◌, ◌<◌, ◌≤◌, List, length, map, true, All, IsTrue}
use Rattle.std.specs.List.{list_all}
use Rattle.rmt_config.specs.CellForm.{StageHolds}
use Rattle.rmt_config.specs.Form.{visible_with}
use Rattle.rmt_config.specs.StageForm.{rows_are_formed}
use Rattle.rmt_config.specs.TableForm.{tables_are_formed}
use Rattle.rmt_config.specs.Types.{Config, Stage, SramRow, TcamRow, SlotUnit}
use Rattle.rmt_config.specs.LaneForm.{bits_of_lanes}
use Rattle.rmt_config.specs.Order.{rises_from}
use Rattle.rmt_config.specs.BlockCounts.{divided_up, record_width, record_units}
use Rattle.rmt_config.specs.StageForm.{srow_number, trow_number}

-- rows, tables and memory keep the rules of the whole
pub record MemoryIsFormed (c : Config) : Type 0 where
  pub rows : IsTrue (list_all rows_are_formed c.stages)
  pub tables : IsTrue (tables_are_formed c)
  pub memory : All (StageHolds (visible_with c.names)) c.stages

-- rows of SRAM in rising order, each within its block
pub record SramRows (rows : List SramRow) : Type 0 where
  pub rise : rises_from 0 (map srow_number rows) ≡ true
  pub low : All (λ (r : SramRow). r.row < 1024) rows
  pub small : All (λ (r : SramRow). r.bits < 2 ^ 112) rows

-- the rows of a stage that keeps the rules
pub record FormedRows (stage : Stage) : Type 0 where
  pub srise : rises_from 0 (map srow_number stage.srows) ≡ true
  pub slow : All (λ (r : SramRow). r.row < 1024) stage.srows
  pub sbits : All (λ (r : SramRow). r.bits < 2 ^ 112) stage.srows
  pub trise : rises_from 0 (map trow_number stage.trows) ≡ true
  pub tlow : All (λ (r : TcamRow). r.row < 2048) stage.trows
  pub tbits : All (λ (r : TcamRow). r.mask < 2 ^ 40) stage.trows
  pub tsome : All (λ (r : TcamRow). r.mask ≡ 0 → ⊥) stage.trows

-- the numbers of an exact part that keeps the rules
pub record ExactFits (s : SlotUnit) (k p d : ℕ) (ks rs : List ℕ) : Type 0 where
  pub some_k : 0 < k
  pub most_k : k < 256
  pub some_p : 0 < p
  pub most_p : p < 65536
  pub some_d : 0 < d
  pub most_d : d ≤ 106
  pub most_bits : bits_of_lanes s.keys ≤ 640
  pub fits : p * (bits_of_lanes s.keys + 8) ≤ 112 * k
  pub most_held : s.held < 65536
  pub keys : length ks ≡ d * (4 * k)
  pub records : length rs ≡ d * (record_units (4 * p) s.held * record_width s.held)

-- the numbers of a ternary part that keeps the rules
pub record TernaryFits (s : SlotUnit) (d : ℕ) (ks rs : List ℕ) : Type 0 where
  pub some_d : 0 < d
  pub most_d : d ≤ 106
  pub some_bits : 0 < bits_of_lanes s.keys
  pub most_bits : bits_of_lanes s.keys ≤ 640
  pub most_held : s.held < 65536
  pub keys : length ks ≡ d * divided_up (bits_of_lanes s.keys) 40
  pub records : length rs ≡ d * (record_units 2 (s.held + 8) * record_width (s.held + 8))

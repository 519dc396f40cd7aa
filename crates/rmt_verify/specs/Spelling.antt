-- The spelling of a map: its bytes. Numbers stand highest byte first, and a list behind its count.
use Rattle.std.specs.Prelude.{◌≡◌, ℕ, ◌<◌, ◌^◌, List, ◌∷◌, ◌++◌, length, All, true, codes}
use Rattle.rmt_config.specs.Spelling.{two_bytes, four_bytes, spelled_list8, spelled_list16, spelled_list32, spelled_lane}
use Rattle.rmt_config.specs.LaneForm.{lane_is_formed}
use Rattle.rmt_verify.specs.Types.{Lane, Part, Join, CellOf, MapFile}

-- ---- the bytes

-- the lanes of a field
abbrev pub spelled_lanes : List Lane → List ℕ
spelled_lanes lanes = spelled_list8 spelled_lane lanes

abbrev pub spelled_join : Join → List ℕ
spelled_join j = j.state ∷ two_bytes j.entry

abbrev pub spelled_part : Part → List ℕ
spelled_part p = p.node ∷ p.stage ∷ two_bytes p.quanta

abbrev pub spelled_cell : CellOf → List ℕ
spelled_cell c = four_bytes c.entry ++ c.stage ∷ four_bytes c.cell

-- what stands behind the version: the lanes of the fields, the joins, the parts, the starts and the cells
abbrev pub spelled_lists : MapFile → List ℕ
spelled_lists m =
    spelled_list32 spelled_lanes m.map.places
    ++ spelled_list16 spelled_join m.joins
    ++ spelled_list16 spelled_part m.map.placement.parts
    ++ spelled_list8 two_bytes m.map.starts
    ++ spelled_list32 spelled_cell m.map.cells

-- the whole: the four letters, the version 1 and the lists
abbrev pub spelled_map : MapFile → List ℕ
spelled_map m = codes "RMTM" ++ two_bytes 1 ++ spelled_lists m

-- ---- what has a spelling

-- fewer than 256 lanes, each of 1 to 32 bits of a word that there is
pub record AreLanes (lanes : List Lane) : Type 0 where
  pub few : length lanes < 2 ^ 8
  pub each : All (λ (l : Lane). lane_is_formed l ≡ true) lanes

pub record JoinFits (j : Join) : Type 0 where
  pub state : j.state < 2 ^ 8
  pub entry : j.entry < 2 ^ 16

pub record PartFits (p : Part) : Type 0 where
  pub node : p.node < 2 ^ 8
  pub stage : p.stage < 2 ^ 8
  pub quanta : p.quanta < 2 ^ 16

pub record CellFits (c : CellOf) : Type 0 where
  pub entry : c.entry < 2 ^ 32
  pub stage : c.stage < 2 ^ 8
  pub cell : c.cell < 2 ^ 32

-- each count and each number fits its place, and each lane keeps a lane's rule
pub record MapFits (m : MapFile) : Type 0 where
  pub fields : length m.map.places < 2 ^ 32
  pub each_field : All AreLanes m.map.places
  pub joins : length m.joins < 2 ^ 16
  pub each_join : All JoinFits m.joins
  pub parts : length m.map.placement.parts < 2 ^ 16
  pub each_part : All PartFits m.map.placement.parts
  pub starts : length m.map.starts < 2 ^ 8
  pub each_start : All (λ (start : ℕ). start < 2 ^ 16) m.map.starts
  pub cells : length m.map.cells < 2 ^ 32
  pub each_cell : All CellFits m.map.cells

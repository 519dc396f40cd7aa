-- The sights of cells: sight 0 shows each occupied cell, sight 1 those of them with the visible bit of even versions, and sight 2 those with that of odd ones.
use Rattle.std.specs.Prelude.{ℕ, ◌+◌, ◌/◌, ◌%◌, ◌^◌, Bool, ◌&&◌, ◌==◌, if◌then◌else◌}
use Rattle.rmt_config.specs.Cells.{is_occupied}

-- a sight shows a cell with this head
abbrev pub seen_by : ℕ → ℕ → Bool
seen_by sight head = is_occupied head && (head / 2 ^ sight % 2 == 1)

-- the sight of a packet of a version; without names there is but one
abbrev pub sight_of : Bool → ℕ → ℕ
sight_of named version = if named then 1 + version % 2 else 0

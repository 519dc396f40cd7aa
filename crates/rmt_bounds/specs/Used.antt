-- How many stages a placement uses.
use Rattle.std.specs.Prelude.{ℕ, Bool, ◌&&◌, nat_lt, filter, length}
use Rattle.rmt_ast.specs.declared.program.Program.{Program}
use Rattle.rmt_pack.specs.declared.placement.Part.{Part}
use Rattle.rmt_pack.specs.declared.placement.Placement.{Placement}
use Rattle.rmt_pack.specs.Placements.{stage_count}

-- a part that takes room: it is of a node of the program, and has a quantum
abbrev pub takes_room : Program → Part → Bool
takes_room p x = nat_lt x.node (length p.nodes) && nat_lt 0 x.quanta

-- a placement without the parts that take none
abbrev pub taking_room : Program → Placement → Placement
taking_room p placement = record { parts = filter (takes_room p) placement.parts }

-- The stages that a placement of a program uses: a part that takes no room counts for none.
abbrev pub stages_used : Program → Placement → ℕ
stages_used p placement = stage_count (taking_room p placement)

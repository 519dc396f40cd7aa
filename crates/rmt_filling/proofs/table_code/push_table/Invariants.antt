use Rattle.std.proofs.Common.{◌≡◌, ◌++◌, List, take, true, false}
use Rattle.std.specs.Prelude.{All}
use Rattle.rmt_config.specs.CodeForm.{vliw_is_formed}
use Rattle.rmt_pack.specs.Placements.{data_bits}
use Rattle.rmt_filling.specs.Types.{Vliw}
use Rattle.rmt_filling.specs.TableCode.{DoActions}
use Rattle.rmt_filling.proofs.table_code.push_table.Given as goal

-- behind the code as it was stand the instructions of the actions so far
abbrev pub invariant-loop-action : goal.invariant-loop-action
invariant-loop-action l = (own : List Vliw) × (l.code ≡ l.initial.code ++ own) × DoActions l.program l.plan.places (take l.action-index l.table.actions) own
    × All (λ (v : Vliw). vliw_is_formed (record { held = data_bits l.program l.table; is_default = false }) v ≡ true) own

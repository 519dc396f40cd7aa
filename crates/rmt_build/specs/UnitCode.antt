-- The instructions of units, one unit after another.
use Rattle.std.specs.Prelude.{◌≡◌, List, [], ◌∷◌, ◌++◌, IsSomeAnd, length}
use Rattle.rmt_bits.specs.declared.lane.Lane.{Lane}
use Rattle.rmt_build.specs.Types.{Program, Table, Unit, Vliw}
use Rattle.rmt_config.specs.declared.config.Unit.TheVariants.{Gate, Slot}
use Rattle.rmt_filling.specs.TableCode.{DoTable}
use Rattle.rmt_refine.specs.Units.{table_at}

-- those of a unit; a gate has none
abbrev pub DoUnit : Program → List (List Lane) → Unit → List Vliw → Type 0
DoUnit p places (Gate g) code = code ≡ []
DoUnit p places (Slot s) code = IsSomeAnd (table_at p s.node) (λ (t : Table). (s.actions ≡ length t.actions) × DoTable p places t code)

-- those of units, one unit after another
abbrev pub DoUnits : Program → List (List Lane) → List Unit → List Vliw → Type 0
DoUnits p places [] code = code ≡ []
DoUnits p places (u ∷ units) code = (own : List Vliw) × (rest : List Vliw) × (code ≡ own ++ rest) × DoUnit p places u own × DoUnits p places units rest

use Rattle.std.proofs.Common.{◌≡◌, ℕ, ◌*◌, ◌<◌, ◌≤◌, Some}
use Rattle.std.specs.Prelude.{slice_get}
use Rattle.rmt_config.specs.Instructions.{first_code}
use Rattle.rmt_refine.specs.Types.{Unit}
use Rattle.rmt_verify.specs.StageCode.{UnitCoded}
use Rattle.rmt_verify.proofs.instructions.tables.stage_code_holds.Given as goal

-- the units so far
abbrev pub invariant-loop-unit : goal.invariant-loop-unit
invariant-loop-unit l = record {
  few : l.first ≤ 256 * l.unit-index;
  first_is : l.first ≡ first_code l.stage l.unit-index;
  so_far : (place : ℕ) (u : Unit) → place < l.unit-index → slice_get l.stage.units place ≡ Some u → UnitCoded l.coding.program.now l.coding.places.now l.stage (first_code l.stage place) u;
}

-- Where the instructions of a unit stand.
use Rattle.std.proofs.Common.{◌≡◌, ℕ, ◌+◌, Some, ap, ◌∙◌, take, get_or}
use Rattle.std.specs.Prelude.{slice_get}
use Rattle.std.specs.List.{sum_by}
use Rattle.std.proofs.lemmas.List.{take_more}
use Rattle.std.proofs.lemmas.List.Sums.{sum_by_push}
use Rattle.std.proofs.lemmas.Option.{get_or_from_slice_get, slice_get_within}
use Rattle.rmt_config.specs.Types.{Stage, Unit}
use Rattle.rmt_config.specs.Instructions.{first_code, unit_instructions}

-- the next unit's first instruction stands behind those of this one
pub first_code_next : (stage : Stage) (i : ℕ) (u : Unit) → slice_get stage.units i ≡ Some u → first_code stage (i + 1) ≡ first_code stage i + unit_instructions u
first_code_next stage i u e =
    ap (sum_by unit_instructions) (take_more stage.units i u (slice_get_within stage.units i u e))
    ∙ sum_by_push unit_instructions (take i stage.units) (get_or stage.units i u)
    ∙ ap (λ (x : Unit). first_code stage i + unit_instructions x) (get_or_from_slice_get stage.units i u u e)

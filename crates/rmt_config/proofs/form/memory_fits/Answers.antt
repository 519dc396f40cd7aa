use Rattle.std.proofs.Common.{sym, subst}
use Rattle.std.specs.Prelude.{IsTrue}
use Rattle.std.specs.List.{list_all}
use Rattle.rmt_config.specs.StageForm.{stage_is_formed}
use Rattle.rmt_config.proofs.CountsLemmas.{stages_of_items}
use Rattle.rmt_config.proofs.form.memory_fits.Goals as goal

pub memories_hold-requires-clause-formed : goal.memories_hold-requires-clause-formed
memories_hold-requires-clause-formed c =
    subst (λ stages. IsTrue (list_all stage_is_formed stages)) (sym c.as_slice-stages.ensures) (stages_of_items c.args.config.now c.requires)

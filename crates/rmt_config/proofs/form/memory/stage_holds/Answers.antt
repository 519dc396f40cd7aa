use Rattle.rmt_config.proofs.SlotLaws.{formed-rows}
use Rattle.rmt_config.proofs.form.memory.stage_holds.Goals as goal

pub slots_hold-requires-clause-rows : goal.slots_hold-requires-clause-rows
slots_hold-requires-clause-rows c = formed-rows c.args.stage.now c.requires.formed c.requires.rows

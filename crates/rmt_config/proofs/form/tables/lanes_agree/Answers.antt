use Rattle.rmt_config.proofs.TableLaws.{lane_lengths}
use Rattle.rmt_config.proofs.form.tables.lanes_agree.Goals as goal

pub returns-then-a-b : goal.returns-then-a-b
returns-then-a-b c = lane_lengths c.args.a.now c.args.b.now c.if-a-b.true

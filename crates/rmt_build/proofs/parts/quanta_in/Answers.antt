use Rattle.std.proofs.Common.{◌∙◌, arith}
use Rattle.rmt_build.proofs.PartLaws.{quanta_found}
use Rattle.rmt_build.proofs.parts.quanta_in.Goals as goal

pub returns-then-part-stage : goal.returns-then-part-stage
returns-then-part-stage c =
    quanta_found c.args.parts.now c.loop-part.part-index _ c.args.node c.args.stage (omega arith) c.requires c.if-part-node.true c.if-part-stage.true ∙ c.loop-part.invariant

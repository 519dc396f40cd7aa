use Rattle.std.proofs.Common.{rules}
use Rattle.rmt_core.proofs.NoFitLaws.{never_built, told_alike}
use Rattle.rmt_core.proofs.placing.build_by_tries.Goals as goal

pub returns-in-Ok-None-clause-built : goal.returns-in-Ok-None-clause-built
returns-in-Ok-None-clause-built c =
    never_built c.args.budget c.args.program.now c.args.entries.now (c.best_placement.ensures.none (search rules)) c.build_by_rule.result c.build_by_rule.ensures.built

pub returns-in-Ok-None-clause-refused : goal.returns-in-Ok-None-clause-refused
returns-in-Ok-None-clause-refused c =
    told_alike c.args.budget c.args.program.now c.args.entries.now (c.best_placement.ensures.none (search rules)) c.build_by_rule.result c.build_by_rule.ensures.refused

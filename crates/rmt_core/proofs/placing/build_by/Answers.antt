use Rattle.std.proofs.Common.{◌≢◌, subst, sym}
use Rattle.std.specs.Prelude.{IfErr}
use Rattle.rmt_build.specs.declared.fault.NoFit.TheVariants as no_fit
use Rattle.rmt_core.specs.declared.placer.Placer.{Placer}
use Rattle.rmt_core.specs.Making.{TellsWhy}
use Rattle.rmt_core.specs.NoFitText.{no_fit_line}
use Rattle.rmt_core.proofs.placing.build_by.Goals as goal

pub returns-in-ByRule-clause-refused : goal.returns-in-ByRule-clause-refused
returns-in-ByRule-clause-refused c =
    let p = c.args.program.now in
    subst (λ (placer : Placer). IfErr c.build_by_rule.result (λ fault. fault ≢ no_fit.NoMemory → TellsWhy placer p c.args.entries.now (no_fit_line p fault)))
    (sym c.in-ByRule.is) c.build_by_rule.ensures.refused

pub returns-in-ByTries-clause-refused : goal.returns-in-ByTries-clause-refused
returns-in-ByTries-clause-refused c =
    let p = c.args.program.now in
    subst (λ (placer : Placer). IfErr c.build_by_tries.result (λ fault. fault ≢ no_fit.NoMemory → TellsWhy placer p c.args.entries.now (no_fit_line p fault)))
    (sym c.in-ByTries.is) c.build_by_tries.ensures.refused

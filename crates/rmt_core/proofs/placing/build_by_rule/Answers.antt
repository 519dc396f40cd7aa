use Rattle.std.proofs.Common.{◌≡◌, Err}
use Rattle.rmt_build.specs.declared.fault.NoFit.{NoFit}
use Rattle.rmt_build.specs.declared.fault.NoFit.TheVariants as no_fit
use Rattle.rmt_build.specs.Refusals.{first_refusal}
use Rattle.rmt_core.specs.declared.placer.Placer.TheVariants.{ByRule}
use Rattle.rmt_core.proofs.ImageSize.{can_be_named}
use Rattle.rmt_core.proofs.MakeLaws.{is_built, not_refused}
use Rattle.rmt_core.proofs.NoFitLaws.{HasCause, tells_refusal}
use Rattle.rmt_core.proofs.placing.build_by_rule.Goals as goal
use Rattle.rmt_core.proofs.placing.build_by_rule.Goals.{After-build}

pub build-requires-clause-named : goal.build-requires-clause-named
build-requires-clause-named c =
    let said = c.requires.said in
    can_be_named c.args.program.now c.args.entries.now c.requires.program said (c.one_meaning.ensures.named said.text c.args.program.now said.means)

pub returns-clause-built : goal.returns-clause-built
returns-clause-built c =
    let p = c.args.program.now in
    let b = c.build.ensures in
    is_built ByRule p c.args.entries.now c.build.result c.requires.program c.requires.entries c.requires.said c.one_meaning.ensures.short c.packet_lists.ensures
    (not_refused (first_refusal p) c.build.result b.refused) b.carries b.config b.rules b.placement b.layout b.bounded

cause : (c : After-build) (fault : NoFit) → c.build.result ≡ Err fault → HasCause ByRule c.args.program.now c.args.entries.now fault
cause c no_fit.NoMemory e = tt
cause c (no_fit.Lookup header bytes) e = c.build.ensures.lookup header bytes e
cause c (no_fit.Step header extracts) e = c.build.ensures.step header extracts e
cause c (no_fit.Parser many) e = c.build.ensures.full many e
cause c (no_fit.Action number field) e = c.build.ensures.action number field e
cause c (no_fit.Phv field class) e = c.build.ensures.phv field class e
cause c (no_fit.Stage node hits) e = c.build.ensures.stage node hits e
cause c (no_fit.Load node members cells) e = λ parts placed. c.build.ensures.load node members cells placed.places parts e placed.packed placed.placed

pub returns-clause-refused : goal.returns-clause-refused
returns-clause-refused c =
    let here = (goal.at.returns-clause-refused c).After-build in
    tells_refusal ByRule c.args.program.now c.args.entries.now c.build.result c.build.ensures.refused (cause here)

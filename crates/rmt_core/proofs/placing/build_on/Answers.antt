use Rattle.std.proofs.Common.{◌≡◌, ◌≢◌, Err, Some}
use Rattle.rmt_build.specs.declared.fault.NoFit.{NoFit}
use Rattle.rmt_build.specs.declared.fault.NoFit.TheVariants as no_fit
use Rattle.rmt_core.specs.declared.placer.Placer.TheVariants.{ByTries}
use Rattle.rmt_core.specs.Placers.{refusal_by}
use Rattle.rmt_core.proofs.ImageSize.{can_be_named}
use Rattle.rmt_core.proofs.MakeLaws.{is_built, not_refused}
use Rattle.rmt_core.proofs.NoFitLaws.{HasCause, tells_refusal}
use Rattle.rmt_core.proofs.PlacerLaws.{first_refused, kept, loaded_so, placed_so, refused_first}
use Rattle.rmt_core.proofs.placing.build_on.Goals as goal
use Rattle.rmt_core.proofs.placing.build_on.Goals.{After-build_from}

pub build_from-requires-clause-named : goal.build_from-requires-clause-named
build_from-requires-clause-named c =
    let said = c.requires.said in
    can_be_named c.args.program.now c.args.entries.now c.requires.program said (c.one_meaning.ensures.named said.text c.args.program.now said.means)

pub build_from-requires-clause-keeps : goal.build_from-requires-clause-keeps
build_from-requires-clause-keeps c places packed = (kept c.args.budget c.args.program.now c.args.placement.now.parts c.requires.program c.requires.placed places packed).edges

pub build_from-requires-clause-limits : goal.build_from-requires-clause-limits
build_from-requires-clause-limits c places packed stage less =
    (kept c.args.budget c.args.program.now c.args.placement.now.parts c.requires.program c.requires.placed places packed).limits stage

pub build_from-requires-clause-parts : goal.build_from-requires-clause-parts
build_from-requires-clause-parts c =
    (kept c.args.budget c.args.program.now c.args.placement.now.parts c.requires.program c.requires.placed c.requires.placed.places c.requires.placed.packed).parts

pub build_from-requires-clause-apart : goal.build_from-requires-clause-apart
build_from-requires-clause-apart c =
    (kept c.args.budget c.args.program.now c.args.placement.now.parts c.requires.program c.requires.placed c.requires.placed.places c.requires.placed.packed).apart

pub build_from-requires-clause-quanta : goal.build_from-requires-clause-quanta
build_from-requires-clause-quanta c places packed = (kept c.args.budget c.args.program.now c.args.placement.now.parts c.requires.program c.requires.placed places packed).quanta

-- what is refused by the tries is refused here
refused : (c : After-build_from) (fault : NoFit) → refusal_by (ByTries c.args.budget) c.args.program.now ≡ Some fault → c.build_from.result ≢ Err no_fit.NoMemory → c.build_from.result ≡ Err fault
refused c fault e other =
    let first = refused_first (ByTries c.args.budget) c.args.program.now c.args.placement.now.parts c.requires.placed fault e in
    c.build_from.ensures.refused fault first.0 first.1 other

-- and the other way round
cause : (c : After-build_from) (fault : NoFit) → c.build_from.result ≡ Err fault → HasCause (ByTries c.args.budget) c.args.program.now c.args.entries.now fault
cause c no_fit.NoMemory e = tt
cause c (no_fit.Lookup header bytes) e = first_refused (ByTries c.args.budget) c.args.program.now c.args.placement.now.parts c.requires.placed (no_fit.Lookup header bytes) tt (c.build_from.ensures.lookup header bytes e)
cause c (no_fit.Step header extracts) e = first_refused (ByTries c.args.budget) c.args.program.now c.args.placement.now.parts c.requires.placed (no_fit.Step header extracts) tt (c.build_from.ensures.step header extracts e)
cause c (no_fit.Parser many) e = first_refused (ByTries c.args.budget) c.args.program.now c.args.placement.now.parts c.requires.placed (no_fit.Parser many) tt (c.build_from.ensures.full many e)
cause c (no_fit.Action number field) e = first_refused (ByTries c.args.budget) c.args.program.now c.args.placement.now.parts c.requires.placed (no_fit.Action number field) tt (c.build_from.ensures.action number field e)
cause c (no_fit.Phv field class) e = first_refused (ByTries c.args.budget) c.args.program.now c.args.placement.now.parts c.requires.placed (no_fit.Phv field class) tt (c.build_from.ensures.phv field class e)
cause c (no_fit.Stage node hits) e = absurd (c.build_from.ensures.no_stage node hits e)
cause c (no_fit.Load node members cells) e = λ parts placed.
    loaded_so (ByTries c.args.budget) c.args.program.now c.args.entries.now c.args.placement.now.parts parts node members cells c.requires.placed placed
    (c.build_from.ensures.load node members cells e)

pub returns-clause-built : goal.returns-clause-built
returns-clause-built c =
    let here = (goal.at.returns-clause-built c).After-build_from in
    let placer = ByTries c.args.budget in
    let p = c.args.program.now in
    let lists = c.args.entries.now in
    let b = c.build_from.ensures in
    is_built placer p lists c.build_from.result c.requires.program c.requires.entries c.requires.said c.one_meaning.ensures.short c.packet_lists.ensures
    (not_refused (refusal_by placer p) c.build_from.result (refused here))
    b.carries b.config b.rules (placed_so placer p lists c.args.placement.now.parts c.requires.placed c.build_from.result b.rules b.placement) b.layout b.bounded

pub returns-clause-refused : goal.returns-clause-refused
returns-clause-refused c =
    let here = (goal.at.returns-clause-refused c).After-build_from in
    tells_refusal (ByTries c.args.budget) c.args.program.now c.args.entries.now c.build_from.result (refused here) (cause here)

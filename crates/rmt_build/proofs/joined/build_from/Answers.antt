use Rattle.std.proofs.Common.{List, subst, sym}
use Rattle.rmt_pack.specs.declared.placement.Part.{Part}
use Rattle.rmt_build.specs.Loads.{AreNotLoaded}
use Rattle.rmt_build.specs.Stages.{ArePlaced}
use Rattle.rmt_build.proofs.RefusalLaws.{parts_there, stuck_alone}
use Rattle.rmt_build.proofs.joined.build_from.Goals as goal

pub built_on-requires-clause-placed : goal.built_on-requires-clause-placed
built_on-requires-clause-placed c =
    let p = c.args.program.now in
    let front = c.in_ok-front.front in
    let packed = c.in_ok-front.ensures.front.packed in
    let placed : ArePlaced p front.places c.args.placement.now.parts = record {
      keeps = c.requires.keeps front.places packed;
      limits = c.requires.limits front.places packed;
      parts = c.requires.parts;
      apart = c.requires.apart;
      quanta = c.requires.quanta front.places packed;
    } in
    subst (ArePlaced p front.places) (sym c.in_ok-same.ensures) placed

pub returns-clause-load : goal.returns-clause-load
returns-clause-load c node members cells is =
    subst (λ (ps : List Part). AreNotLoaded c.args.program.now c.args.entries.now ps node members cells) c.in_ok-same.ensures (c.built_on.ensures.load node members cells is)

pub returns-clause-placement : goal.returns-clause-placement
returns-clause-placement c = parts_there c.in_ok-front.front.places c.in_ok-same.same c.args.placement.now.parts c.built_on.result c.in_ok-same.ensures c.built_on.ensures.laid

pub returns-clause-refused : goal.returns-clause-refused
returns-clause-refused c fault first unstuck other =
    let own = c.in_ok-front.ensures.front in
    absurd (stuck_alone c.args.program.now c.in_ok-front.front.places fault own.fits own.shallow own.packed first unstuck)

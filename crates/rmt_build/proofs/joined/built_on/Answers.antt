use Rattle.std.proofs.Common.{◌∙◌, Ok, ap, sym}
use Rattle.rmt_ptcam.specs.Clustering.{clustered}
use Rattle.rmt_build.proofs.joined.built_on.Goals as goal

pub built_of-requires-clause-packed : goal.built_of-requires-clause-packed
built_of-requires-clause-packed c = c.requires.front.packed ∙ ap Ok (sym c.in_ok-plan.ensures.places)

pub built_of-requires-clause-fits : goal.built_of-requires-clause-fits
built_of-requires-clause-fits c = c.requires.front.fits

pub built_of-requires-clause-parser : goal.built_of-requires-clause-parser
built_of-requires-clause-parser c = c.requires.front.parser ∙ ap (clustered c.args.program.now) (sym c.in_ok-plan.ensures.places)

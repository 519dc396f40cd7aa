use Rattle.std.proofs.Common.{◌<◌, List, length, subst, sym}
use Rattle.std.proofs.lemmas.Option.{slice_get_within}
use Rattle.rmt_refine.specs.Types.{Stage}
use Rattle.rmt_verify.proofs.cells.table.stage_of.Goals as goal

pub bounds-as_slice-part : goal.bounds-as_slice-part
bounds-as_slice-part c =
    let stands = c.requires in
    subst (λ (ss : List Stage). c.args.part.now.at < length ss) (sym c.as_slice.ensures) (slice_get_within c.args.config.now.stages c.args.part.now.at stands.stage stands.in_stages)

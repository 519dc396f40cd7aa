use Rattle.std.proofs.Common.{◌≡◌, List, get_or, ap, ◌∙◌, arith}
use Rattle.rmt_chip.specs.Types.{Stage}
use Rattle.rmt_chip.specs.Runnable.{start_of}
use Rattle.rmt_chip.proofs.LatencyLaws.{start-le}
use Rattle.rmt_chip.proofs.LifeLaws.{start_of-get}
use Rattle.rmt_chip.proofs.ring.place_behind.Goals as goal

pub place_of-requires-clause-age : goal.place_of-requires-clause-age
place_of-requires-clause-age c =
    let stages = c.args.config.now.stages in
    let stage = c.index-stages-k.result in
    let start : stage.start ≡ start_of stages c.args.k =
    ap (λ (s : Stage). s.start) (c.index-stages-k.is ∙ ap (λ (xs : List Stage). get_or xs c.args.k stage) c.as_slice-stages.ensures) ∙ start_of-get stages c.args.k stage c.requires.exists in
    let last = start-le stages c.requires.fits.rise c.args.k c.requires.exists in
    omega (arith, start, last, c.requires.full, c.from.ensures, c.from-2.ensures, c.requires.after)

use Rattle.std.proofs.Common.{◌++◌, Option, subst}
use Rattle.rmt_cells.specs.declared.cells.Chain.{Chain}
use Rattle.rmt_cells.specs.Stands.{Stands, held_if}
use Rattle.rmt_chip.proofs.frames.clear.Goals as goal

pub returns-in-Some : goal.returns-in-Some
returns-in-Some c = λ count front back bytes stands.
    c.give_back.ensures.stands count front back bytes
    (subst (λ (o : Option Chain). Stands count (front ++ (held_if o bytes ++ back)) c.args.cells.now) c.in-Some.is stands)

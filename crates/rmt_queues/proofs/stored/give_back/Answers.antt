use Rattle.std.proofs.Common.{◌++◌, Option, subst}
use Rattle.rmt_cells.specs.declared.cells.Chain.{Chain}
use Rattle.rmt_cells.specs.Stands.{Stands as CellsStand, held_if}
use Rattle.rmt_queues.proofs.stored.give_back.Goals as goal

pub returns-in-Some : goal.returns-in-Some
returns-in-Some c = λ front back bytes stands.
    c.give_back.ensures.stands 65536 front back bytes
    (subst (λ (o : Option Chain). CellsStand 65536 (front ++ (held_if o bytes ++ back)) c.args.cells.now) c.in-Some.is stands)

use Rattle.std.proofs.Common.{All, length, sym, subst}
use Rattle.rmt_filling.specs.EntryCells.{IsLoadedAt, StandOnce}
use Rattle.rmt_filling.proofs.SortingLaws.{all_loaded, stand_once}
use Rattle.rmt_filling.proofs.stands.as_loaded.Goals as goal

pub returns-clause-once : goal.returns-clause-once
returns-clause-once c =
    subst (StandOnce (length c.args.cells.now)) (sym c.from_vec.ensures)
    (stand_once c.args.cells.now c.requires.few c.in_ok-sorted.field-0.items c.in_ok-sorted.ensures c.requires.apart)

pub returns-clause-cells : goal.returns-clause-cells
returns-clause-cells c =
    subst (All (IsLoadedAt c.args.cells.now)) (sym c.from_vec.ensures) (all_loaded c.args.cells.now c.requires.few c.in_ok-sorted.field-0.items c.in_ok-sorted.ensures)

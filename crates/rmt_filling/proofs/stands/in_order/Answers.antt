use Rattle.std.proofs.Common.{◌∙◌, ap, arith, length, map, subst, sym}
use Rattle.std.proofs.lemmas.List.{length-map}
use Rattle.rmt_filling.specs.Sorting.{AreSorted, rank_in, rows_from}
use Rattle.rmt_filling.specs.EntryCells.{StandInOrder}
use Rattle.rmt_filling.proofs.SortingLaws.{long_as, stand_in_order}
use Rattle.rmt_filling.proofs.stands.in_order.Goals as goal

pub in_rows-requires : goal.in_rows-requires
in_rows-requires c =
    let ranks = map (rank_in c.args.kind) c.args.entries.now in
    let many = length-map c.args.entries.now (rank_in c.args.kind) in
    let few = c.requires.few in
    let are : AreSorted ranks c.in_ok-sorted.sorted.items =
    subst (λ ns. AreSorted ns c.in_ok-sorted.sorted.items) (c.as_slice.ensures.value ∙ c.in_ok-ranks.ensures.ranks) c.in_ok-sorted.ensures in
    let same = ap length c.as_slice-2.ensures.value in
    record { few = omega (arith, many, few, long_as ranks (omega (arith, many, few)) c.in_ok-sorted.sorted.items are, same) }

pub returns : goal.returns
returns c =
    let are : AreSorted (map (rank_in c.args.kind) c.args.entries.now) c.in_ok-sorted.sorted.items =
    subst (λ ns. AreSorted ns c.in_ok-sorted.sorted.items) (c.as_slice.ensures.value ∙ c.in_ok-ranks.ensures.ranks) c.in_ok-sorted.ensures in
    subst (StandInOrder c.args.kind c.args.entries.now) (sym (c.in_ok-stands.ensures ∙ ap (rows_from 0) c.as_slice-2.ensures.value))
    (stand_in_order c.args.kind c.args.entries.now c.in_ok-sorted.sorted.items c.requires.few c.requires.kind c.in_ok-ranks.ensures.fits c.requires.rising are)

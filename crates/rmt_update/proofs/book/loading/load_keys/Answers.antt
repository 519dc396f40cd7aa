use Rattle.std.proofs.Common.{ap, arith, length, subst, ◌∙◌}
use Rattle.rmt_cuckoo.specs.Told.{Explains}
use Rattle.rmt_book.specs.Spots.{spots_at}
use Rattle.rmt_cuckoo.proofs.LoadLaws.{members_few}
use Rattle.rmt_update.proofs.book.loading.load_keys.Goals as goal

pub overflow_cast-result : goal.overflow_cast-result
overflow_cast-result c =
    let full = subst (Explains c.args.layout.now c.args.seed c.args.keys.now) c.in-Err-Overfull.field-0-is c.in-Err-Overfull.ensures.fault in
    let few = members_few c.args.layout.now c.args.seed c.args.keys.now c.in-Err-Overfull.members c.in-Err-Overfull.cells full in
    omega (arith, few, c.requires.few_keys, c.len.ensures, ap length c.in-Err-Overfull.members-is)

pub returns-in_ok-spots-in-Ok : goal.returns-in_ok-spots-in-Ok
returns-in_ok-spots-in-Ok c = (c.in-Ok.cells, c.in-Ok.ensures.loaded, c.in_ok-spots-in-Ok.ensures ∙ ap (spots_at c.args.parts.now) c.as_slice.ensures)

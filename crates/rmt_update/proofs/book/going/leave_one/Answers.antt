use Rattle.std.proofs.Common.{Some, sym, ap, ◌∙◌, arith}
use Rattle.std.proofs.lemmas.List.{length-set}
use Rattle.std.proofs.lemmas.Option.{slice_get-get_or}
use Rattle.rmt_bits.proofs.ListLaws.{slice_get-item}
use Rattle.rmt_update.proofs.EnteringLaws.{there-within}
use Rattle.rmt_update.proofs.GoingLaws.{kept-there, none-leaves, one-leaves}
use Rattle.rmt_update.proofs.book.going.leave_one.Goals as goal

pub returns-in_default-clause-tables : goal.returns-in_default-clause-tables
returns-in_default-clause-tables c = λ odd goes zip.
    none-leaves c.args.tables.now c.args.index.now c.requires.apart c.requires.cells c.args.number odd goes zip (sym (c.copied.ensures ∙ c.get.ensures.value) ∙ c.in_default.is)

pub index_mut-requires : goal.index_mut-requires
index_mut-requires c =
    let k = c.requires.cells.spots c.args.number c.in-Some.spot (sym (c.copied.ensures ∙ c.get.ensures.value) ∙ c.in-Some.is) in
    let lt = there-within c.args.tables.now c.in-Some.spot (kept-there c.args.tables.now c.in-Some.spot k.0 k.1) in
    let count = c.requires.count in
    omega (arith, lt, count)

pub leave_row-requires : goal.leave_row-requires
leave_row-requires c =
    let k = c.requires.cells.spots c.args.number c.in-Some.spot (sym (c.copied.ensures ∙ c.get.ensures.value) ∙ c.in-Some.is) in
    kept-there c.args.tables.now c.in-Some.spot k.0 k.1

pub returns-clause-count : goal.returns-clause-count
returns-clause-count c = length-set c.args.index.now.tables.items c.in-Some.spot.table c.leave_row.new.index

pub returns-clause-tables : goal.returns-clause-tables
returns-clause-tables c = λ odd goes zip.
    let s = c.in-Some.spot in
    let found = sym (c.copied.ensures ∙ c.get.ensures.value) ∙ c.in-Some.is in
    let k = c.requires.cells.spots c.args.number s found in
    let ts = c.args.tables.now in
    let os = c.args.index.now.tables.items in
    let lt = there-within ts s (kept-there ts s k.0 k.1) in
    let count = c.requires.count in
    let t = slice_get-item ts s.table lt in
    let o = c.index_mut.result.now in
    let at_o = slice_get-get_or os s.table o (omega (arith, lt, count)) ∙ ap Some (sym c.index_mut.ensures.value) in
    one-leaves ts c.args.index.now c.requires.apart c.requires.cells c.args.number odd goes zip s k.0 t.0 o c.leave_row.new.index found k.1 t.1 at_o (c.leave_row.ensures t.0 k.0 t.1 k.1)

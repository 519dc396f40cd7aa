use Rattle.std.proofs.Common.{List, length, sym, ap, ◌∙◌, arith}
use Rattle.rmt_book.specs.declared.table.PartCells.{PartCells}
use Rattle.rmt_update.specs.Taking.{cells_of_parts}
use Rattle.rmt_update.proofs.OpenLaws.{first-candidate}
use Rattle.rmt_update.proofs.PutRows.{open-within}
use Rattle.rmt_update.proofs.book.taking.take_open.Goals as goal

pub give-requires : goal.give-requires
give-requires c =
    let parts = c.as_slice-parts.result.now in
    let within = (open-within c.args.odd 0 parts c.as_slice.result.now (cells_of_parts c.args.seed c.args.key.now parts) c.in-Some.spot (sym c.open_cell.ensures ∙ c.in-Some.is)).1 in
    let long = ap (λ (xs : List PartCells). length xs) c.as_slice-parts.ensures.value in
    let given = c.requires.given in
    omega (arith, within, long, given)

pub returns-in_default-clause-takes : goal.returns-in_default-clause-takes
returns-in_default-clause-takes c = λ e own. record {
  first =
      first-candidate c.args.odd c.args.seed c.args.table.now e c.as_slice-parts.result.now c.as_slice.result.now c.args.given.now.items c.args.key.now _
      c.as_slice-parts.ensures.value c.as_slice.ensures.value own (sym c.in_default.is ∙ c.open_cell.ensures);
  given = tt;
}

pub returns-clause-takes : goal.returns-clause-takes
returns-clause-takes c = λ e own. record {
  first =
      first-candidate c.args.odd c.args.seed c.args.table.now e c.as_slice-parts.result.now c.as_slice.result.now c.args.given.now.items c.args.key.now _
      c.as_slice-parts.ensures.value c.as_slice.ensures.value own (sym c.in-Some.is ∙ c.open_cell.ensures);
  given = c.in_ok-give.ensures;
}

pub returns-clause-within : goal.returns-clause-within
returns-clause-within c =
    let parts = c.as_slice-parts.result.now in
    let within = (open-within c.args.odd 0 parts c.as_slice.result.now (cells_of_parts c.args.seed c.args.key.now parts) c.in-Some.spot (sym c.open_cell.ensures ∙ c.in-Some.is)).1 in
    let long = ap (λ (xs : List PartCells). length xs) c.as_slice-parts.ensures.value in
    omega (arith, within, long)

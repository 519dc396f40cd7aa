use Rattle.std.proofs.Common.{◌≡◌, sym, ap, subst}
use Rattle.rmt_pack.specs.declared.format.Need.{Need}
use Rattle.rmt_pack.specs.Formats.{HasNeed, need_of}
use Rattle.rmt_pack.specs.Placements.{table_need}
use Rattle.rmt_pack.proofs.NeedLaws.{params-small, table_has_need}
use Rattle.rmt_place.proofs.demand.table_demand.Goals as goal

pub table_need-need-requires-clause-data : goal.table_need-need-requires-clause-data
table_need-need-requires-clause-data c = params-small c.args.placed.now.program.now c.requires.program c.args.table.now

pub format_of-format-requires : goal.format_of-format-requires
format_of-format-requires c =
    let is : need_of c.args.table.now c.table_need-need.result.key c.table_need-need.result.held ≡ table_need c.args.placed.now.program.now c.args.table.now =
    ap (λ (n : Need). need_of c.args.table.now n.key n.held) c.table_need-need.ensures in
    subst (HasNeed c.args.table.now.kind) (sym is) (table_has_need c.args.placed.now.program.now c.requires.program c.args.table.now c.requires.table)

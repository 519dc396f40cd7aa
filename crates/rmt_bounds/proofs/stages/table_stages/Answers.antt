use Rattle.std.proofs.Common.{subst, sym}
use Rattle.rmt_ast.specs.declared.program.Kind.{Kind}
use Rattle.rmt_pack.specs.Formats.{IsNeed, HasNeed}
use Rattle.rmt_pack.specs.Placements.{table_need}
use Rattle.rmt_pack.proofs.NeedLaws.{params-small, table_has_need}
use Rattle.rmt_bounds.proofs.FormatBounds.{fits_prefix, fits_ternary}
use Rattle.rmt_bounds.proofs.stages.table_stages.Goals as goal

pub table_need-requires-clause-data : goal.table_need-requires-clause-data
table_need-requires-clause-data c = params-small c.args.program.now c.requires.program c.args.table.now

pub exact_stages-requires : goal.exact_stages-requires
exact_stages-requires c =
    subst IsNeed (sym c.table_need.ensures)
    (subst (λ (k : Kind). HasNeed k (table_need c.args.program.now c.args.table.now)) c.in-Exact.is
    (table_has_need c.args.program.now c.requires.program c.args.table.now c.requires.table))

pub stages_for-requires : goal.stages_for-requires
stages_for-requires c = fits_prefix c.args.program.now c.requires.program c.args.table.now c.requires.table c.table_format.result c.table_format.ensures.value c.in-Prefix.is

pub stages_for-requires-in-Ternary : goal.stages_for-requires-in-Ternary
stages_for-requires-in-Ternary c =
    fits_ternary c.args.program.now c.requires.program c.args.table.now c.requires.table c.table_format-in-Ternary.result c.table_format-in-Ternary.ensures.value c.in-Ternary.is

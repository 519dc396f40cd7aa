use Rattle.rmt_pack.specs.Formats.{need_of}
use Rattle.rmt_pack.proofs.NeedLaws.{params-small}
use Rattle.rmt_bounds.proofs.FormatBounds.{need_at, small_format}
use Rattle.rmt_bounds.proofs.stages.table_format.Goals as goal

pub data_bits-requires : goal.data_bits-requires
data_bits-requires c = params-small c.args.program.now c.requires.program c.args.table.now

pub format_of-requires : goal.format_of-requires
format_of-requires c = need_at c.args.program.now c.requires.program c.args.table.now c.requires.table c.key_bits.result c.data_bits.result c.key_bits.ensures c.data_bits.ensures

pub returns-clause-small : goal.returns-clause-small
returns-clause-small c =
    (small_format c.args.table.now.kind (need_of c.args.table.now c.key_bits.result c.data_bits.result)
    (need_at c.args.program.now c.requires.program c.args.table.now c.requires.table c.key_bits.result c.data_bits.result c.key_bits.ensures c.data_bits.ensures)
    c.format_of.result c.format_of.ensures.format).quanta

pub returns-clause-sram : goal.returns-clause-sram
returns-clause-sram c =
    (small_format c.args.table.now.kind (need_of c.args.table.now c.key_bits.result c.data_bits.result)
    (need_at c.args.program.now c.requires.program c.args.table.now c.requires.table c.key_bits.result c.data_bits.result c.key_bits.ensures c.data_bits.ensures)
    c.format_of.result c.format_of.ensures.format).sram

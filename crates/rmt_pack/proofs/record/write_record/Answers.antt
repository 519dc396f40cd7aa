use Rattle.rmt_bits.specs.Bits.{number_of}
use Rattle.rmt_pack.specs.Rows.{blocks_of}
use Rattle.rmt_pack.proofs.RecordLaws.{record-entry, record-holds, record-others, record-entries}
use Rattle.rmt_pack.proofs.record.write_record.Goals as goal

pub returns-clause-bits : goal.returns-clause-bits
returns-clause-bits c = c.put_record.ensures.bits

pub returns-clause-record : goal.returns-clause-record
returns-clause-record c =
    record-entry (blocks_of c.args.rows.now) (blocks_of c.put_record.new.rows) c.args.shape.now c.args.cell (number_of c.args.held.now) c.requires.shape c.requires.small c.put_record.ensures.bits

pub returns-clause-holds : goal.returns-clause-holds
returns-clause-holds c =
    record-holds (blocks_of c.put_record.new.rows) c.args.shape.now c.args.cell c.args.held.now (λ i. (c.type_inv.held i).fits) c.requires.held (returns-clause-record c)

pub returns-clause-others : goal.returns-clause-others
returns-clause-others c =
    record-others (blocks_of c.args.rows.now) (blocks_of c.put_record.new.rows) c.args.shape.now c.args.cell (number_of c.args.held.now) c.requires.shape c.put_record.ensures.fits c.requires.cell c.requires.small c.put_record.ensures.bits

pub returns-clause-entries : goal.returns-clause-entries
returns-clause-entries c =
    record-entries (blocks_of c.args.rows.now) (blocks_of c.put_record.new.rows) c.args.shape.now c.args.cell (number_of c.args.held.now) c.requires.shape c.put_record.ensures.bits

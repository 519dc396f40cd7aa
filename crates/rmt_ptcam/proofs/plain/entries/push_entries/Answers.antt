use Rattle.rmt_ast.specs.WellFormed.{IsCase}
use Rattle.rmt_bits.proofs.AllLaws.{All-slice_get}
use Rattle.rmt_bits.proofs.ListLaws.{slice_get-seen}
use Rattle.rmt_ptcam.proofs.PlainLaws.{near}
use Rattle.rmt_ptcam.proofs.plain.entries.push_entries.Goals as goal

pub case_entry-requires-clause-case : goal.case_entry-requires-clause-case
case_entry-requires-clause-case c =
    let h = c.args.header.now in
    let item = c.case-item.result in
    All-slice_get (IsCase c.args.program.now c.args.number h.select) h.cases c.loop-case.case-index item c.requires.header.cases
    (slice_get-seen h.cases _ c.loop-case.case-index item c.as_slice-case-items.ensures c.loop-case-test.true c.case-item.is)

pub entry_for-requires-clause-near : goal.entry_for-requires-clause-near
entry_for-requires-clause-near c = near c.args.program.now c.args.number c.args.header.now.other c.requires.program.counts.headers c.requires.header.other

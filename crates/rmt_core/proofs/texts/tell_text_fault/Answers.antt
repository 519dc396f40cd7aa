use Rattle.std.proofs.Common.{ap}
use Rattle.rmt_core.specs.TextFaults.{text_fault_line, text_fault_status}
use Rattle.rmt_core.proofs.TextLaws.{tells_as}
use Rattle.rmt_core.proofs.texts.tell_text_fault.Goals as goal

pub returns-in-BadProgram-clause-line : goal.returns-in-BadProgram-clause-line
returns-in-BadProgram-clause-line g c =
    tells_as (ap text_fault_status c.in-BadProgram.is) (c.tell.ensures.line (text_fault_line c.args.fault) c.text_fault_line-line.ensures)

pub returns-in-BadEntries-clause-line : goal.returns-in-BadEntries-clause-line
returns-in-BadEntries-clause-line g c =
    tells_as (ap text_fault_status c.in-BadEntries.is) (c.tell-in-BadEntries.ensures.line (text_fault_line c.args.fault) c.text_fault_line-line.ensures)

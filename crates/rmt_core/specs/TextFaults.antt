-- Faults of a program text or an entry text, as the last line tells them.
use Rattle.std.specs.Prelude.{ℕ, List, []}
use Rattle.rmt_drive.specs.declared.status.Status.{Status}
use Rattle.rmt_drive.specs.declared.status.Status.TheVariants as status
use Rattle.rmt_core.specs.declared.texts.TextFault.{TextFault}
use Rattle.rmt_core.specs.declared.texts.TextFault.TheVariants.{NoMemory, BadProgram, BadEntries}
use Rattle.rmt_core.specs.Texts.{bad_program_line, bad_entries_line}

abbrev pub text_fault_status : TextFault → Status
text_fault_status NoMemory = status.NoMemory
text_fault_status (BadProgram code line column) = status.BadProgram
text_fault_status (BadEntries code line) = status.BadEntries

abbrev pub text_fault_line : TextFault → List ℕ
text_fault_line NoMemory = []
text_fault_line (BadProgram code line column) = bad_program_line code line column
text_fault_line (BadEntries code line) = bad_entries_line code line

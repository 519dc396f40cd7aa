use Rattle.rmt_core.proofs.AbsenceLaws.{fault_is_absence, steady_fault_is_absence}
use Rattle.rmt_core.proofs.laws.read_fault_is_absence.Goals as goal

pub returns : goal.returns
returns c = record { exact = fault_is_absence; steady = steady_fault_is_absence }

use Rattle.std.proofs.Common.{subst, sym}
use Rattle.rmt_core.specs.declared.switching.setup.SetupFault.TheVariants.{Capture}
use Rattle.rmt_drive.specs.SimText.{bad_packets_line}
use Rattle.rmt_core.specs.SwitchSetup.{setup_fault_line, setup_fault_status}
use Rattle.rmt_drive.specs.Telling.{Tells}
use Rattle.rmt_core.proofs.switching.setup.tell_capture_fault.Goals as goal

pub returns-in-Code-clause-line : goal.returns-in-Code-clause-line
returns-in-Code-clause-line g c =
    subst (λ f. Tells (g.O.Sink.state c.args.out.now) (g.O.Sink.state c.tell.new.out) (setup_fault_line (Capture f)) (setup_fault_status (Capture f)) c.tell.result) (sym c.in-Code.is)
    (c.tell.ensures.line (bad_packets_line c.in-Code.code 0) c.bad_capture_text.ensures)

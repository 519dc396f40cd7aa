-- The three files are read and understood, the frames run, and the captures of the ports are delivered; or the call ends at one of these steps.
use Rattle.std.proofs.Common.{List, ℕ, Err, ap, inl, inr, refl, subst, sym, ⊎_elim, ◌∙◌, string_bytes}
use Rattle.rmt_io.specs.Outside.{ShelfState, OnlyRead}
use Rattle.rmt_drive.specs.declared.status.Status.{Status}
use Rattle.rmt_drive.specs.Ends.{Outside, WritesAndPrints, outside}
use Rattle.rmt_drive.specs.Files.{Files}
use Rattle.rmt_drive.specs.Given.{Given, stored}
use Rattle.rmt_core.specs.declared.commands.SwitchNames.{SwitchNames}
use Rattle.rmt_core.specs.declared.switching.setup.Inputs.{Inputs}
use Rattle.rmt_core.specs.Switching.{Switches, port_writes}
use Rattle.rmt_core.specs.SwitchSetup.{AreFound, setup_fault_line, setup_fault_status}
use Rattle.rmt_switch.specs.Printed.{switch_line}
use Rattle.rmt_switch.specs.Switch.{switched}
use Rattle.rmt_core.proofs.CallLaws.{ends_at_once, ends_told, told_quiet, writes_none}
use Rattle.rmt_core.proofs.DeliverLaws.{delivers}
use Rattle.rmt_core.proofs.SwitchLaws.{ReadsThree, all_read, none_read, run_is_given, setup_fault_answered, setup_fault_short, setup_fault_unread}
use Rattle.rmt_core.proofs.switching.switch.Goals as goal

-- the files of these names were read
read_of : (names : SwitchNames) (before after : Outside) (mid : ShelfState) (inputs : Inputs) (next : Files → List ℕ → List ℕ → List ℕ → Given → Type 0) (s : Status) → OnlyRead before.shelf mid
    → AreFound before.shelf (string_bytes names.image.now) (string_bytes names.groups.now) (string_bytes names.capture.now) inputs
    → WritesAndPrints (outside mid before.sink) after (λ files. next files inputs.image.items inputs.groups.items inputs.capture.items) s
    → WritesAndPrints before after (λ files. ReadsThree files (string_bytes names.image.now) (string_bytes names.groups.now) (string_bytes names.capture.now) (next files)) s
read_of names = all_read (string_bytes names.image.now) (string_bytes names.groups.now) (string_bytes names.capture.now)

pub returns-in-Err-clause-call : goal.returns-in-Err-clause-call
returns-in-Err-clause-call g c =
    let names = c.args.names in
    none_read (string_bytes names.image.now) (string_bytes names.groups.now) (string_bytes names.capture.now)
    (g.F.Shelf.state c.args.shelf.now) (g.O.Sink.state c.args.out.now) (g.F.Shelf.state c.read_inputs.new.shelf) (λ files. Switches files (string_bytes names.out.now) c.args.every) c.in-Err.status
    c.read_inputs.ensures.only_read c.in-Err.ensures.refused (λ e. c.read_inputs.ensures.fault (c.in-Err.is ∙ ap Err e))

pub returns-in-Err-set_up-clause-call : goal.returns-in-Err-set_up-clause-call
returns-in-Err-set_up-clause-call g c =
    let name = string_bytes c.args.names.out.now in
    let inputs = c.in-Ok.inputs in
    let fault = c.in-Err-set_up.fault in
    let shelf = g.F.Shelf.state c.read_inputs.new.shelf in
    let sink = g.O.Sink.state c.args.out.now in
    let after = outside shelf (g.O.Sink.state c.tell_setup_fault.new.out) in
    let line = c.tell_setup_fault.ensures.line in
    read_of c.args.names
    (outside (g.F.Shelf.state c.args.shelf.now) sink) after shelf inputs (λ files. Switches files name c.args.every) c.tell_setup_fault.result c.read_inputs.ensures.only_read c.in-Ok.ensures.found
    (writes_none _ _ _ _
    (ends_told shelf _ _ (λ files. Switches files name c.args.every inputs.image.items inputs.groups.items inputs.capture.items) (setup_fault_status fault) c.tell_setup_fault.result (setup_fault_line fault)
    (setup_fault_unread fault) line c.tell_setup_fault.ensures.only_printed
    (setup_fault_answered (outside shelf sink) after name c.args.every inputs.image.items inputs.groups.items inputs.capture.items
    fault c.tell_setup_fault.result c.in-Err-set_up.ensures.fault c.tell_setup_fault.ensures.no_memory (λ _. refl) line))
    (told_quiet (setup_fault_status fault) c.tell_setup_fault.result (setup_fault_unread fault) (setup_fault_short fault) line.quiet line.kind))

pub returns-in-Ok-run-clause-call : goal.returns-in-Ok-run-clause-call
returns-in-Ok-run-clause-call g c =
    let name = string_bytes c.args.names.out.now in
    let inputs = c.in-Ok.inputs in
    let setup = c.in-Ok-set_up.setup in
    let ran = c.in-Ok-run.switched in
    let shelf = g.F.Shelf.state c.read_inputs.new.shelf in
    let sink = g.O.Sink.state c.args.out.now in
    let after = outside (g.F.Shelf.state c.deliver_ports.new.shelf) (g.O.Sink.state c.deliver_ports.new.out) in
    read_of c.args.names
    (outside (g.F.Shelf.state c.args.shelf.now) sink) after shelf inputs (λ files. Switches files name c.args.every) c.deliver_ports.result c.read_inputs.ensures.only_read c.in-Ok.ensures.found
    (delivers (outside shelf sink) after (λ files. Switches files name c.args.every inputs.image.items inputs.groups.items inputs.capture.items)
    (port_writes name ran.files) (switch_line ran.counts) c.deliver_ports.result
    (subst (λ s. Switches shelf.files name c.args.every inputs.image.items inputs.groups.items inputs.capture.items (stored shelf.files (port_writes name s.files) (switch_line s.counts))) (sym (c.in-Ok-run.ensures.switched ∙ ap (λ t. switched setup.config setup.groups c.args.every t setup.capture) c.as_slice-file.ensures.value))
    (run_is_given shelf.files name c.args.every inputs.image.items inputs.groups.items inputs.capture.items setup.config c.in-Ok-set_up.ensures.image setup.groups setup.capture
    c.in-Ok-set_up.ensures.groups c.in-Ok-set_up.ensures.capture))
    c.deliver_ports.ensures.kind c.deliver_ports.ensures.call)

pub returns-clause-call : goal.returns-clause-call
returns-clause-call g c =
    let inputs = c.in-Ok.inputs in
    let shelf = g.F.Shelf.state c.read_inputs.new.shelf in
    let sink = g.O.Sink.state c.args.out.now in
    read_of c.args.names
    (outside (g.F.Shelf.state c.args.shelf.now) sink) (outside shelf sink) shelf inputs (λ files. Switches files (string_bytes c.args.names.out.now) c.args.every) _ c.read_inputs.ensures.only_read c.in-Ok.ensures.found
    (writes_none _ _ _ _ (ends_at_once (outside shelf sink) (λ files. Switches files (string_bytes c.args.names.out.now) c.args.every inputs.image.items inputs.groups.items inputs.capture.items)) (λ _ _. refl))

pub returns-in-Ok-run-clause-possible : goal.returns-in-Ok-run-clause-possible
returns-in-Ok-run-clause-possible g c =
    ⊎_elim (λ e. inl (inl e)) (λ rest. ⊎_elim (λ e. inr (inr (inr e))) (λ e. inr (inl e)) rest) c.deliver_ports.ensures.kind

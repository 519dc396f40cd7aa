use Rattle.std.proofs.Common.{ap, subst, string_bytes, ◌∙◌}
use Rattle.rmt_drive.specs.Ends.{WritesAndPrints, outside}
use Rattle.rmt_drive.specs.Given.{Stores}
use Rattle.rmt_core.specs.Switching.{port_writes}
use Rattle.rmt_core.specs.Writing.{writes_of}
use Rattle.rmt_core.proofs.switching.deliver_ports.Goals as goal

pub returns-in-Ok-port_files-clause-call : goal.returns-in-Ok-port_files-clause-call
returns-in-Ok-port_files-clause-call g c =
    let before = outside (g.F.Shelf.state c.args.shelf.now) (g.O.Sink.state c.args.out.now) in
    let after = outside (g.F.Shelf.state c.deliver.new.shelf) (g.O.Sink.state c.deliver.new.out) in
    let writes = port_writes (string_bytes c.args.name.now) c.args.switched.files in
    let named = subst (λ w. WritesAndPrints before after (Stores w c.as_bytes.result.now) c.deliver.result) (ap writes_of c.as_slice.ensures.value ∙ c.in-Ok-port_files.ensures) c.deliver.ensures.call in
    subst (λ l. WritesAndPrints before after (Stores writes l) c.deliver.result) (c.as_bytes.ensures.value ∙ c.in-Ok.ensures) named

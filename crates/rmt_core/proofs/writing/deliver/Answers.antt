use Rattle.std.proofs.Common.{Err, ap, ◌∙◌}
use Rattle.rmt_drive.specs.Ends.{outside}
use Rattle.rmt_core.specs.Writing.{writes_of}
use Rattle.rmt_core.proofs.DeliverLaws.{delivered_short, delivered_whole}
use Rattle.rmt_core.proofs.writing.deliver.Goals as goal

pub returns-in-Ok-clause-call : goal.returns-in-Ok-clause-call
returns-in-Ok-clause-call g c =
    let w = c.in-Ok.ensures in
    let e = c.end_with.ensures in
    delivered_whole (outside (g.F.Shelf.state c.args.shelf.now) (g.O.Sink.state c.args.out.now)) (outside (g.F.Shelf.state c.write_files.new.shelf) (g.O.Sink.state c.end_with.new.out)) (writes_of c.args.files.now) c.args.lines.now c.end_with.result c.requires w.tells w.whole e.status e.printed e.front e.failed e.only_printed

pub returns-in-Err-clause-call : goal.returns-in-Err-clause-call
returns-in-Err-clause-call g c =
    let w = c.write_files.ensures in
    delivered_short (g.F.Shelf.state c.args.shelf.now) (g.F.Shelf.state c.write_files.new.shelf) (g.O.Sink.state c.args.out.now) (writes_of c.args.files.now) c.args.lines.now w.tells c.in-Err.status c.requires c.in-Err.ensures.kind
    (λ e. w.no_memory (c.in-Err.is ∙ ap Err e)) (λ e. w.broken (c.in-Err.is ∙ ap Err e)) (λ e. w.failed (c.in-Err.is ∙ ap Err e)) (λ e. w.never_fails (c.in-Err.is ∙ ap Err e))

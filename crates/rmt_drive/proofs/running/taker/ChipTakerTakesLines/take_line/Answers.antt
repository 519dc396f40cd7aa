-- What a line leaves of the chip and its run.
use Rattle.std.proofs.Common.{None, sym, subst}
use Rattle.std.proofs.lemmas.Result.{IfErr-weaker, IfOk-weaker}
use Rattle.rmt_drive.specs.ChipReading.{read_by}
use Rattle.rmt_drive.specs.EventText.{EventReading}
use Rattle.rmt_drive.specs.Running.{Follows}
use Rattle.rmt_drive.proofs.ChipReadLaws.{chip_line}
use Rattle.rmt_drive.proofs.LineBreaks.{leaves_bad, leaves_good}
use Rattle.rmt_drive.proofs.running.taker.ChipTakerTakesLines.take_line.Goals as goal

pub take_line-requires-clause-follows : goal.take_line-requires-clause-follows
take_line-requires-clause-follows g c = let h = c.requires.stands in (h.0.0, h.0.1, read_by h.0.1 None h.1, h.2, h.3)

pub returns-clause-taken : goal.returns-clause-taken
returns-clause-taken g c =
    let now = g.O.Sink.state c.take_line.new.out in
    let new = c.take_line.new in
    IfOk-weaker c.take_line.result _ _
    (λ code h e x lines number before f.
    let said = read_by x.1 None lines in
    subst (λ (r : EventReading). Follows x.0 x.1 r new.run new.chip new.commits before now) (sym (chip_line x.1 None lines number c.args.line.now f.come.good))
    (leaves_good x.0 x.1 number c.args.line.now said new.run new.chip new.commits before now code e (h x.0 x.1 said number before f)))
    c.take_line.ensures.ok

pub returns-clause-stopped : goal.returns-clause-stopped
returns-clause-stopped g c =
    let now = g.O.Sink.state c.take_line.new.out in
    let new = c.take_line.new in
    IfOk-weaker c.take_line.result _ _
    (λ code h bad e x lines number before f.
    let said = read_by x.1 None lines in
    (f.come.good, leaves_bad x.0 x.1 number c.args.line.now said new.run new.chip new.commits before now code bad e (h x.0 x.1 said number before f)))
    c.take_line.ensures.ok

pub returns-clause-cut : goal.returns-clause-cut
returns-clause-cut g c = IfErr-weaker c.take_line.result _ _ (λ fault h x lines number before f. (f.come.good, h x.0 x.1 (read_by x.1 None lines) number before f)) c.take_line.ensures.cut

pub take_line-requires-clause-few : goal.take_line-requires-clause-few
take_line-requires-clause-few g c = c.requires.few

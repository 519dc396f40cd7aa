-- A line by its kind.
use Rattle.std.proofs.Common.{◌≡◌, Result, Ok, Err, inl, inr, sym, ◌∙◌}
use Rattle.std.specs.Prelude.{IfErr}
use Rattle.std.proofs.lemmas.Result.{IfErr-weaker, IfOk-weaker}
use Rattle.rmt_io.specs.Outside.{SinkState}
use Rattle.rmt_io.proofs.OutsideLaws.{only_printed_refl}
use Rattle.rmt_runs.specs.declared.fault.RunFault.{RunFault}
use Rattle.rmt_runs.specs.declared.fault.RunFault.TheVariants as fault
use Rattle.rmt_drive.specs.Telling.{Prints}
use Rattle.rmt_drive.proofs.EventTextLaws.{addition_changes, removal_changes}
use Rattle.rmt_drive.proofs.FollowsLaws.{left_ahead}
use Rattle.rmt_drive.proofs.running.line.take_line.Goals as goal

-- want of memory is no fault of the sink
not_write : (f : RunFault) → f ≡ fault.NoMemory → f ≡ fault.Write → ⊥
not_write f e h = cc

-- for want of memory nothing is printed
prints_nothing : {A : Type 0} (now : SinkState) (result : Result A RunFault) → IfErr result (λ f. f ≡ fault.NoMemory) → Prints now now result
prints_nothing now (Ok x) h = record { either = tt; failed = λ e. absurd (cc); only_printed = only_printed_refl now }
prints_nothing now (Err f) h = record { either = inl h; failed = λ e. absurd (cc); only_printed = only_printed_refl now }

pub returns-in-Addition-clause-prints : goal.returns-in-Addition-clause-prints
returns-in-Addition-clause-prints g c = prints_nothing (g.O.Sink.state c.args.out.now) c.take_change.result c.take_change.ensures.memory

pub returns-in-Removal-clause-prints : goal.returns-in-Removal-clause-prints
returns-in-Removal-clause-prints g c = prints_nothing (g.O.Sink.state c.args.out.now) c.take_change-in-Removal.result c.take_change-in-Removal.ensures.memory

pub take_change-requires-clause-change : goal.take_change-requires-clause-change
take_change-requires-clause-change g c = addition_changes c.args.line.now (sym c.kind_of.ensures.kind ∙ c.in-Addition.is)

pub take_change-requires-in-Removal-clause-change : goal.take_change-requires-in-Removal-clause-change
take_change-requires-in-Removal-clause-change g c = removal_changes c.args.line.now (sym c.kind_of.ensures.kind ∙ c.in-Removal.is)

pub returns-in-Addition-clause-ok : goal.returns-in-Addition-clause-ok
returns-in-Addition-clause-ok g c =
    IfOk-weaker c.take_change.result _ _
    (λ code h w k said number before f.
    h w k said number c.args.run.now before (g.O.Sink.state c.args.out.now) (inl (sym c.kind_of.ensures.kind ∙ c.in-Addition.is)) f)
    c.take_change.ensures.ok

pub returns-in-Addition-clause-cut : goal.returns-in-Addition-clause-cut
returns-in-Addition-clause-cut g c =
    IfErr-weaker c.take_change.result _ _
    (λ f e w k said number before h.
    left_ahead w k number c.args.line.now said c.args.run.now c.args.chip.now c.args.commits.now before (g.O.Sink.state c.args.out.now) f (not_write f e) h)
    c.take_change.ensures.memory

pub returns-in-Removal-clause-ok : goal.returns-in-Removal-clause-ok
returns-in-Removal-clause-ok g c =
    IfOk-weaker c.take_change-in-Removal.result _ _
    (λ code h w k said number before f.
    h w k said number c.args.run.now before (g.O.Sink.state c.args.out.now) (inr (sym c.kind_of.ensures.kind ∙ c.in-Removal.is)) f)
    c.take_change-in-Removal.ensures.ok

pub returns-in-Removal-clause-cut : goal.returns-in-Removal-clause-cut
returns-in-Removal-clause-cut g c =
    IfErr-weaker c.take_change-in-Removal.result _ _
    (λ f e w k said number before h.
    left_ahead w k number c.args.line.now said c.args.run.now c.args.chip.now c.args.commits.now before (g.O.Sink.state c.args.out.now) f (not_write f e) h)
    c.take_change-in-Removal.ensures.memory

pub returns-in-Commit-clause-ok : goal.returns-in-Commit-clause-ok
returns-in-Commit-clause-ok g c =
    IfOk-weaker c.take_commit.result _ _ (λ code h w k said number before f. h w k said number c.args.line.now before (sym c.kind_of.ensures.kind ∙ c.in-Commit.is) f) c.take_commit.ensures.ok

pub returns-in-Commit-clause-cut : goal.returns-in-Commit-clause-cut
returns-in-Commit-clause-cut g c =
    IfErr-weaker c.take_commit.result _ _ (λ f h w k said number before e. h w k said number c.args.line.now before (sym c.kind_of.ensures.kind ∙ c.in-Commit.is) e) c.take_commit.ensures.cut

pub returns-in-Packet-clause-ok : goal.returns-in-Packet-clause-ok
returns-in-Packet-clause-ok g c =
    IfOk-weaker c.take_packet.result _ _ (λ code h w k said number before f. h w k said number before c.args.commits.now (sym c.kind_of.ensures.kind ∙ c.in-Packet.is) f) c.take_packet.ensures.ok

pub returns-in-Packet-clause-cut : goal.returns-in-Packet-clause-cut
returns-in-Packet-clause-cut g c =
    IfErr-weaker c.take_packet.result _ _ (λ f h w k said number before e. h w k said number before c.args.commits.now (sym c.kind_of.ensures.kind ∙ c.in-Packet.is) e) c.take_packet.ensures.cut

-- A line by its kind.
use Rattle.std.proofs.Common.{◌≡◌, ℕ, List, Option, None, sym, ◌∙◌, subst}
use Rattle.std.proofs.lemmas.Result.{IfOk-weaker}
use Rattle.rmt_io.specs.Outside.{SinkState}
use Rattle.rmt_ast.specs.declared.program.Program.{Program}
use Rattle.rmt_ast.specs.declared.entry.Entry.{Entry}
use Rattle.rmt_packets.specs.declared.line_kind.LineKind.{LineKind}
use Rattle.rmt_packets.specs.declared.line_kind.LineKind.TheVariants as line
use Rattle.rmt_packets.specs.LineKinds.{kind_of}
use Rattle.rmt_packets.specs.PacketText.{packet_of}
use Rattle.rmt_lists.specs.Running.{line_change}
use Rattle.rmt_drive.specs.declared.plain_run.PlainRun.{PlainRun}
use Rattle.rmt_drive.specs.EventText.{EventReading, with_change, with_line, with_packet}
use Rattle.rmt_drive.specs.PlainRunning.{Goes, Leaves}
use Rattle.rmt_drive.proofs.EventTextLaws.{addition_changes, removal_changes}
use Rattle.rmt_drive.proofs.plain_run.line.take.Goals as goal

-- what a line of a kind leaves is what the line does
abbrev LeavesBy : (ℕ → EventReading → EventReading) → PlainRun → PlainRun → Option ℕ → Type 0
LeavesBy step old new code =
    (p : Program) (lists : List (List Entry)) (said : EventReading) (number : ℕ) (before now : SinkState) → Goes p lists said old before now → Leaves p lists number said (step number said) new before now code

of_kind : (text : List ℕ) (kind : LineKind) (old new : PlainRun) (code : Option ℕ) → kind_of text ≡ kind → LeavesBy (λ n said. with_line n text kind said) old new code
    → LeavesBy (λ n said. with_line n text (kind_of text) said) old new code
of_kind text kind old new code is h p lists said number before now g =
    subst (λ (k : LineKind). Leaves p lists number said (with_line number text k said) new before now code) (sym is) (h p lists said number before now g)

pub take_change-requires-clause-change : goal.take_change-requires-clause-change
take_change-requires-clause-change c = addition_changes c.args.line.now (sym c.kind_of.ensures.kind ∙ c.in-Addition.is)

pub take_change-requires-in-Removal-clause-change : goal.take_change-requires-in-Removal-clause-change
take_change-requires-in-Removal-clause-change c = removal_changes c.args.line.now (sym c.kind_of.ensures.kind ∙ c.in-Removal.is)

pub returns-in-Addition-clause-ok : goal.returns-in-Addition-clause-ok
returns-in-Addition-clause-ok c =
    let text = c.args.line.now in
    IfOk-weaker c.take_change.result
    (LeavesBy (λ n said. with_change n text (line_change said.run text) said) c.args.run.now c.take_change.new.run)
    (LeavesBy (λ n said. with_line n text (kind_of text) said) c.args.run.now c.take_change.new.run)
    (λ code h. of_kind text line.Addition c.args.run.now c.take_change.new.run code (sym c.kind_of.ensures.kind ∙ c.in-Addition.is) h) c.take_change.ensures.ok

pub returns-in-Removal-clause-ok : goal.returns-in-Removal-clause-ok
returns-in-Removal-clause-ok c =
    let text = c.args.line.now in
    IfOk-weaker c.take_change-in-Removal.result
    (LeavesBy (λ n said. with_change n text (line_change said.run text) said) c.args.run.now c.take_change-in-Removal.new.run)
    (LeavesBy (λ n said. with_line n text (kind_of text) said) c.args.run.now c.take_change-in-Removal.new.run)
    (λ code h. of_kind text line.Removal c.args.run.now c.take_change-in-Removal.new.run code (sym c.kind_of.ensures.kind ∙ c.in-Removal.is) h) c.take_change-in-Removal.ensures.ok

pub returns-in_ok-take_commit-in-Commit-clause-ok : goal.returns-in_ok-take_commit-in-Commit-clause-ok
returns-in_ok-take_commit-in-Commit-clause-ok c =
    of_kind c.args.line.now line.Commit c.args.run.now c.take_commit.new.run None (sym c.kind_of.ensures.kind ∙ c.in-Commit.is)
    (λ p lists said number before now g. c.in_ok-take_commit-in-Commit.ensures.ok p lists said before now g)

pub returns-in-Packet-clause-ok : goal.returns-in-Packet-clause-ok
returns-in-Packet-clause-ok c =
    let text = c.args.line.now in
    IfOk-weaker c.take_packet.result
    (LeavesBy (λ n said. with_packet n (packet_of text) said) c.args.run.now c.take_packet.new.run)
    (LeavesBy (λ n said. with_line n text (kind_of text) said) c.args.run.now c.take_packet.new.run)
    (λ code h. of_kind text line.Packet c.args.run.now c.take_packet.new.run code (sym c.kind_of.ensures.kind ∙ c.in-Packet.is) h) c.take_packet.ensures.ok

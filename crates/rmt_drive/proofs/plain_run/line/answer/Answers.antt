-- The line of the answer waits.
use Rattle.std.proofs.Common.{◌++◌, ap, refl, ◌∙◌}
use Rattle.rmt_bits.specs.Packet.{Packet}
use Rattle.rmt_ast.specs.Changes.{at_first}
use Rattle.rmt_ast.specs.Events.{lists_from, met_from}
use Rattle.rmt_packets.specs.AnswerLine.{answer_line}
use Rattle.rmt_drive.specs.PlainRunning.{committed_by}
use Rattle.rmt_drive.proofs.PlainRunLaws.{goes_packet}
use Rattle.rmt_drive.proofs.plain_run.line.answer.Goals as goal

pub returns-in-Ok-write_answer-clause-ok : goal.returns-in-Ok-write_answer-clause-ok
returns-in-Ok-write_answer-clause-ok c = λ p lists said number before now h.
    let packet : Packet = record { port = c.args.port; frame = c.args.frame.now } in
    let old = c.args.run.now in
    let step = c.in-Ok.ensures.met p (lists_from (at_first lists) said.events) (committed_by lists said).lists (met_from (at_first lists) said.events) h.takes in
    goes_packet p lists said old _ before now number packet h step.0 refl refl (c.in-Ok-write_answer.ensures.line ∙ ap (λ a. old.waiting.lines.items ++ answer_line old.answered a) step.1)

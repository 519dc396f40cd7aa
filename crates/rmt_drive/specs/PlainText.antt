-- What a plain run prints of a packet text.
use Rattle.std.specs.Prelude.{ℕ, ◌+◌, List, [], ◌∷◌, ◌++◌, Option, Some, None}
use Rattle.std.specs.List.{flat_map}
use Rattle.rmt_bits.specs.declared.answer.Answer.{Answer}
use Rattle.rmt_ast.specs.declared.program.Program.{Program}
use Rattle.rmt_ast.specs.declared.entry.Entry.{Entry}
use Rattle.rmt_ast.specs.Events.{Event, answers_of_events, counts_of_events}
use Rattle.rmt_packets.specs.AnswerLine.{answer_line}
use Rattle.rmt_packets.specs.PacketText.{BadLine}
use Rattle.rmt_drive.specs.EventText.{EventReading}
use Rattle.rmt_drive.specs.SimText.{bad_packets_line, count_line}

-- a line for each answer, numbered from a number on
abbrev pub plain_lines : ℕ → List Answer → List ℕ
plain_lines n [] = []
plain_lines n (answer ∷ answers) = answer_line n answer ++ plain_lines (n + 1) answers

-- behind the answers the counters, or the last line for a bad line
abbrev pub plain_end : Program → List (List Entry) → List Event → Option BadLine → List ℕ
plain_end p lists events None = flat_map count_line (counts_of_events p lists events)
plain_end p lists events (Some bad) = bad_packets_line bad.code bad.line

-- what is printed for what a packet text says
abbrev pub plain_text : Program → List (List Entry) → EventReading → List ℕ
plain_text p lists reading = plain_lines 0 (answers_of_events p lists reading.events) ++ plain_end p lists reading.events (reading.bad)

-- A line is what its front is, and only a packet's line says a packet.
use Rattle.rmt_packets.proofs.KindLaws.{kind_of_front}
use Rattle.rmt_packets.proofs.line_kind.kind_of.Goals as goal

pub returns-then-begins_with-clause-front : goal.returns-then-begins_with-clause-front
returns-then-begins_with-clause-front c = kind_of_front c.args.line.now

pub returns-then-begins_with-2-clause-front : goal.returns-then-begins_with-2-clause-front
returns-then-begins_with-2-clause-front c = kind_of_front c.args.line.now

pub returns-then-eq-clause-front : goal.returns-then-eq-clause-front
returns-then-eq-clause-front c = kind_of_front c.args.line.now

pub returns-else-eq-clause-front : goal.returns-else-eq-clause-front
returns-else-eq-clause-front c = kind_of_front c.args.line.now

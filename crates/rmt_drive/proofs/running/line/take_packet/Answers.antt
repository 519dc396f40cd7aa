-- The line says a packet that enters, or has a code.
use Rattle.std.proofs.Common.{◌≡◌, ℕ, List, Result, Ok, Err, ap, sym, ◌∙◌, arith}
use Rattle.rmt_bits.specs.Packet.{Packet}
use Rattle.rmt_packets.specs.PacketText.{packet_of}
use Rattle.rmt_drive.specs.EventText.{with_packet}
use Rattle.rmt_drive.proofs.FaultLaws.{of_code}
use Rattle.rmt_drive.proofs.FollowsLaws.{few_packet, few_still, follows_packet, left_ahead, left_packet, of_packet, stops_by}
use Rattle.rmt_drive.proofs.TurnLaws.{few_numbered, may_enter}
use Rattle.rmt_drive.proofs.running.line.take_packet.Goals as goal

pub turn-requires-clause-may : goal.turn-requires-clause-may
turn-requires-clause-may g c =
    let few = c.requires.few in
    let frame = c.in-Ok.ensures.frame in (
      may_enter (record { port = c.in-Ok.port; bytes = c.as_slice.result }) c.in-Ok.ensures.port (rw c.as_slice.ensures.value frame.0) (rw c.as_slice.ensures.value frame.1),
      omega (arith, few.1, few.2.entered),
    )

pub turn-requires-clause-cycles : goal.turn-requires-clause-cycles
turn-requires-clause-cycles g c = let few = c.requires.few in omega (arith, few.1, few.2.cycles)

pub turn-requires-clause-answered : goal.turn-requires-clause-answered
turn-requires-clause-answered g c =
    let few = c.requires.few in
    let f = c.requires.follows in
    omega (arith, few.1, few.2.entered, few_numbered f.1.4.goes)

pub returns-in-Ok-turn-clause-ok : goal.returns-in-Ok-turn-clause-ok
returns-in-Ok-turn-clause-ok g c = λ w k said number before commits kind f.
    let packet : Packet = record { port = c.in-Ok.port; frame = c.as_slice.result.now } in
    let says : packet_of c.args.line.now ≡ Ok packet = c.in-Ok.ensures.packet ∙ sym (ap (λ (bytes : List ℕ). Ok (record { port = c.in-Ok.port; frame = bytes })) c.as_slice.ensures.value) in
    follows_packet w k number c.args.line.now said packet c.args.run.now c.turn.new.run c.args.chip.now c.turn.new.chip commits before (g.O.Sink.state c.args.out.now) (g.O.Sink.state c.turn.new.out) kind says f
    (c.in-Ok-turn.ensures.ok w k f.made before f.goes)

pub returns-in-Ok-turn-clause-few : goal.returns-in-Ok-turn-clause-few
returns-in-Ok-turn-clause-few g c = λ lines few.
    let packet : Packet = record { port = c.in-Ok.port; frame = c.as_slice.result.now } in
    let f = c.requires.follows in
    few_packet f.1.0 f.1.1 f.1.4.made c.args.run.now c.turn.new.run c.args.chip.now c.turn.new.chip f.1.3 (g.O.Sink.state c.args.out.now) (g.O.Sink.state c.turn.new.out) f.1.4.goes packet
    (c.in-Ok-turn.ensures.ok f.1.0 f.1.1 f.1.4.made f.1.3 f.1.4.goes) c.in-Ok-turn.ensures.cycles lines few

pub returns-in-Err-clause-cut : goal.returns-in-Err-clause-cut
returns-in-Err-clause-cut g c = λ w k said number before commits kind f.
    let packet : Packet = record { port = c.in-Ok.port; frame = c.as_slice.result.now } in
    let says : packet_of c.args.line.now ≡ Ok packet = c.in-Ok.ensures.packet ∙ sym (ap (λ (bytes : List ℕ). Ok (record { port = c.in-Ok.port; frame = bytes })) c.as_slice.ensures.value) in
    left_packet w k number c.args.line.now said packet c.args.run.now c.args.chip.now commits before (g.O.Sink.state c.args.out.now) (g.O.Sink.state c.turn.new.out) c.in-Err.fault kind says f
    (c.in-Err.ensures.cut w k f.made before f.goes)

pub returns-in-Err-Code-clause-ok : goal.returns-in-Err-Code-clause-ok
returns-in-Err-Code-clause-ok g c = λ w k said number before commits kind f.
    let text = c.args.line.now in
    let says = of_code (λ n. packet_of text ≡ Err n) c.in-Err-Code.field-0 c.in-Err-Code.code c.in-Err-Code.field-0-is c.in-Err-Code.ensures.code in
    stops_by w k number text said c.in-Err-Code.code c.args.run.now c.args.chip.now commits before (g.O.Sink.state c.args.out.now) f
    (of_packet k number text said kind ∙ ap (λ (o : Result Packet ℕ). with_packet number o said) says)

pub returns-in-Err-Code-clause-few : goal.returns-in-Err-Code-clause-few
returns-in-Err-Code-clause-few g c = λ lines few. few_still lines c.args.run.now c.args.chip.now few

pub returns-in-Err-NoMemory-clause-cut : goal.returns-in-Err-NoMemory-clause-cut
returns-in-Err-NoMemory-clause-cut g c = λ w k said number before commits kind f.
    left_ahead w k number c.args.line.now said c.args.run.now c.args.chip.now commits before (g.O.Sink.state c.args.out.now) _ (λ e. cc) f

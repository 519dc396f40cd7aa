-- The line says a packet, or has a code.
use Rattle.std.proofs.Common.{◌≡◌, ℕ, List, Result, Ok, Err, ap, sym, ◌∙◌, subst}
use Rattle.rmt_bits.specs.Packet.{Packet}
use Rattle.rmt_packets.specs.PacketText.{packet_of}
use Rattle.rmt_drive.specs.EventText.{with_packet}
use Rattle.rmt_drive.specs.PlainRunning.{Goes}
use Rattle.rmt_drive.proofs.FaultLaws.{of_code}
use Rattle.rmt_drive.proofs.plain_run.line.take_packet.Goals as goal

pub returns-in_ok-answer-in-Ok-clause-ok : goal.returns-in_ok-answer-in-Ok-clause-ok
returns-in_ok-answer-in-Ok-clause-ok c = λ p lists said number before now h.
    let says : Ok (record { port = c.in-Ok.port; frame = c.as_slice.result.now }) ≡ packet_of c.args.line.now =
    ap (λ (bytes : List ℕ). Ok (record { port = c.in-Ok.port; frame = bytes })) c.as_slice.ensures.value ∙ sym c.in-Ok.ensures.packet in
    subst (λ (o : Result Packet ℕ). Goes p lists (with_packet number o said) c.answer.new.run before now) says (c.in_ok-answer-in-Ok.ensures.ok p lists said number before now h)

pub returns-in-Err-Code-clause-ok : goal.returns-in-Err-Code-clause-ok
returns-in-Err-Code-clause-ok c = λ p lists said number before now h.
    let says = of_code (λ k. packet_of c.args.line.now ≡ Err k) c.in-Err-Code.field-0 c.in-Err-Code.code c.in-Err-Code.field-0-is c.in-Err-Code.ensures.code in
    rw c.in-Err-Code.field-0-is (ap (λ (o : Result Packet ℕ). with_packet number o said) says, h)

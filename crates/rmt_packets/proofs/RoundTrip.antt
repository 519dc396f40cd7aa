-- A packet that was written as a line is read back.
use Rattle.std.proofs.Common.{◌≡◌, ◌+◌, ◌*◌, ◌^◌, ◌<◌, ◌≤◌, refl, true, ◌&&◌, eqb, leb, ◌∷◌, length, drop, get_or, Ok, ap, ◌∙◌, arith}
use Rattle.std.specs.Fmt.{decimal}
use Rattle.std.proofs.Math.Seq.{drop-append-add, get_or-append_seam}
use Rattle.std.proofs.lemmas.Bool.{and_from, eq-eqb, le-leb}
use Rattle.std.proofs.lemmas.Fmt.{decimal_nonempty, length-decimal-le}
use Rattle.hex.specs.Hex.{IsBytes, decode_of, encode_lower, lower_digits}
use Rattle.hex.proofs.HexLemmas.{decode_of-encode_lower, length-encode_with}
use Rattle.rmt_bits.specs.Packet.{Packet}
use Rattle.rmt_bits.specs.Digits.{is_digit, number_of_digits}
use Rattle.rmt_bits.proofs.DigitLaws.{Says-decimal}
use Rattle.rmt_bits.proofs.ListLaws.{take_while-until}
use Rattle.rmt_packets.specs.PacketText.{begins_with_port, frame_digits, packet_of, packet_or_code, packet_text, port_digits}
use Rattle.rmt_packets.proofs.Packet.{decoded}

-- a packet that was written is read back
pub packet_of-packet_text : (p : Packet) → p.port < 512 → 1 ≤ length p.frame → length p.frame ≤ 9216 → IsBytes p.frame → packet_of (packet_text p) ≡ Ok p
packet_of-packet_text p low some few bytes =
    let n = p.port in
    let ds = decimal p.port in
    let hex = encode_lower p.frame in
    let small : p.port < 2 ^ 64 = omega arith in
    let pd : port_digits (packet_text p) ≡ decimal p.port = take_while-until is_digit ds 32 hex (Says-decimal n small).digits refl in
    let one = decimal_nonempty n small in
    let three = length-decimal-le 3 n (omega arith) (omega arith) small in
    let space = get_or-append_seam ds 32 hex 0 in
    let b : begins_with_port (packet_text p) ≡ true =
    rw pd (and_from (leb 1 (length ds) && leb (length ds) 10) (eqb (get_or (packet_text p) (length ds) 0) 32)
    (and_from (leb 1 (length ds)) (leb (length ds) 10) (le-leb 1 (length ds) one) (le-leb (length ds) 10 (omega arith)))
    (eq-eqb (get_or (packet_text p) (length ds) 0) 32 space)) in
    let f : frame_digits (packet_text p) ≡ encode_lower p.frame = ap (λ k. drop (k + 1) (packet_text p)) (ap length pd) ∙ drop-append-add ds (32 ∷ hex) 1 in
    let v : number_of_digits 10 (port_digits (packet_text p)) ≡ p.port = ap (number_of_digits 10) pd ∙ (Says-decimal n small).number in
    let l : length (frame_digits (packet_text p)) ≡ 2 * length p.frame = ap length f ∙ length-encode_with lower_digits p.frame in
    decoded (packet_text p) (Ok p.frame) b (omega (arith, v)) (omega (arith, l)) (omega (arith, l)) (ap decode_of f ∙ decode_of-encode_lower p.frame bytes)
    ∙ ap (λ m. packet_or_code m (Ok p.frame)) v

-- What a packet text says is packets that can come in.
use Rattle.std.proofs.Common.{◌≡◌, ℕ, ◌*◌, ◌≤◌, ◌<◌, Bool, true, false, cond, ltb, eqb, List, [], ◌∷◌, length, Result, Ok, Err, sym, refl, arith}
use Rattle.std.specs.Prelude.{All, ◌||◌}
use Rattle.std.proofs.lemmas.Bool.{ltb-false, eqb-false, or_parts}
use Rattle.std.proofs.lemmas.List.Elements.{All-cons, All-from_get_or, All-nil}
use Rattle.hex.specs.Hex.{decode_of}
use Rattle.hex.specs.declared.error.FromHexError.{FromHexError}
use Rattle.hex.proofs.HexLemmas.{decode_of-ok}
use Rattle.rmt_bits.specs.Packet.{IsPacket, Packet}
use Rattle.rmt_bits.specs.Digits.{number_of_digits}
use Rattle.rmt_bits.specs.Lines.{numbered_lines}
use Rattle.rmt_packets.specs.PacketText.{Reading, before, begins_with_port, frame_digits, packet_of, packet_or_code, packets_of, port_digits, reading_of}

-- a packet of a port and of what digits decode to
decoded : (port : ℕ) (digits : List ℕ) (r : Result (List ℕ) FromHexError) (p : Packet) → decode_of digits ≡ r → port ≤ 511 → length digits ≤ 18432 → (length digits ≡ 0 → ⊥)
    → packet_or_code port r ≡ Ok p → IsPacket p
decoded port digits (Err e) p is low few some told = cc
decoded port digits (Ok frame) p is low few some told =
    let same : record { port = port; frame = frame } ≡ p = cc in
    let d = decode_of-ok digits frame is in
    rw (sym same) (record {
      port_exists = omega arith;
      is_not_empty = not_empty (length frame) (length digits) d.2 some;
      is_not_long = omega (arith, d.2, few);
      has_bytes = All-from_get_or (λ b. b < 256) frame 0 (λ i _. d.3 i);
    })
  where
    not_empty : (n m : ℕ) → m ≡ 2 * n → (m ≡ 0 → ⊥) → 1 ≤ n
    not_empty n m twice not = grind arith

-- a line that passes the three tests
passed : (begins long bad : Bool) (port : ℕ) (digits : List ℕ) (p : Packet) → (long ≡ false → port ≤ 511) → (bad ≡ false → (length digits ≤ 18432) × (length digits ≡ 0 → ⊥))
    → cond begins (cond long (Err 2) (cond bad (Err 3) (packet_or_code port (decode_of digits)))) (Err 1) ≡ Ok p → IsPacket p
passed false long bad port digits p low few told = cc
passed true true bad port digits p low few told = cc
passed true false true port digits p low few told = cc
passed true false false port digits p low few told = decoded port digits (decode_of digits) p refl (low refl) (few refl).0 (few refl).1 told

sized : (n : ℕ) → (eqb n 0 || ltb 18432 n) ≡ false → (n ≤ 18432) × (n ≡ 0 → ⊥)
sized n e =
    let parts = or_parts (eqb n 0) (ltb 18432 n) e in
    (ltb-false 18432 n parts.1, eqb-false n 0 parts.0)

pub line_says : (line : List ℕ) (p : Packet) → packet_of line ≡ Ok p → IsPacket p
line_says line p told =
    passed (begins_with_port line) (ltb 511 (number_of_digits 10 (port_digits line))) (eqb (length (frame_digits line)) 0 || ltb 18432 (length (frame_digits line)))
    (number_of_digits 10 (port_digits line)) (frame_digits line) p (λ e. ltb-false 511 (number_of_digits 10 (port_digits line)) e) (sized (length (frame_digits line))) told

line_before : (number : ℕ) (line : List ℕ) (rest : Reading) (r : Result Packet ℕ) → packet_of line ≡ r → All IsPacket rest.packets → All IsPacket (before number r rest).packets
line_before number line rest (Ok packet) e all = All-cons IsPacket packet rest.packets (line_says line packet e) all
line_before number line rest (Err code) e all = All-nil IsPacket

lines_say : (lines : List (ℕ × List ℕ)) → All IsPacket (reading_of lines).packets
lines_say [] = All-nil IsPacket
lines_say (l ∷ ls) = line_before l.0 l.1 (reading_of ls) (packet_of l.1) refl (lines_say ls)

-- the packets that a text says can come in
pub text_says_packets : (text : List ℕ) → All IsPacket (packets_of text).packets
text_says_packets text = lines_say (numbered_lines 1 text)

-- What each step of reading a packet line says of its packet.
use Rattle.std.proofs.Common.{◌≡◌, ℕ, ◌<◌, ◌≤◌, true, false, eqb, ltb, List, length, Result, Err, arith}
use Rattle.std.proofs.lemmas.Bool.{lt-ltb, le-ltb, ne_eqb}
use Rattle.hex.specs.Hex.{decode_of}
use Rattle.hex.specs.declared.error.FromHexError.{FromHexError}
use Rattle.rmt_bits.specs.Digits.{number_of_digits}
use Rattle.rmt_packets.specs.PacketText.{begins_with_port, frame_digits, packet_of, packet_or_code, port_digits}

abbrev port : List ℕ → ℕ
port line = number_of_digits 10 (port_digits line)

pub form_fault : (line : List ℕ) → begins_with_port line ≡ false → packet_of line ≡ Err 1
form_fault line b = rw b

pub port_fault : (line : List ℕ) → begins_with_port line ≡ true → 511 < port line → packet_of line ≡ Err 2
port_fault line b p =
    let t : ltb 511 (port line) ≡ true = lt-ltb 511 (port line) p in
    rw (b, t)

pub length_fault : (line : List ℕ) → begins_with_port line ≡ true → port line ≤ 511 → 18432 < length (frame_digits line) → packet_of line ≡ Err 3
length_fault line b p l =
    let t : ltb 511 (port line) ≡ false = le-ltb 511 (port line) p in
    let z : eqb (length (frame_digits line)) 0 ≡ false = ne_eqb (length (frame_digits line)) 0 (λ e. omega arith) in
    let m : ltb 18432 (length (frame_digits line)) ≡ true = lt-ltb 18432 (length (frame_digits line)) l in
    rw (b, t, z, m)

-- a line whose frame has digits within its bounds
pub decoded : (line : List ℕ) (r : Result (List ℕ) FromHexError) → begins_with_port line ≡ true → port line ≤ 511 → 0 < length (frame_digits line) → length (frame_digits line) ≤ 18432
    → decode_of (frame_digits line) ≡ r → packet_of line ≡ packet_or_code (port line) r
decoded line r b p some few d =
    let t : ltb 511 (port line) ≡ false = le-ltb 511 (port line) p in
    let z : eqb (length (frame_digits line)) 0 ≡ false = ne_eqb (length (frame_digits line)) 0 (λ e. omega arith) in
    let m : ltb 18432 (length (frame_digits line)) ≡ false = le-ltb 18432 (length (frame_digits line)) few in
    rw (b, t, z, m, d)

-- What a packet text says: a port, one space and a frame in hexadecimal digits on each line.
use Rattle.std.specs.Prelude.{ℕ, Bool, List, [], ◌∷◌, ◌++◌, ◌+◌, ◌==◌, ◌&&◌, ◌||◌, nat_lt, nat_le, if◌then◌else◌, length, drop, slice_index, codes, Option, Some, None, Result, Ok, Err}
use Rattle.std.specs.List.{take_while}
use Rattle.std.specs.Fmt.{decimal}
use Rattle.hex.specs.Hex.{decode_of, encode_lower}
use Rattle.hex.specs.declared.error.FromHexError.{FromHexError}
use Rattle.rmt_bits.specs.Digits.{is_digit, number_of_digits}
use Rattle.rmt_bits.specs.Packet.{Packet}
use Rattle.rmt_bits.specs.Lines.{numbered_lines}

-- the decimal digits that a line begins with
abbrev pub port_digits : List ℕ → List ℕ
port_digits line = take_while is_digit line

-- a line that begins with 1 to 10 decimal digits and a space
abbrev pub begins_with_port : List ℕ → Bool
begins_with_port line = nat_le 1 (length (port_digits line)) && nat_le (length (port_digits line)) 10 && slice_index line (length (port_digits line)) == 32

-- what stands behind the port and its space
abbrev pub frame_digits : List ℕ → List ℕ
frame_digits line = drop (length (port_digits line) + 1) line

-- the packet of a port and of what its digits decode to
abbrev pub packet_or_code : ℕ → Result (List ℕ) FromHexError → Result Packet ℕ
packet_or_code port (Ok frame) = Ok (record { port = port; frame = frame })
packet_or_code port (Err e) = Err 1

-- the packet that a line says, or the code of its first fault: 1 its form, 2 its port, 3 its length
abbrev pub packet_of : List ℕ → Result Packet ℕ
packet_of line =
    if begins_with_port line then
    (if nat_lt 511 (number_of_digits 10 (port_digits line)) then Err 2
    else (if length (frame_digits line) == 0 || nat_lt 18432 (length (frame_digits line)) then Err 3
    else packet_or_code (number_of_digits 10 (port_digits line)) (decode_of (frame_digits line))))
    else Err 1

-- a line with a fault
pub record BadLine : Type 0 where
  pub code : ℕ
  pub line : ℕ

-- what a text says: the packets before its first bad line, and that line where there is one
pub record Reading : Type 0 where
  pub packets : List Packet
  pub bad : Option BadLine

-- a line before what the lines behind it say
abbrev pub before : ℕ → Result Packet ℕ → Reading → Reading
before number (Ok packet) rest = record { packets = packet ∷ rest.packets; bad = rest.bad }
before number (Err code) rest = record { packets = []; bad = Some (record { code = code; line = number }) }

-- what numbered lines say
abbrev pub reading_of : List (ℕ × List ℕ) → Reading
reading_of [] = record { packets = []; bad = None }
reading_of (l ∷ ls) = before l.0 (packet_of l.1) (reading_of ls)

-- what a packet text says
abbrev pub packets_of : List ℕ → Reading
packets_of text = reading_of (numbered_lines 1 text)

-- packets that were read, and then what the rest of the text says
abbrev pub behind : List Packet → Reading → Reading
behind done rest = record { packets = done ++ rest.packets; bad = rest.bad }

-- the line that says a packet, with digits of lower case
abbrev pub packet_text : Packet → List ℕ
packet_text packet = decimal packet.port ++ (codes " " ++ encode_lower packet.frame)

-- A packet text read line by line, for the loops of callers: the invariant is that
-- `packets_of text` is `behind` of the packets so far and of the numbered lines from here on.
use Rattle.std.proofs.Common.{◌≡◌, ℕ, List, [], ◌∷◌, ◌++◌, Option, Some, None, Result, Ok, Err, append_assoc, append-nil, refl, sym, ap, ◌∙◌}
use Rattle.rmt_bits.specs.Packet.{Packet}
use Rattle.rmt_packets.specs.PacketText.{BadLine, Reading, before, behind, packet_of, reading_of}

-- before the first line
pub behind_none : (rest : Reading) → behind [] rest ≡ rest
behind_none rest = refl

-- a line whose packet was read
pub behind_packet : (done : List Packet) (n : ℕ) (line : List ℕ) (p : Packet) (lines : List (ℕ × List ℕ)) → packet_of line ≡ Ok p
    → behind done (reading_of ((n, line) ∷ lines)) ≡ behind (done ++ p ∷ []) (reading_of lines)
behind_packet done n line p lines e = rw e (ap (λ ps. record { packets = ps; bad = (reading_of lines).bad }) (sym (append_assoc done (p ∷ []) (reading_of lines).packets)))

-- a line with a fault
pub behind_fault : (done : List Packet) (n : ℕ) (line : List ℕ) (code : ℕ) (lines : List (ℕ × List ℕ)) → packet_of line ≡ Err code
    → behind done (reading_of ((n, line) ∷ lines)) ≡ record { packets = done; bad = Some (record { code = code; line = n }) }
behind_fault done n line code lines e = rw e (ap (λ ps. record { packets = ps; bad = Some (record { code = code; line = n }) }) (append-nil done))

-- behind the last line
pub behind_end : (done : List Packet) → behind done (reading_of []) ≡ record { packets = done; bad = None }
behind_end done = ap (λ ps. record { packets = ps; bad = None }) (append-nil done)

-- what is read, and then what the lines behind it say, where none was bad
abbrev pub then : Option BadLine → List Packet → Reading → Reading
then None done rest = behind done rest
then (Some bad) done rest = record { packets = done; bad = Some bad }

before_then : (n : ℕ) (r : Result Packet ℕ) (bad : Option BadLine) (done : List Packet) (rest : Reading)
    → before n r (then bad done rest) ≡ then (before n r (record { packets = done; bad = bad })).bad (before n r (record { packets = done; bad = bad })).packets rest
before_then n (Ok p) None done rest = refl
before_then n (Ok p) (Some b) done rest = refl
before_then n (Err code) None done rest = refl
before_then n (Err code) (Some b) done rest = refl

-- lines that were read before others
pub reading_append : (lines more : List (ℕ × List ℕ)) → reading_of (lines ++ more) ≡ then (reading_of lines).bad (reading_of lines).packets (reading_of more)
reading_append [] more = refl
reading_append (l ∷ ls) more =
    ap (before l.0 (packet_of l.1)) (reading_append ls more) ∙ before_then l.0 (packet_of l.1) (reading_of ls).bad (reading_of ls).packets (reading_of more)

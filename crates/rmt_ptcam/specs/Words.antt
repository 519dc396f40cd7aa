-- Words of 32 bits over lookups, as the code reads and makes them. A lemma says that they are those of an entry's tests.
use Rattle.std.specs.Prelude.{ℕ, ◌+◌, ◌-◌, ◌*◌, ◌%◌, ◌^◌, List, [], ◌∷◌, ◌++◌, ◌==◌, nat_lt, if◌then◌else◌, map}
use Rattle.rmt_bits.specs.Bits.{slice}
use Rattle.rmt_ptcam.specs.Types.{ParserEntry}
use Rattle.rmt_config.specs.Parser.{high_bytes}
use Rattle.rmt_ptcam.specs.Joining.{moved, together}

-- the highest byte of 32 bits
abbrev pub first_byte : ℕ → ℕ
first_byte word = slice word 24 8

-- 32 bits without their highest byte, the others moved up
abbrev pub other_bytes : ℕ → ℕ
other_bytes word = word % 2 ^ 24 * 256

-- the byte of 32 bits that stands for an offset among lookups, of which the first has the highest byte; 0 where it isn't looked up
abbrev pub byte_at : List ℕ → ℕ → ℕ → ℕ
byte_at [] word offset = 0
byte_at (l ∷ ls) word offset = if l == offset then first_byte word else byte_at ls (other_bytes word) offset

-- 32 bits over some lookups as 32 bits over others, with 0 at those that are new
abbrev pub spread : List ℕ → List ℕ → ℕ → ℕ
spread from to word = high_bytes (map (byte_at from word) to)

-- the byte for an offset, of 32 bits over here, and of others over lookups that begin so many bytes behind
abbrev pub byte_of_both : List ℕ → ℕ → List ℕ → ℕ → ℕ → ℕ → ℕ
byte_of_both here bytes there x y offset = if nat_lt offset bytes then byte_at here x offset else byte_at there y (offset - bytes)

-- both as 32 bits over the lookups together
abbrev pub both : List ℕ → ℕ → List ℕ → ℕ → ℕ → ℕ
both here bytes there x y = high_bytes (map (byte_of_both here bytes there x y) (together here bytes there))

-- an entry over more lookups
abbrev pub spread_entry : List ℕ → List ℕ → ParserEntry → ParserEntry
spread_entry from to e = record e { value = spread from to e.value; mask = spread from to e.mask }

-- an entry joined to one of the next state
abbrev pub entry_of_both : List ℕ → List ℕ → ParserEntry → ParserEntry → ParserEntry
entry_of_both here there e f = record {
  state = e.state;
  value = both here e.advance there e.value f.value;
  mask = both here e.advance there e.mask f.mask;
  need = e.need + f.need;
  advance = e.advance + f.advance;
  next = f.next;
  extracts = e.extracts ++ map (moved e.advance) f.extracts;
}

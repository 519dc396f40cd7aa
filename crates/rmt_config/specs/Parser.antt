-- The chip's parser: states, lookup bytes, extracts and tails (Gibb et al. 2013: a programmable parser).
use Rattle.std.specs.Prelude.{ℕ, zero, suc, ◌+◌, ◌*◌, ◌-◌, List, [], ◌∷◌, ◌++◌, ◌&&◌, ◌==◌, bit_and, nat_lt, if◌then◌else◌, Option, Some, None, find, position, fold, map, take, drop, length, slice_get, slice_index, slice_set, replicate}
use Rattle.rmt_bits.specs.Bits.{deposit, bits_of_bytes}
use Rattle.rmt_bits.specs.declared.lane.Lane.{Lane}
use Rattle.rmt_config.specs.Types.{ParserConfig, ParserState, ParserEntry, Next, Extract, TailOf}
use Rattle.rmt_config.specs.declared.config.Next.TheVariants as next
use Rattle.rmt_config.specs.declared.config.Extract.TheVariants.{Bits, One}
use Rattle.rmt_config.specs.declared.tails.TailAt.{TailAt}

-- where a tail stands that has no bytes
abbrev pub no_tail : TailAt
no_tail = record { place = 0; len = 0 }

-- how far the parser has come: the vector, where the tail of each of 64 headers stands in the frame, and the byte at which it stands
pub record Reached : Type 0 where
  pub vector : List ℕ
  pub tails : List TailAt
  pub at : ℕ

-- how the parser ends; of an accepted frame the payload begins at the byte that was reached
pub data Parse : Type 0 where
  Short : Parse
  Reject : Parse
  Accept : (reached : Reached) → Parse

-- a vector with a lane replaced
abbrev pub put : List ℕ → Lane → ℕ → List ℕ
put vector lane x = slice_set vector lane.word (deposit (slice_index vector lane.word) lane.low lane.len x)

-- up to four bytes as the high bytes of 32 bits
abbrev pub high_bytes : List ℕ → ℕ
high_bytes bytes = fold (λ n b. 256 * n + b) 0 (take 4 (bytes ++ 0 ∷ 0 ∷ 0 ∷ 0 ∷ []))

-- the lookup bytes of a state; a byte past the end reads as 0
abbrev pub lookup_value : List ℕ → ℕ → ParserState → ℕ
lookup_value frame at s = high_bytes (map (λ offset. slice_index frame (at + offset)) s.lookups)

-- the same of a state, if there is one
abbrev pub value_at : List ℕ → ℕ → Option ParserState → ℕ
value_at frame at None = 0
value_at frame at (Some s) = lookup_value frame at s

-- the number of the first entry of a state that agrees with the lookup bytes on its mask
abbrev pub entry_of : ParserConfig → ℕ → ℕ → Option ℕ
entry_of parser state value = position (λ (e : ParserEntry). (e.state == state) && (bit_and value e.mask == e.value)) parser.entries

-- the tail of the entry with that number, where it has one
abbrev pub tail_of : ParserConfig → ℕ → Option TailOf
tail_of parser n = find (λ (t : TailOf). t.entry == n) parser.tails

-- a vector after an extract: bits of the window, which begins at the cursor, or the bit 1
abbrev pub extracted : List ℕ → List ℕ → Extract → List ℕ
extracted window vector (Bits from lane) = put vector lane (bits_of_bytes window from lane.len)
extracted window vector (One lane) = put vector lane 1

-- behind the bytes of an entry: its extracts are done on the window, the bytes that it needs
abbrev pub behind : List ℕ → ParserEntry → Reached → Reached
behind window e r = record r { vector = fold (extracted window) r.vector e.extracts; at = r.at + e.advance }

-- behind a tail of so many bytes, which replaces an earlier one of its header
abbrev pub behind_tail : ℕ → ℕ → Reached → Reached
behind_tail header len r = record r { tails = slice_set r.tails header (record { place = r.at; len = len }); at = r.at + len }

-- the length of a tail: value * unit - base bytes, and none where these are fewer than 0
abbrev pub tail_length : ℕ → ℕ → ℕ → Option ℕ
tail_length value unit base = if nat_lt (value * unit) base then None else Some (value * unit - base)

-- past a tail of that length, where so many bytes are left behind those that the entry needs
abbrev pub past_length : (Reached → Parse) → ℕ → ℕ → Option ℕ → Reached → Parse
past_length goes left header None r = Reject
past_length goes left header (Some len) r = if nat_lt left len then Short else goes (behind_tail header len r)

-- past the tail of an entry, where it has one; packet bits in the window tell its length
abbrev pub past_tail : (Reached → Parse) → List ℕ → ℕ → Option TailOf → Reached → Parse
past_tail goes window left None r = goes r
past_tail goes window left (Some t) r =
    past_length goes left t.header (tail_length (bits_of_bytes window t.from t.len) t.unit t.base) r

-- where the parser goes; goes parses on from a state
abbrev pub follow : (ℕ → Reached → Parse) → Next → Reached → Parse
follow goes next.Accept r = Accept r
follow goes next.Reject r = Reject
follow goes (next.State s) r = goes s r

-- one entry with its tail, from the byte that was reached; without an entry the frame is rejected
abbrev pub step : (ℕ → Reached → Parse) → List ℕ → Option TailOf → Option ParserEntry → Reached → Parse
step goes frame tail None r = Reject
step goes frame tail (Some e) r =
    let window = take e.need (drop r.at frame) in
    if nat_lt (length frame) (r.at + e.need) then Short
    else past_tail (follow goes e.next) window (length frame - (r.at + e.need)) tail (behind window e r)

-- the entry with that number; without one the frame is rejected
abbrev pub taken : (ℕ → Reached → Parse) → ParserConfig → List ℕ → Option ℕ → Reached → Parse
taken goes parser frame None r = Reject
taken goes parser frame (Some n) r = step goes frame (tail_of parser n) (slice_get parser.entries n) r

-- from a state on, over at most that many states
abbrev pub parse_from : ℕ → ParserConfig → List ℕ → ℕ → Reached → Parse
parse_from zero parser frame state r = Reject
parse_from (suc states) parser frame state r =
    taken (parse_from states parser frame) parser frame
    (entry_of parser state (value_at frame r.at (slice_get parser.states state))) r

-- at first every word is 0, and every tail is empty
abbrev pub begin : Reached
begin = record { vector = replicate 224 0; tails = replicate 64 no_tail; at = 0 }

-- each entry goes to a greater state, so no frame meets more states than the parser has
abbrev pub parse : ParserConfig → List ℕ → Parse
parse parser frame = parse_from (length parser.states) parser frame 0 begin

-- The rules of form on tails of entries of the parser.
use Rattle.std.specs.Prelude.{◌+◌, ◌*◌, ◌-◌, ◌^◌, Bool, false, ◌&&◌, ◌||◌, ◌==◌, nat_lt, nat_le, Option, Some, None, is_some, length, map, slice_get}
use Rattle.std.specs.List.{list_all}
use Rattle.rmt_config.specs.Types.{Config, ParserConfig, ParserEntry, TailOf}
use Rattle.rmt_config.specs.Order.{rises_from}

-- the field that tells a tail's length has 1 to 8 bits, and lies in the bytes that its entry needs
abbrev pub has_length_field : ParserEntry → TailOf → Bool
has_length_field e t = nat_le 1 t.len && nat_le t.len 8 && nat_le (t.from + t.len) (8 * e.need)

-- the greatest length, of a field whose bits are all 1, is 0 to 64 bytes
abbrev pub has_greatest_length : TailOf → Bool
has_greatest_length t = nat_le t.base ((2 ^ t.len - 1) * t.unit) && nat_le ((2 ^ t.len - 1) * t.unit) (t.base + 64)

-- a tail of an entry, which moves the cursor behind all that it needs, and of one of 64 headers
abbrev pub is_tail_of : TailOf → Option ParserEntry → Bool
is_tail_of t None = false
is_tail_of t (Some e) =
    nat_lt t.header 64 && has_length_field e t && nat_le 1 t.unit && nat_lt t.unit 256 && nat_lt t.base 256 && has_greatest_length t
    && (e.advance == e.need)

-- tails stand by rising entry
abbrev pub tails_are_formed : ParserConfig → Bool
tails_are_formed p =
    rises_from 0 (map (λ (t : TailOf). t.entry) p.tails) && nat_lt (length p.tails) 65536
    && list_all (λ (t : TailOf). is_tail_of t (slice_get p.entries t.entry)) p.tails

-- each tail is of a header that a packet may be sent with
abbrev pub tails_have_headers : Config → Bool
tails_have_headers c = list_all (λ (t : TailOf). nat_lt t.header (length c.headers)) c.parser.tails

-- a configuration with a tail has names
abbrev pub has_names_with_tails : Config → Bool
has_names_with_tails c = (length c.parser.tails == 0) || is_some c.names

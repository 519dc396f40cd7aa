-- Reading the tails of an image's parser from their front: each rule as soon as the last number that it speaks of is read.
use Rattle.std.specs.Prelude.{ℕ, ◌+◌, ◌*◌, ◌-◌, ◌^◌, ◌==◌, nat_le, Bool, false, ◌&&◌, List, Option, Some, None, option_map, unwrap_or, slice_get}
use Rattle.rmt_items.specs.Types.{ParserEntry, TailOf}
use Rattle.rmt_items.specs.Readers.{Reader, behind, ◌⊗◌, made, kept, items_at, listed, at_least, below, byte_at, number_at}

-- an entry that moves the cursor behind all that it needs
abbrev pub may_have_tail : Option ParserEntry → Bool
may_have_tail None = false
may_have_tail (Some e) = e.advance == e.need

-- the bytes that an entry needs
abbrev pub need_of : List ParserEntry → ℕ → ℕ
need_of entries entry = unwrap_or (option_map (λ (e : ParserEntry). e.need) (slice_get entries entry)) 0

-- the entry of a tail, at least that number
unfoldable pub tail_entry_at : List ParserEntry → ℕ → Reader ℕ
tail_entry_at entries least bytes = kept (λ n. nat_le least n && may_have_tail (slice_get entries n)) (number_at 2) bytes

abbrev pub field_fits : ℕ → ℕ × ℕ → Bool
field_fits need x = nat_le 1 x.1 && nat_le x.1 8 && nat_le (x.0 + x.1) (8 * need)

-- the field that tells a tail's length: its first bit and its bits
unfoldable pub field_at : ℕ → Reader (ℕ × ℕ)
field_at need bytes = kept (field_fits need) (number_at 2 ⊗ byte_at) bytes

abbrev pub lengths_fit : ℕ → ℕ × ℕ → Bool
lengths_fit len x = nat_le x.1 ((2 ^ len - 1) * x.0) && nat_le ((2 ^ len - 1) * x.0) (x.1 + 64)

-- the unit and the base of lengths, which a field of that many bits tells
unfoldable pub lengths_at : ℕ → Reader (ℕ × ℕ)
lengths_at len bytes = kept (lengths_fit len) (kept (at_least 1) byte_at ⊗ byte_at) bytes

abbrev pub tail_of_parts : ℕ × (ℕ × ((ℕ × ℕ) × (ℕ × ℕ))) → TailOf
tail_of_parts x = record {
  entry = x.0;
  header = x.1.0;
  from = x.1.1.0.0;
  len = x.1.1.0.1;
  unit = x.1.1.1.0;
  base = x.1.1.1.1;
}

-- a tail of one of the entries, at least that number, and of one of that many headers
unfoldable pub tail_at : List ParserEntry → ℕ → ℕ → Reader TailOf
tail_at entries headers least bytes =
    made tail_of_parts
    (behind (tail_entry_at entries least) (λ entry. kept (below headers) byte_at ⊗ behind (field_at (need_of entries entry)) (λ field. lengths_at field.1))) bytes

abbrev pub next_entry : TailOf → ℕ
next_entry t = t.entry + 1

-- at least one tail
unfoldable pub tails_at : List ParserEntry → ℕ → Reader (List TailOf)
tails_at entries headers bytes = listed (kept (at_least 1) (number_at 2)) (items_at (tail_at entries headers) next_entry 0) bytes

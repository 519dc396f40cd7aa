-- Parsers with tails, and packets that are sent with them.
use Rattle.std.specs.Prelude.{◌≡◌, ℕ, List, [], ◌∷◌, ◌++◌, Some, None, replicate, refl}
use Rattle.rmt_bits.specs.declared.answer.Verdict.TheVariants as verdict
use Rattle.rmt_config.specs.Types.{Config, TailOf}
use Rattle.rmt_config.specs.declared.config.Next.TheVariants as next
use Rattle.rmt_config.specs.declared.config.Extract.TheVariants.{Bits, One}
use Rattle.rmt_config.specs.Parser.{parse, entry_of, tail_of, tail_length, no_tail, Accept, Reject, Short}
use Rattle.rmt_config.specs.ChipRun.{outcomes_of}
use Rattle.rmt_config.proofs.ExamplesParts.{packet, lane, sent, one_byte, two_headers_of}

-- a length that is above 0, one of 0, and one that would be below
pub tail_length_above : tail_length 2 4 4 ≡ Some 4
tail_length_above = refl

pub tail_length_none : tail_length 1 4 4 ≡ Some 0
tail_length_none = refl

pub tail_length_below : tail_length 0 4 4 ≡ None
tail_length_below = refl

-- a header of one byte, the high half of which tells its tail: 4 bytes for each 1, less 4
abbrev pub with_tail : Config
with_tail =
    let plain = one_byte [] in
    record plain { parser = record plain.parser { tails = record { entry = 0; header = 0; from = 0; len = 4; unit = 4; base = 4 } ∷ [] } }

-- a tail of 4 bytes, and a byte of payload
pub with_tail_reaches : parse with_tail.parser (0x2f ∷ 1 ∷ 2 ∷ 3 ∷ 4 ∷ 5 ∷ [])
    ≡ Accept (record { vector = 2 ∷ 0x2f ∷ replicate 222 0; tails = record { place = 1; len = 4 } ∷ replicate 63 no_tail; at = 5 })
with_tail_reaches = refl

pub with_tail_run : outcomes_of with_tail (packet 0 (0x2f ∷ 1 ∷ 2 ∷ 3 ∷ 4 ∷ 5 ∷ []) ∷ []) ≡ sent 0 (0x2f ∷ 1 ∷ 2 ∷ 3 ∷ 4 ∷ 5 ∷ []) [] ∷ []
with_tail_run = refl

-- one that is cut, and one of which nothing is there
pub with_tail_cut : parse with_tail.parser (0x2f ∷ 1 ∷ 2 ∷ 3 ∷ []) ≡ Short
with_tail_cut = refl

pub with_tail_missing : parse with_tail.parser (0x2f ∷ []) ≡ Short
with_tail_missing = refl

-- one of fewer than 0 bytes, however much is there
pub with_tail_negative : parse with_tail.parser (0x0f ∷ 1 ∷ 2 ∷ 3 ∷ 4 ∷ []) ≡ Reject
with_tail_negative = refl

-- an empty one: the payload begins behind the header
pub with_tail_empty : parse with_tail.parser (0x1f ∷ 1 ∷ [])
    ≡ Accept (record { vector = 2 ∷ 0x1f ∷ replicate 222 0; tails = record { place = 1; len = 0 } ∷ replicate 63 no_tail; at = 1 })
with_tail_empty = refl

pub with_tail_empty_run : outcomes_of with_tail (packet 0 (0x1f ∷ 1 ∷ []) ∷ packet 0 (0x0f ∷ []) ∷ [])
    ≡ sent 0 (0x1f ∷ 1 ∷ []) [] ∷ record { verdict = verdict.Reject; bytes = []; counted = [] } ∷ []
with_tail_empty_run = refl

-- a frame that lacks bytes of the header itself is short before its tail is looked at
pub with_tail_no_header : parse with_tail.parser [] ≡ Short
with_tail_no_header = refl

-- a byte tells a tail of as many bytes
abbrev tail_of_byte : ℕ → ℕ → TailOf
tail_of_byte entry header = record { entry = entry; header = header; from = 0; len = 8; unit = 1; base = 0 }

-- two headers of a byte in words 1 and 2, with valid bits 1 and 2 of word 0, one behind the other, and these tails
abbrev two_tails : List TailOf → Config
two_tails tails =
    two_headers_of 1 (lane 2 0 8)
    (record { state = 0; value = 0xff000000; mask = 0xff000000; need = 1; advance = 1; next = next.Accept; extracts = Bits 0 (lane 1 0 8) ∷ [] }
    ∷ record { state = 0; value = 0; mask = 0; need = 1; advance = 1; next = next.State 1; extracts = One (lane 0 1 1) ∷ Bits 0 (lane 1 0 8) ∷ [] }
    ∷ record { state = 1; value = 0; mask = 0; need = 1; advance = 1; next = next.Accept; extracts = One (lane 0 2 1) ∷ Bits 0 (lane 2 0 8) ∷ [] } ∷ [])
    tails

-- the second entry is the first that matches, and its number finds its tail
pub two_tails_entry : entry_of (two_tails []).parser 0 0x02000000 ≡ Some 1
two_tails_entry = refl

pub two_tails_tail : tail_of (two_tails (tail_of_byte 1 0 ∷ tail_of_byte 2 1 ∷ [])).parser 1 ≡ Some (tail_of_byte 1 0)
two_tails_tail = refl

pub two_tails_no_tail : tail_of (two_tails (tail_of_byte 1 0 ∷ tail_of_byte 2 1 ∷ [])).parser 0 ≡ None
two_tails_no_tail = refl

-- each header is sent with its own tail behind it
pub two_tails_run : outcomes_of (two_tails (tail_of_byte 1 0 ∷ tail_of_byte 2 1 ∷ [])) (packet 0 (2 ∷ 7 ∷ 8 ∷ 1 ∷ 9 ∷ 10 ∷ []) ∷ [])
    ≡ sent 0 (2 ∷ 7 ∷ 8 ∷ 1 ∷ 9 ∷ 10 ∷ []) [] ∷ []
two_tails_run = refl

-- both entries have a tail of the first header: the later one stands, and the earlier one's bytes are not sent
pub replaced_reaches : parse (two_tails (tail_of_byte 1 0 ∷ tail_of_byte 2 0 ∷ [])).parser (2 ∷ 7 ∷ 8 ∷ 1 ∷ 9 ∷ 10 ∷ [])
    ≡ Accept (record { vector = 6 ∷ 2 ∷ 1 ∷ replicate 221 0; tails = record { place = 4; len = 1 } ∷ replicate 63 no_tail; at = 5 })
replaced_reaches = refl

pub replaced_run : outcomes_of (two_tails (tail_of_byte 1 0 ∷ tail_of_byte 2 0 ∷ [])) (packet 0 (2 ∷ 7 ∷ 8 ∷ 1 ∷ 9 ∷ 10 ∷ []) ∷ packet 0 (2 ∷ 7 ∷ 8 ∷ 0 ∷ 10 ∷ []) ∷ [])
    ≡ sent 0 (2 ∷ 9 ∷ 1 ∷ 10 ∷ []) [] ∷ sent 0 (2 ∷ 0 ∷ 10 ∷ []) [] ∷ []
replaced_run = refl

-- a header that is not valid takes its tail with it: here the first entry sets no valid bit
pub not_valid_run : outcomes_of (two_tails (tail_of_byte 0 0 ∷ [])) (packet 0 (255 ∷ replicate 255 7 ++ 8 ∷ []) ∷ []) ≡ sent 0 (8 ∷ []) [] ∷ []
not_valid_run = refl

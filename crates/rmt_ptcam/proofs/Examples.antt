-- Plain parsers that are worked by hand.
use Rattle.std.proofs.Common.{◌≡◌, ◌++◌, ℕ, List, [], ◌∷◌, None, Some, map, refl}
use Rattle.rmt_bits.specs.declared.lane.Lane.{Lane}
use Rattle.rmt_ast.proofs.Programs.{two_headers, tail_between}
use Rattle.rmt_ptcam.specs.Types.{Program, Header}
use Rattle.rmt_ast.specs.declared.program.Target.TheVariants as target
use Rattle.rmt_ast.proofs.Programs.{field, with_fields, header}
use Rattle.std.specs.Prelude.{codes, replicate}
use Rattle.std.specs.List.{range_with_len}
use Rattle.rmt_config.specs.declared.config.Next.TheVariants as next
use Rattle.rmt_config.specs.declared.config.Extract.TheVariants.{Bits, One}
use Rattle.rmt_ptcam.specs.declared.fault.ParserFault.TheVariants.{LookupWide, StepWide}
use Rattle.rmt_ptcam.specs.Needs.{place_in, lookups_of, extract_count, refusal}
use Rattle.rmt_ptcam.specs.Plain.{plain, looked_up, extracts_of}
use Rattle.rmt_config.specs.Parser.{parse, Accept, Reject, Short, no_tail}
use Rattle.rmt_config.specs.ChipRun.{tail_bytes}
use Rattle.rmt_ast.specs.Places.{lanes_of}
use Rattle.rmt_config.specs.Agreement.{held_in}
use Rattle.rmt_ast.specs.Walk.{walk}
use Rattle.rmt_ast.specs.Walk as walks

abbrev pub lane : ℕ → ℕ → ℕ → Lane
lane word low len = record { word = word; low = low; len = len }

-- in_port, out_port, drop, h.valid, h.k, g.valid, g.x; h.k shares its word with drop
abbrev pub places : List (List Lane)
places =
    (lane 64 0 9 ∷ []) ∷ (lane 65 0 9 ∷ []) ∷ (lane 160 0 1 ∷ []) ∷ (lane 0 0 1 ∷ [])
    ∷ (lane 160 1 8 ∷ []) ∷ (lane 1 0 1 ∷ []) ∷ (lane 66 0 16 ∷ []) ∷ []

-- 1 goes to g, 2 on the mask 3 is accepted, 255 is rejected, and all else accepted; g takes two bytes
two_headers_entries : (plain two_headers places).entries
    ≡ record { state = 0; value = 0x01000000; mask = 0xff000000; need = 1; advance = 1; next = next.State 1; extracts = One (lane 0 0 1) ∷ Bits 0 (lane 160 1 8) ∷ [] }
    ∷ record { state = 0; value = 0x02000000; mask = 0x03000000; need = 1; advance = 1; next = next.Accept; extracts = One (lane 0 0 1) ∷ Bits 0 (lane 160 1 8) ∷ [] }
    ∷ record { state = 0; value = 0xff000000; mask = 0xff000000; need = 1; advance = 1; next = next.Reject; extracts = One (lane 0 0 1) ∷ Bits 0 (lane 160 1 8) ∷ [] }
    ∷ record { state = 0; value = 0; mask = 0; need = 1; advance = 1; next = next.Accept; extracts = One (lane 0 0 1) ∷ Bits 0 (lane 160 1 8) ∷ [] }
    ∷ record { state = 1; value = 0; mask = 0; need = 2; advance = 2; next = next.Accept; extracts = One (lane 1 0 1) ∷ Bits 0 (lane 66 0 16) ∷ [] }
    ∷ []
two_headers_entries = refl

two_headers_states : (plain two_headers places).states ≡ record { lookups = 0 ∷ [] } ∷ record { lookups = [] } ∷ []
two_headers_states = refl

two_headers_need : refusal two_headers ≡ None
two_headers_need = refl

-- a tail for the one entry of the first header
tail_between_tails : (plain tail_between places).tails ≡ record { entry = 0; header = 0; from = 0; len = 8; unit = 1; base = 0 } ∷ []
tail_between_tails = refl

-- header h { a : 4; b : 12; c : 40; d : 8; } that selects by d and b: bytes 0, 1 and 7; c has two pieces, the rest of 8 bits high
abbrev straddling : Header
straddling = record (header (4 ∷ 5 ∷ 6 ∷ 7 ∷ []) 8) {
  select = 7 ∷ 5 ∷ [];
  cases = record { tests = record { value = 0xab; mask = 0xff } ∷ record { value = 0x103; mask = 0xf0f } ∷ []; target = target.Reject } ∷ [];
}

abbrev wide : Program
wide = record two_headers {
  fields = with_fields (field (codes "h.a") 4 ∷ field (codes "h.b") 12 ∷ field (codes "h.c") 40 ∷ field (codes "h.d") 8 ∷ []);
  headers = straddling ∷ [];
}

straddling_places : place_in wide straddling.fields 7 ≡ 56
straddling_places = refl

straddling_lookups : lookups_of wide straddling ≡ 0 ∷ 1 ∷ 7 ∷ []
straddling_lookups = refl

straddling_value : looked_up wide straddling (0xab ∷ 0x103 ∷ []) ≡ 0x0103ab00
straddling_value = refl

straddling_mask : looked_up wide straddling (0xff ∷ 0xf0f ∷ []) ≡ 0x0f0fff00
straddling_mask = refl

-- valid, a, b, the two pieces of c, and d
straddling_count : extract_count wide straddling ≡ 6
straddling_count = refl

straddling_extracts : extracts_of ((lane 64 0 9 ∷ []) ∷ (lane 65 0 9 ∷ []) ∷ (lane 0 0 1 ∷ []) ∷ (lane 1 0 1 ∷ []) ∷ (lane 2 0 4 ∷ []) ∷ (lane 66 0 12 ∷ []) ∷ (lane 160 0 32 ∷ lane 3 0 8 ∷ []) ∷ (lane 4 0 8 ∷ []) ∷ []) straddling
    ≡ One (lane 1 0 1) ∷ Bits 0 (lane 2 0 4) ∷ Bits 4 (lane 66 0 12) ∷ Bits 16 (lane 3 0 8) ∷ Bits 24 (lane 160 0 32) ∷ Bits 56 (lane 4 0 8) ∷ []
straddling_extracts = refl

-- two fields of 24 bits at byte borders touch 6 bytes
wide_lookup : refusal (record two_headers {
  fields = with_fields (field (codes "h.a") 24 ∷ field (codes "h.b") 24 ∷ []);
  headers = record (header (4 ∷ 5 ∷ []) 6) { select = 4 ∷ 5 ∷ [] } ∷ [];
}) ≡ Some (LookupWide 0 6)
wide_lookup = refl

-- 64 fields of 8 bits and valid
wide_step : refusal (record two_headers { fields = with_fields (replicate 64 (field (codes "h.a") 8)); headers = header (range_with_len 4 64) 64 ∷ [] })
    ≡ Some (StepWide 0 65)
wide_step = refl

-- ---- the parse and the walk

-- header h goes to g: fields h.k and g.x are set, both valids are 1, h.k in the high bits of its word
abbrev frame : List ℕ
frame = 1 ∷ 0xab ∷ 0xcd ∷ 9 ∷ []

parsed : parse (plain two_headers places) frame
    ≡ Accept (record { vector = 1 ∷ 1 ∷ replicate 64 0 ++ 0xabcd ∷ replicate 93 0 ++ 2 ∷ replicate 63 0; tails = replicate 64 no_tail; at = 3 })
parsed = refl

walked : walk two_headers 5 frame ≡ walks.Accept (record { state = 5 ∷ 0 ∷ 0 ∷ 1 ∷ 1 ∷ 1 ∷ 0xabcd ∷ []; tails = [] ∷ [] ∷ []; at = 3 })
walked = refl

abbrev vector : List ℕ
vector = 1 ∷ 1 ∷ replicate 64 0 ++ 0xabcd ∷ replicate 93 0 ++ 2 ∷ replicate 63 0

-- so each field's lanes hold its value, but for in_port
each_field : map (λ f. held_in vector (lanes_of places f)) (range_with_len 0 7) ≡ 0 ∷ 0 ∷ 0 ∷ 1 ∷ 1 ∷ 1 ∷ 0xabcd ∷ []
each_field = refl

-- g is cut
cut_parsed : parse (plain two_headers places) (1 ∷ 0xab ∷ []) ≡ Short
cut_parsed = refl

cut_walked : walk two_headers 5 (1 ∷ 0xab ∷ []) ≡ walks.Short
cut_walked = refl

-- 255 is rejected, and 6, which is 2 on the mask 3, is accepted with one header
rejected : parse (plain two_headers places) (255 ∷ []) ≡ Reject
rejected = refl

masked : parse (plain two_headers places) (6 ∷ 7 ∷ [])
    ≡ Accept (record { vector = 1 ∷ replicate 159 0 ++ 12 ∷ replicate 63 0; tails = replicate 64 no_tail; at = 1 })
masked = refl

-- two pieces of one field, the low one first: 0x0c of 0x80abcdef0c
two_pieces : held_in (0x0c ∷ 0 ∷ 0 ∷ []) (lane 0 0 8 ∷ []) ≡ 0x0c
two_pieces = refl

low_first : held_in (0x34 ∷ 0x12 ∷ []) (lane 0 0 8 ∷ lane 1 0 8 ∷ []) ≡ 0x1234
low_first = refl

-- a tail of two bytes behind one byte, and then the header g
abbrev pub tail_places : List (List Lane)
tail_places = (lane 64 0 9 ∷ []) ∷ (lane 65 0 9 ∷ []) ∷ (lane 0 0 1 ∷ []) ∷ (lane 1 0 1 ∷ []) ∷ (lane 2 0 8 ∷ []) ∷ (lane 3 0 1 ∷ []) ∷ (lane 4 0 8 ∷ []) ∷ []

tail_parsed : parse (plain tail_between tail_places) (2 ∷ 7 ∷ 8 ∷ 9 ∷ 10 ∷ [])
    ≡ Accept (record { vector = 0 ∷ 1 ∷ 2 ∷ 1 ∷ 9 ∷ replicate 219 0; tails = record { place = 1; len = 2 } ∷ replicate 63 no_tail; at = 4 })
tail_parsed = refl

tail_walked : walk tail_between 0 (2 ∷ 7 ∷ 8 ∷ 9 ∷ 10 ∷ []) ≡ walks.Accept (record { state = 0 ∷ 0 ∷ 0 ∷ 1 ∷ 2 ∷ 1 ∷ 9 ∷ []; tails = (7 ∷ 8 ∷ []) ∷ [] ∷ []; at = 4 })
tail_walked = refl

tail_told : tail_bytes (2 ∷ 7 ∷ 8 ∷ 9 ∷ 10 ∷ []) (record { place = 1; len = 2 }) ≡ 7 ∷ 8 ∷ []
tail_told = refl

-- Joined and clustered parsers that are worked by hand.
use Rattle.std.proofs.Common.{◌≡◌, Bool, true, false, ◌++◌, ◌+◌, ℕ, List, [], ◌∷◌, None, Some, length, map, refl}
use Rattle.std.specs.Prelude.{codes, is_some, replicate}
use Rattle.std.specs.List.{range_with_len}
use Rattle.rmt_ast.proofs.Programs.{field, two_headers, tail_between}
use Rattle.rmt_ptcam.specs.Types.{Program, Header, Case, Target, ParserConfig, ParserEntry, Next}
use Rattle.rmt_ast.specs.declared.program.Field.{Field}
use Rattle.rmt_ast.specs.declared.program.Target.TheVariants as target
use Rattle.rmt_config.specs.declared.config.Extract.TheVariants.{Bits, One}
use Rattle.rmt_config.specs.declared.config.Next.TheVariants as next
use Rattle.rmt_config.specs.Parser.{parse, Short}
use Rattle.rmt_config.specs.ParserForm.{parser_is_formed}
use Rattle.rmt_ptcam.specs.Plain.{plain}
use Rattle.rmt_ptcam.proofs.Examples.{lane, places, tail_places}
use Rattle.rmt_ptcam.specs.Joining.{join_named, join_of, can_join, joined_entry, together, widened_entry}
use Rattle.rmt_ptcam.specs.ByteTests.{ByteTest, joined_tests, tests_of}
use Rattle.rmt_ptcam.specs.Words.{byte_at, spread}
use Rattle.rmt_ptcam.specs.Clustering.{arrivals, clustered, with_next}
use Rattle.rmt_ptcam.specs.Joins.{joins as joins_told, replayed}

-- the entry of h that goes to g and the one of g in one: it needs both, and does all extracts; g's state can't be met
two_in_one : (clustered two_headers places).entries
    ≡ record { state = 0; value = 0x01000000; mask = 0xff000000; need = 3; advance = 3; next = next.Accept; extracts = One (lane 0 0 1) ∷ Bits 0 (lane 160 1 8) ∷ One (lane 1 0 1) ∷ Bits 8 (lane 66 0 16) ∷ [] }
    ∷ record { state = 0; value = 0x02000000; mask = 0x03000000; need = 1; advance = 1; next = next.Accept; extracts = One (lane 0 0 1) ∷ Bits 0 (lane 160 1 8) ∷ [] }
    ∷ record { state = 0; value = 0xff000000; mask = 0xff000000; need = 1; advance = 1; next = next.Reject; extracts = One (lane 0 0 1) ∷ Bits 0 (lane 160 1 8) ∷ [] }
    ∷ record { state = 0; value = 0; mask = 0; need = 1; advance = 1; next = next.Accept; extracts = One (lane 0 0 1) ∷ Bits 0 (lane 160 1 8) ∷ [] }
    ∷ []
unfolding together
two_in_one = refl

-- its one join
one_join : joins_told two_headers places ≡ record { state = 0; entry = 0 } ∷ []
unfolding together
one_join = refl

one_state : (clustered two_headers places).states ≡ record { lookups = 0 ∷ [] } ∷ []
unfolding together
one_state = refl

-- with g cut, or with no byte, the frame is too short
cut : parse (clustered two_headers places) (1 ∷ 0xab ∷ []) ≡ Short
unfolding together
cut = refl

-- an entry with a tail isn't joined
with_tail : join_of (plain tail_between tail_places) 0 0 ≡ None
unfolding together
with_tail = refl

-- bytes 0 and 2 of one state, and bytes 0 and 1 of another one three bytes behind
lookups_of_both : together (0 ∷ 2 ∷ []) 3 (0 ∷ 1 ∷ []) ≡ 0 ∷ 2 ∷ 3 ∷ 4 ∷ []
unfolding together
lookups_of_both = refl

second_byte : byte_at (0 ∷ 2 ∷ []) 0xab120000 2 ≡ 0x12
second_byte = refl

over_more : spread (0 ∷ 2 ∷ []) (0 ∷ 1 ∷ 2 ∷ []) 0xab120000 ≡ 0xab001200
over_more = refl

-- ---- the headers of a switch: a tag, two versions of IP, and two protocols above them

abbrev block : List ℕ → List Field
block widths = field (codes "f.valid") 1 ∷ map (field (codes "f.x")) widths

-- eth 3 to 6, vlan 7 to 11, ipv4 12 to 23, ipv6 24 to 32, tcp 33 to 42, udp 43 to 47
abbrev switch_fields : List Field
switch_fields =
    field (codes "in_port") 9 ∷ field (codes "out_port") 9 ∷ field (codes "drop") 1 ∷ block (48 ∷ 48 ∷ 16 ∷ []) ++ (block (3 ∷ 1 ∷ 12 ∷ 16 ∷ [])
    ++ (block (4 ∷ 4 ∷ 8 ∷ 16 ∷ 16 ∷ 3 ∷ 13 ∷ 8 ∷ 8 ∷ 16 ∷ 32 ∷ 32 ∷ []) ++ (block (4 ∷ 8 ∷ 20 ∷ 16 ∷ 8 ∷ 8 ∷ 128 ∷ 128 ∷ [])
    ++ (block (16 ∷ 16 ∷ 32 ∷ 32 ∷ 4 ∷ 12 ∷ 16 ∷ 16 ∷ 16 ∷ []) ++ block (16 ∷ 16 ∷ 16 ∷ 16 ∷ [])))))

abbrev one_test : ℕ → ℕ → Target → Case
one_test width value to = record { tests = record { value = value; mask = width } ∷ []; target = to }

abbrev two_tests : ℕ → ℕ → ℕ → Target → Case
two_tests first second mask to = record { tests = record { value = first; mask = 0xf } ∷ record { value = second; mask = mask } ∷ []; target = to }

-- a header without a tail, whose fields stand behind valid
abbrev header_of : List ℕ → ℕ → ℕ → ℕ → List ℕ → List Case → Target → Header
header_of name valid count bytes select cases other = record { name = name; valid = valid; fields = range_with_len (valid + 1) count; bytes = bytes; tail = None; select = select; cases = cases; other = other }

abbrev switch : Program
switch = record two_headers {
  fields = switch_fields;
  headers =
      header_of (codes "eth") 3 3 14 (6 ∷ []) (one_test 0xffff 0x8100 (target.Node 1) ∷ one_test 0xffff 0x0800 (target.Node 2) ∷ one_test 0xffff 0x86dd (target.Node 3) ∷ []) target.Accept
      ∷ header_of (codes "vlan") 7 4 4 (11 ∷ []) (one_test 0xffff 0x0800 (target.Node 2) ∷ one_test 0xffff 0x86dd (target.Node 3) ∷ []) target.Accept
      ∷ header_of (codes "ipv4") 12 12 20 (14 ∷ 21 ∷ []) (two_tests 5 6 0xff (target.Node 4) ∷ two_tests 5 17 0xff (target.Node 5) ∷ two_tests 5 0 0 target.Accept ∷ []) target.Reject
      ∷ header_of (codes "ipv6") 25 8 40 (30 ∷ []) (one_test 0xff 6 (target.Node 4) ∷ one_test 0xff 17 (target.Node 5) ∷ []) target.Accept
      ∷ header_of (codes "tcp") 34 9 20 [] [] target.Accept
      ∷ header_of (codes "udp") 44 4 8 [] [] target.Accept
      ∷ [];
}

-- one case goes to the tag, and two to each version of IP
arrive : map (arrivals switch) (0 ∷ 1 ∷ 2 ∷ 3 ∷ 4 ∷ 5 ∷ []) ≡ 0 ∷ 1 ∷ 2 ∷ 2 ∷ 2 ∷ 2 ∷ []
arrive = refl

-- no lane is told, so that extracts are few to write; the states and what they look up don't hang on them
switch_states : (clustered switch []).states ≡ record { lookups = 12 ∷ 13 ∷ 16 ∷ 17 ∷ [] } ∷ record { lookups = 0 ∷ 9 ∷ [] } ∷ record { lookups = 6 ∷ [] } ∷ []
unfolding together
switch_states = refl

switch_counts : length (clustered switch []).entries ∷ length (plain switch []).entries ∷ [] ≡ 13 ∷ 16 ∷ []
unfolding together
switch_counts = refl

-- the tag and what is behind it stand first in the first state: need, value and mask of each entry
switch_first : map (λ (e : ParserEntry). e.need) (clustered switch []).entries ≡ 18 ∷ 18 ∷ 18 ∷ 14 ∷ 14 ∷ 14 ∷ 40 ∷ 28 ∷ 20 ∷ 20 ∷ 60 ∷ 48 ∷ 40 ∷ []
unfolding together
switch_first = refl

switch_values : map (λ (e : ParserEntry). e.value) (clustered switch []).entries
    ≡ 0x81000800 ∷ 0x810086dd ∷ 0x81000000 ∷ 0x08000000 ∷ 0x86dd0000 ∷ 0 ∷ 0x05060000 ∷ 0x05110000 ∷ 0x05000000 ∷ 0 ∷ 0x06000000 ∷ 0x11000000 ∷ 0 ∷ []
unfolding together
switch_values = refl

switch_masks : map (λ (e : ParserEntry). e.mask) (clustered switch []).entries
    ≡ 0xffffffff ∷ 0xffffffff ∷ 0xffff0000 ∷ 0xffff0000 ∷ 0xffff0000 ∷ 0 ∷ 0x0fff0000 ∷ 0x0fff0000 ∷ 0x0f000000 ∷ 0 ∷ 0xff000000 ∷ 0xff000000 ∷ 0 ∷ []
unfolding together
switch_masks = refl

-- the entries to TCP and UDP, of the later version first, and then the one to the tag; two cases go to each version of IP
switch_joins : joins_told switch []
    ≡ record { state = 3; entry = 0 } ∷ record { state = 3; entry = 1 } ∷ record { state = 2; entry = 0 } ∷ record { state = 2; entry = 1 } ∷ record { state = 0; entry = 0 } ∷ []
unfolding together
switch_joins = refl

-- ---- joins that are made again

made_again : replayed (plain two_headers places) (record { state = 0; entry = 0 } ∷ []) ≡ Some (clustered two_headers places)
unfolding together
made_again = refl

-- no join leaves the plain parser as it is
none_made : replayed (plain two_headers places) [] ≡ Some (plain two_headers places)
none_made = refl

-- an entry that isn't there, of a state that isn't there, and one that after the first join goes nowhere
not_made : replayed (plain two_headers places) (record { state = 0; entry = 4 } ∷ []) ∷ replayed (plain two_headers places) (record { state = 2; entry = 0 } ∷ [])
    ∷ replayed (plain two_headers places) (record { state = 0; entry = 0 } ∷ record { state = 0; entry = 0 } ∷ []) ∷ []
    ≡ None ∷ None ∷ None ∷ []
unfolding together
not_made = refl

-- ---- tails of two headers, with plain ones before them

abbrev tailed : Target → Header
tailed to = record { name = codes "h"; valid = 3; fields = 4 ∷ 5 ∷ []; bytes = 1; tail = Some (record { field = 5; unit = 4; base = 4 }); select = []; cases = []; other = to }

abbrev two_tails : Program
two_tails = record two_headers {
  fields = field (codes "in_port") 9 ∷ field (codes "out_port") 9 ∷ field (codes "drop") 1 ∷ block (4 ∷ 4 ∷ []);
  headers = record (tailed (target.Node 1)) { tail = None } ∷ tailed (target.Node 2) ∷ record (tailed (target.Node 3)) { tail = None } ∷ tailed target.Accept ∷ [];
}

-- each plain header is joined to the one with a tail behind it, and the one with a tail to none
tail_joins : joins_told two_tails [] ≡ record { state = 2; entry = 0 } ∷ record { state = 0; entry = 0 } ∷ []
unfolding together
tail_joins = refl

-- the length of a tail stands a byte later
tails_moved : (clustered two_tails []).tails
    ≡ record { entry = 0; header = 1; from = 12; len = 4; unit = 4; base = 4 } ∷ record { entry = 1; header = 3; from = 12; len = 4; unit = 4; base = 4 } ∷ []
unfolding together
tails_moved = refl

tails_in_form : parser_is_formed (plain two_tails []) ∷ parser_is_formed (clustered two_tails []) ∷ [] ≡ true ∷ true ∷ []
unfolding together
tails_in_form = refl

-- ---- where entries aren't joined

-- a parser of two states, an entry of the first going to the second
abbrev pair_of : List ℕ → List ℕ → ParserEntry → ParserEntry → ParserConfig
pair_of here there e f = record { states = record { lookups = here } ∷ record { lookups = there } ∷ []; entries = e ∷ f ∷ []; tails = [] }

abbrev entry_of : ℕ → Next → ℕ → ℕ → ParserEntry
entry_of state to bytes count = record { state = state; value = 0; mask = 0; need = bytes; advance = bytes; next = to; extracts = replicate count (One (lane 0 0 1)) }

abbrev first_of : ℕ → ℕ → ParserEntry
first_of = entry_of 0 (next.State 1)

abbrev second_of : ℕ → ℕ → ParserEntry
second_of = entry_of 1 next.Accept

abbrev joins : ParserConfig → Bool
joins parser = is_some (join_of parser 0 0)

-- ---- what entries compare

abbrev test_of : ℕ → ℕ → ℕ → ByteTest
test_of offset value mask = record { offset = offset; value = value; mask = mask }

-- an entry that looks at bytes 0 and 2, and one that looks at bytes 0 and 1 of the next header, three bytes behind
abbrev first_compares : ParserEntry
first_compares = record (first_of 3 1) { value = 0xab120000; mask = 0xff3f0000 }

abbrev second_compares : ParserEntry
second_compares = record (second_of 2 1) { value = 0x34000000; mask = 0xff010000 }

two_bytes : tests_of (0 ∷ 2 ∷ []) first_compares ≡ test_of 0 0xab 0xff ∷ test_of 2 0x12 0x3f ∷ []
two_bytes = refl

-- lookups that no word has a byte for, and none
more_and_none : length (tests_of (0 ∷ 1 ∷ 2 ∷ 3 ∷ 4 ∷ []) first_compares) ∷ length (tests_of [] first_compares) ∷ [] ≡ 4 ∷ 0 ∷ []
more_and_none = refl

-- both lists, the second three bytes behind
bytes_of_both : joined_tests 3 (tests_of (0 ∷ 2 ∷ []) first_compares) (tests_of (0 ∷ 1 ∷ []) second_compares)
    ≡ test_of 0 0xab 0xff ∷ test_of 2 0x12 0x3f ∷ test_of 3 0x34 0xff ∷ test_of 4 0 0x01 ∷ []
bytes_of_both = refl

-- a byte that both look at: what the first has there is behind the bytes that it moves by, and the second's stands
byte_shared : joined_tests 2 (test_of 0 1 0xff ∷ test_of 2 0 0 ∷ []) (test_of 0 7 0xff ∷ []) ≡ test_of 0 1 0xff ∷ test_of 2 7 0xff ∷ []
byte_shared = refl

-- the words, made at the end
abbrev joined_bytes : ParserEntry
joined_bytes = joined_entry (0 ∷ 2 ∷ []) (0 ∷ 1 ∷ []) first_compares second_compares

words_of_both : joined_bytes.value ∷ joined_bytes.mask ∷ [] ≡ 0xab123400 ∷ 0xff3fff01 ∷ []
unfolding together
words_of_both = refl

abbrev wide_bytes : ParserEntry
wide_bytes = widened_entry (0 ∷ 2 ∷ []) (0 ∷ 1 ∷ 2 ∷ []) first_compares

words_over_more : wide_bytes.value ∷ wide_bytes.mask ∷ [] ≡ 0xab001200 ∷ 0xff003f00 ∷ []
words_over_more = refl

-- lookups that stand in both are told once, in order, and those behind byte 127 are none
lookups_in_order : together (0 ∷ 5 ∷ []) 2 (3 ∷ 0 ∷ []) ∷ together [] 8 (120 ∷ 119 ∷ []) ∷ [] ≡ (0 ∷ 2 ∷ 5 ∷ []) ∷ (127 ∷ []) ∷ []
unfolding together
lookups_in_order = refl

-- four lookup bytes, and five; one that both look up counts once, and one behind byte 127 is none
four_and_five : joins (pair_of (0 ∷ 1 ∷ []) (0 ∷ 1 ∷ []) (first_of 2 1) (second_of 2 1)) ∷ joins (pair_of (0 ∷ 1 ∷ []) (0 ∷ 1 ∷ 2 ∷ []) (first_of 2 1) (second_of 3 1))
    ∷ joins (pair_of (0 ∷ 1 ∷ 2 ∷ []) (0 ∷ 1 ∷ []) (first_of 2 1) (second_of 2 1)) ∷ joins (pair_of [] (120 ∷ []) (first_of 8 1) (second_of 1 1)) ∷ []
    ≡ true ∷ false ∷ true ∷ false ∷ []
unfolding together
four_and_five = refl

-- 128 bytes, and 129
bytes_128 : joins (pair_of [] [] (first_of 64 1) (second_of 64 1)) ∷ joins (pair_of [] [] (first_of 65 1) (second_of 64 1)) ∷ [] ≡ true ∷ false ∷ []
unfolding together
bytes_128 = refl

-- 64 extracts, and 65
extracts_64 : joins (pair_of [] [] (first_of 1 32) (second_of 1 32)) ∷ joins (pair_of [] [] (first_of 1 33) (second_of 1 32)) ∷ [] ≡ true ∷ false ∷ []
unfolding together
extracts_64 = refl

-- an entry that needs more than it moves by, that compares a byte behind, that goes nowhere, and a state through which a frame could fall
others : joins (pair_of [] [] (record (first_of 2 1) { advance = 1 }) (second_of 1 1)) ∷ joins (pair_of (2 ∷ []) [] (record (first_of 2 1) { mask = 0xff000000 }) (second_of 1 1))
    ∷ joins (pair_of [] [] (record (first_of 2 1) { next = next.Accept }) (second_of 1 1)) ∷ joins (pair_of [] (0 ∷ []) (first_of 2 1) (record (second_of 1 1) { mask = 0x01000000 })) ∷ []
    ≡ false ∷ false ∷ false ∷ false ∷ []
unfolding together
others = refl

-- a state without an entry, and an entry that isn't among its state's own
abbrev lone : ParserConfig
lone = record { states = record { lookups = [] } ∷ record { lookups = [] } ∷ []; entries = first_of 1 1 ∷ []; tails = [] }

nothing_there : joins lone ∷ is_some (join_named lone (record { state = 0; entry = 1 })) ∷ is_some (join_named lone (record { state = 1; entry = 0 })) ∷ [] ≡ false ∷ false ∷ false ∷ []
unfolding together
nothing_there = refl

-- 16,384 entries, and 16,385
abbrev many : ℕ → ParserConfig
many count = record { states = record { lookups = [] } ∷ record { lookups = [] } ∷ []; entries = replicate count (first_of 1 1) ++ second_of 1 1 ∷ second_of 1 1 ∷ []; tails = [] }

entries_16384 : can_join (many 16381) 0 (first_of 1 1) 1 ∷ can_join (many 16382) 0 (first_of 1 1) 1 ∷ [] ≡ true ∷ false ∷ []
unfolding together
entries_16384 = refl

-- a header of two entries that one case alone goes to is joined, and one that nothing goes to is left out
abbrev three : Program
three = record two_headers {
  headers =
      header_of (codes "a") 3 1 1 (4 ∷ []) (one_test 0xff 1 (target.Node 1) ∷ []) target.Reject ∷ header_of (codes "b") 3 1 1 (4 ∷ []) (one_test 0xff 2 target.Accept ∷ []) target.Reject
      ∷ header_of (codes "c") 3 1 1 [] [] target.Accept ∷ [];
}

three_states : (clustered three []).states ≡ record { lookups = 0 ∷ 1 ∷ [] } ∷ []
unfolding together
three_states = refl

-- a state that is met stands once
met_once : with_next (0 ∷ 2 ∷ []) (next.State 2) ∷ with_next (0 ∷ 2 ∷ []) (next.State 1) ∷ with_next (0 ∷ []) next.Accept ∷ [] ≡ (0 ∷ 2 ∷ []) ∷ (0 ∷ 2 ∷ 1 ∷ []) ∷ (0 ∷ []) ∷ []
met_once = refl

three_values : map (λ (e : ParserEntry). e.value) (clustered three []).entries ≡ 0x01020000 ∷ 0x01000000 ∷ 0 ∷ []
unfolding together
three_values = refl

three_masks : map (λ (e : ParserEntry). e.mask) (clustered three []).entries ≡ 0xffff0000 ∷ 0xff000000 ∷ 0 ∷ []
unfolding together
three_masks = refl

three_needs : map (λ (e : ParserEntry). e.need) (clustered three []).entries ≡ 2 ∷ 2 ∷ 1 ∷ []
unfolding together
three_needs = refl

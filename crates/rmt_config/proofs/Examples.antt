-- Configurations without memory whose runs are known.
use Rattle.std.specs.Prelude.{◌≡◌, ℕ, ◌/◌, List, [], ◌∷◌, Some, None, replicate, refl}
use Rattle.rmt_bits.specs.declared.answer.Verdict.TheVariants as verdict
use Rattle.rmt_config.specs.Types.{Config, ParserConfig, Stage}
use Rattle.rmt_config.specs.declared.config.Next.TheVariants as next
use Rattle.rmt_config.specs.declared.config.Extract.TheVariants.{Bits, One}
use Rattle.rmt_config.specs.declared.config.Unit.TheVariants.{Gate}
use Rattle.rmt_config.specs.declared.config.OpKind.TheVariants as kind
use Rattle.rmt_config.specs.declared.config.Source.TheVariants.{Word, Constant}
use Rattle.rmt_config.specs.Parser.{parse, begin, Accept, Reject}
use Rattle.rmt_config.specs.ChipRun.{answer_at, inputs_of, outcomes_of, own_look, cycles_of, flight_of, words_at, packet_at, number_at}
use Rattle.rmt_config.proofs.ExamplesParts.{packet, lane, sent, copy, instruction, plain_slot, plain_stage, one_header, one_byte, two_headers_of}

-- header h { f : 8; }, and one table whose default does out_port = 1
abbrev pub smallest : Config
smallest = one_byte (plain_stage 0 (plain_slot 0 None ∷ []) (instruction (copy 65 0 9 (Constant 1) ∷ []) ∷ []) ∷ [])

pub smallest_run : outcomes_of smallest (packet 0 (255 ∷ []) ∷ []) ≡ sent 1 (255 ∷ []) [] ∷ []
smallest_run = refl

-- the packet leaves in the cycle of the latency, and in no other
pub smallest_cycle : answer_at smallest (inputs_of smallest (packet 0 (255 ∷ []) ∷ [])) 12 ≡ Some (sent 1 (255 ∷ []) [])
smallest_cycle = refl

pub smallest_early : answer_at smallest (inputs_of smallest (packet 0 (255 ∷ []) ∷ [])) 11 ≡ None
smallest_early = refl

pub smallest_cycles : cycles_of smallest (packet 0 (255 ∷ []) ∷ []) ≡ 13
smallest_cycles = refl

pub smallest_flight : flight_of smallest (packet 0 (255 ∷ []) ∷ []) ≡ 1
smallest_flight = refl

-- with more packets than the chip has ages, one of each age is in flight
pub smallest_full : flight_of smallest (replicate 20 (packet 0 (255 ∷ []))) ≡ 13
smallest_full = refl

-- the packet that entered in cycle 1 has age 11 in cycle 12, and is the first of its run
pub smallest_in_flight : packet_at smallest (None ∷ Some (packet 7 (3 ∷ [])) ∷ replicate 20 None) 12 11 ≡ Some (packet 7 (3 ∷ []))
smallest_in_flight = refl

pub smallest_left : packet_at smallest (None ∷ Some (packet 7 (3 ∷ [])) ∷ replicate 20 None) 14 13 ≡ None
smallest_left = refl

pub smallest_number : number_at (Some (packet 7 (3 ∷ [])) ∷ None ∷ Some (packet 7 (4 ∷ [])) ∷ []) 2 ≡ 1
smallest_number = refl

-- words are written 12 cycles after the start, and are seen from then on
pub smallest_words_before : words_at (own_look smallest) smallest (packet 0 (255 ∷ [])) 11 65 ≡ 0
smallest_words_before = refl

pub smallest_words_after : words_at (own_look smallest) smallest (packet 0 (255 ∷ [])) 12 65 ≡ 1
smallest_words_after = refl

pub smallest_words_of_parser : words_at (own_look smallest) smallest (packet 300 (255 ∷ [])) 0 64 ≡ 300
smallest_words_of_parser = refl

-- frames that are too short for the header answer Short, in their turn
pub smallest_in_turn : outcomes_of smallest (packet 0 (1 ∷ 2 ∷ []) ∷ packet 0 [] ∷ packet 0 (3 ∷ []) ∷ []) ≡ sent 1 (1 ∷ 2 ∷ []) [] ∷ record { verdict = verdict.Short; bytes = []; counted = [] } ∷ sent 1 (3 ∷ []) [] ∷ []
smallest_in_turn = refl

-- no packet: no cycle
pub no_packets : cycles_of smallest [] ≡ 0
no_packets = refl

pub no_packets_run : outcomes_of smallest [] ≡ []
no_packets_run = refl

-- no stage: the packet leaves in the cycle in which it enters
pub no_stage : answer_at (one_byte []) (inputs_of (one_byte []) (packet 5 (255 ∷ []) ∷ [])) 0 ≡ Some (sent 0 (255 ∷ []) [])
no_stage = refl

pub no_stage_cycles : cycles_of (one_byte []) (packet 5 (255 ∷ []) ∷ []) ≡ 1
no_stage_cycles = refl

-- header h { a : 2; b : 2; c : 4; }, a and b in word 0, and two tables that set a to 1 and b to 2, in stages of these starts
abbrev pub two_fields_one_word : ℕ → ℕ → Config
two_fields_one_word first second =
    one_header 1 (Bits 0 (lane 0 2 2) ∷ Bits 2 (lane 0 4 2) ∷ Bits 4 (lane 1 0 4) ∷ []) (lane 0 2 2 ∷ lane 0 4 2 ∷ lane 1 0 4 ∷ [])
    (plain_stage first (plain_slot 0 None ∷ []) (instruction (copy 0 2 2 (Constant 1) ∷ []) ∷ [])
    ∷ plain_stage second (plain_slot 1 None ∷ []) (instruction (copy 0 4 2 (Constant 2) ∷ []) ∷ []) ∷ [])

-- 3 cycles apart the second stage reads the word just after the first one has written it
pub two_fields_one_word_run : outcomes_of (two_fields_one_word 0 3) (packet 0 (5 ∷ []) ∷ []) ≡ sent 0 (0x65 ∷ []) [] ∷ []
two_fields_one_word_run = refl

pub two_fields_one_word_cycles : cycles_of (two_fields_one_word 0 3) (packet 0 (5 ∷ []) ∷ []) ≡ 16
two_fields_one_word_cycles = refl

-- 2 cycles apart it reads the old word, and what the first stage wrote is lost
pub two_fields_one_word_too_early : outcomes_of (two_fields_one_word 0 2) (packet 0 (5 ∷ []) ∷ []) ≡ sent 0 (0x25 ∷ []) [] ∷ []
two_fields_one_word_too_early = refl

-- two units of one stage both write word 0, and the later one's word stands
pub later_unit : outcomes_of
    (one_header 1 (Bits 0 (lane 0 2 2) ∷ Bits 2 (lane 0 4 2) ∷ Bits 4 (lane 1 0 4) ∷ []) (lane 0 2 2 ∷ lane 0 4 2 ∷ lane 1 0 4 ∷ [])
    (plain_stage 0 (plain_slot 0 None ∷ plain_slot 1 None ∷ []) (instruction (copy 0 2 2 (Constant 1) ∷ []) ∷ instruction (copy 0 4 2 (Constant 2) ∷ []) ∷ []) ∷ []))
    (packet 0 (5 ∷ []) ∷ [])
    ≡ sent 0 (0x25 ∷ []) [] ∷ []
later_unit = refl

-- each kind of operation once, of words 1 and 2 into words 3 to 8, in one instruction
abbrev pub operations : Config
operations =
    one_header 8
    (Bits 0 (lane 1 0 8) ∷ Bits 8 (lane 2 0 8) ∷ [])
    (lane 1 0 8 ∷ lane 2 0 8 ∷ lane 3 0 8 ∷ lane 4 0 8 ∷ lane 5 0 8 ∷ lane 6 0 8 ∷ lane 7 0 8 ∷ lane 8 0 8 ∷ [])
    (plain_stage 0 (plain_slot 0 None ∷ [])
    (instruction
    (copy 3 0 8 (Word 1 0)
    ∷ record { word = 4; low = 2; len = 4; kind = kind.Add; left = Word 1 0; right = Word 2 4 }
    ∷ record { word = 5; low = 0; len = 8; kind = kind.Sub; left = Word 1 0; right = Word 2 0 }
    ∷ record { word = 6; low = 0; len = 8; kind = kind.And; left = Word 1 0; right = Constant 15 }
    ∷ record { word = 7; low = 0; len = 8; kind = kind.Or; left = Word 1 0; right = Word 2 0 }
    ∷ record { word = 8; low = 2; len = 4; kind = kind.Xor; left = Word 1 4; right = Word 2 0 } ∷ [])
    ∷ []) ∷ [])

pub operations_run : outcomes_of operations (packet 0 (0xc5 ∷ 0xf6 ∷ 0 ∷ 0 ∷ 0 ∷ 0 ∷ 0 ∷ 0 ∷ 9 ∷ []) ∷ [])
    ≡ sent 0 (0xc5 ∷ 0xf6 ∷ 0xc5 ∷ 0x10 ∷ 0xcf ∷ 0x05 ∷ 0xf7 ∷ 0x28 ∷ 9 ∷ []) [] ∷ []
operations_run = refl

-- a gate on the high half of f, and two guarded slots behind it, in one stage
abbrev pub gate : Config
gate = one_byte
    (plain_stage 0
    (Gate (record { node = 0; guard = None; tests = record { lane = lane 1 0 8; value = 0x10; mask = 0xf0 } ∷ [] })
    ∷ plain_slot 1 (Some (record { parent = 0; mask = 4 })) ∷ plain_slot 2 (Some (record { parent = 0; mask = 2 })) ∷ [])
    (instruction (copy 65 0 9 (Constant 1) ∷ []) ∷ instruction (copy 65 0 9 (Constant 2) ∷ []) ∷ []) ∷ [])

pub gate_run : outcomes_of gate (packet 0 (0x17 ∷ []) ∷ packet 0 (0x27 ∷ []) ∷ []) ≡ sent 1 (0x17 ∷ []) [] ∷ sent 2 (0x27 ∷ []) [] ∷ []
gate_run = refl

-- a slot behind a slot that did not run: a parent without an outcome is in no mask
pub gate_of_gate : outcomes_of
    (one_byte
    (plain_stage 0
    (Gate (record { node = 0; guard = None; tests = record { lane = lane 1 0 8; value = 0x10; mask = 0xf0 } ∷ [] })
    ∷ plain_slot 1 (Some (record { parent = 0; mask = 4 })) ∷ [])
    (instruction [] ∷ []) ∷ plain_stage 1 (plain_slot 2 (Some (record { parent = 1; mask = 65534 })) ∷ []) (instruction (copy 0 0 1 (Constant 1) ∷ []) ∷ []) ∷ []))
    (packet 0 (0x17 ∷ []) ∷ packet 0 (0x27 ∷ []) ∷ [])
    ≡ record { verdict = verdict.Dropped; bytes = []; counted = [] } ∷ sent 0 (0x27 ∷ []) [] ∷ []
gate_of_gate = refl

-- state 0 looks at the first byte: 1 goes on to a header of 2 bytes, 255 is rejected, and all else is accepted
abbrev pub two_headers : Config
two_headers =
    two_headers_of 2 (lane 66 0 16)
    (record { state = 0; value = 0x01000000; mask = 0xff000000; need = 1; advance = 1; next = next.State 1; extracts = One (lane 0 1 1) ∷ Bits 0 (lane 1 0 8) ∷ [] }
    ∷ record { state = 0; value = 0xff000000; mask = 0xff000000; need = 1; advance = 1; next = next.Reject; extracts = [] }
    ∷ record { state = 0; value = 0; mask = 0; need = 1; advance = 1; next = next.Accept; extracts = One (lane 0 1 1) ∷ Bits 0 (lane 1 0 8) ∷ [] }
    ∷ record { state = 1; value = 0; mask = 0; need = 2; advance = 2; next = next.Accept; extracts = One (lane 0 2 1) ∷ Bits 0 (lane 66 0 16) ∷ [] } ∷ [])
    []

-- both headers and a byte of payload; a cut second header; a reject; the first header alone
pub two_headers_run : outcomes_of two_headers (packet 0 (1 ∷ 2 ∷ 3 ∷ 4 ∷ []) ∷ packet 0 (1 ∷ 2 ∷ []) ∷ packet 0 (255 ∷ []) ∷ packet 0 (6 ∷ 2 ∷ []) ∷ [])
    ≡ sent 0 (1 ∷ 2 ∷ 3 ∷ 4 ∷ []) [] ∷ record { verdict = verdict.Short; bytes = []; counted = [] }
    ∷ record { verdict = verdict.Reject; bytes = []; counted = [] } ∷ sent 0 (6 ∷ 2 ∷ []) [] ∷ []
two_headers_run = refl

-- a packet that is cut has all words 0
pub two_headers_words : words_at (own_look two_headers) two_headers (packet 7 (1 ∷ 2 ∷ [])) 0 64 ≡ 0
two_headers_words = refl

-- a state that looks two bytes ahead of what it needs
abbrev pub past_the_end : ParserConfig
past_the_end = record {
  states = record { lookups = 0 ∷ 2 ∷ [] } ∷ [];
  entries = record { state = 0; value = 0x01000000; mask = 0xffff0000; need = 1; advance = 0; next = next.Accept; extracts = [] } ∷ [];
  tails = [];
}

-- a byte past the end reads as 0
pub past_the_end_zero : parse past_the_end (1 ∷ 2 ∷ []) ≡ Accept begin
past_the_end_zero = refl

-- no entry matches
pub past_the_end_none : parse past_the_end (1 ∷ 2 ∷ 3 ∷ []) ≡ Reject
past_the_end_none = refl

-- a chain of stages, 12 cycles apart, that each add 1 to f
abbrev pub chain : List ℕ → List Stage
chain [] = []
chain (start ∷ starts) = plain_stage start (plain_slot (start / 12) None ∷ []) (instruction (record { word = 1; low = 0; len = 8; kind = kind.Add; left = Word 1 0; right = Constant 1 } ∷ []) ∷ []) ∷ chain starts

pub chain_run : outcomes_of (one_byte (chain (0 ∷ 12 ∷ 24 ∷ 36 ∷ 48 ∷ 60 ∷ 72 ∷ 84 ∷ 96 ∷ 108 ∷ 120 ∷ 132 ∷ []))) (packet 0 (255 ∷ []) ∷ []) ≡ sent 0 (11 ∷ []) [] ∷ []
chain_run = refl

-- a state behind one byte looks from there on
abbrev pub behind_one_byte : ParserConfig
behind_one_byte = record {
  states = record { lookups = [] } ∷ record { lookups = 0 ∷ [] } ∷ [];
  entries =
      record { state = 0; value = 0; mask = 0; need = 1; advance = 1; next = next.State 1; extracts = [] }
      ∷ record { state = 1; value = 0x07000000; mask = 0xff000000; need = 0; advance = 0; next = next.Accept; extracts = [] } ∷ [];
  tails = [];
}

pub behind_one_byte_accepts : parse behind_one_byte (9 ∷ 7 ∷ []) ≡ Accept (record begin { at = 1 })
behind_one_byte_accepts = refl

pub behind_one_byte_rejects : parse behind_one_byte (7 ∷ 9 ∷ []) ≡ Reject
behind_one_byte_rejects = refl

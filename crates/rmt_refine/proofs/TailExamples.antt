-- The program on two stages with a second header, which has a tail: what becomes of packets, and runs with a commit of each kind.
use Rattle.std.proofs.Common.{◌≡◌, ℕ, ◌*◌, List, [], ◌∷◌, ◌++◌, map, replicate, Some, refl}
use Rattle.std.specs.Prelude.{codes}
use Rattle.rmt_bits.specs.Packet.{Packet}
use Rattle.rmt_bits.specs.declared.answer.Count.{Count}
use Rattle.rmt_bits.specs.declared.answer.Verdict.{Verdict}
use Rattle.rmt_bits.specs.declared.answer.Verdict.TheVariants.{Reject, Sent, Short}
use Rattle.rmt_ast.specs.declared.program.Target.TheVariants as target
use Rattle.rmt_ast.specs.Answers.{answer_of}
use Rattle.rmt_ast.specs.Changes.{Change}
use Rattle.rmt_ast.specs.Events.{Arrives, Commits, Event, answers_of_events, counts_of_events}
use Rattle.rmt_ast.specs.Naming.{names_of}
use Rattle.rmt_ast.proofs.Programs.{field, header}
use Rattle.rmt_config.specs.declared.config.Extract.TheVariants.{Bits, One as PutOne}
use Rattle.rmt_config.specs.declared.config.Next.TheVariants as next
use Rattle.rmt_config.specs.ChipRun.{outcome_of, own_look}
use Rattle.rmt_config.specs.Form.{Formed}
use Rattle.rmt_config.specs.Limits.{IsWithinLimits}
use Rattle.rmt_config.specs.RunInputs.{Enters, Idle, Input, counts_in}
use Rattle.rmt_refine.specs.Types.{Config, ParserConfig, Program}
use Rattle.rmt_refine.specs.EventRuns.{outcomes_in}
use Rattle.rmt_refine.specs.RunsAs.{told_by_answer, told_by_outcome}
use Rattle.rmt_refine.proofs.CommitRunExamples.{come, comes, comes_first, goes, gone, moved}
use Rattle.rmt_refine.proofs.MemoryExamples.{memories_hold}
use Rattle.rmt_refine.proofs.TwoStages.{config, lane, lists, program}

-- behind h stands header g { n : 4; z : 4; tail n * 4 - 4; }
abbrev tailed : Program
tailed = record program {
  fields = program.fields ++ field (codes "g.valid") 1 ∷ field (codes "g.n") 4 ∷ field (codes "g.z") 4 ∷ [];
  headers =
      record (header (4 ∷ []) 1) { other = target.Node 1 }
      ∷ record {
        name = codes "g";
        valid = 6;
        fields = 7 ∷ 8 ∷ [];
        bytes = 1;
        tail = Some (record { field = 7; unit = 4; base = 4 });
        select = [];
        cases = [];
        other = target.Accept;
      } ∷ [];
}

-- its fields stand in bit 2 of word 0 and in word 3; the high half of the byte of g tells the tail
abbrev tailed_parser : ParserConfig
tailed_parser = record {
  states = record { lookups = [] } ∷ record { lookups = [] } ∷ [];
  entries =
      record { state = 0; value = 0; mask = 0; need = 1; advance = 1; next = next.State 1; extracts = PutOne (lane 0 1 1) ∷ Bits 0 (lane 1 0 8) ∷ [] }
      ∷ record { state = 1; value = 0; mask = 0; need = 1; advance = 1; next = next.Accept; extracts = PutOne (lane 0 2 1) ∷ Bits 0 (lane 3 4 4) ∷ Bits 4 (lane 3 0 4) ∷ [] } ∷ [];
  tails = record { entry = 1; header = 1; from = 0; len = 4; unit = 4; base = 4 } ∷ [];
}

abbrev tailed_config : Config
tailed_config = record config {
  headers = config.headers ++ record { valid = lane 0 2 1; bytes = 1; pieces = lane 3 4 4 ∷ lane 3 0 4 ∷ [] } ∷ [];
  parser = tailed_parser;
  names = Some (names_of tailed lists);
}

-- it keeps the rules of form, of which one is that a configuration with a tail has names, and the limits
pub formed : Formed tailed_config
formed = record { items = refl; whole = record { rows = refl; tables = refl; memory = memories_hold; numbers = refl; names = refl; tails = refl } }

pub within : IsWithinLimits tailed_config
within = refl

-- ---- packets

abbrev with_frame : List ℕ → Packet
with_frame frame = record { port = 7; frame = frame }

-- a tail of 4 bytes, and one byte of payload
abbrev frame : ℕ → List ℕ
frame d = d ∷ 0x2f ∷ 1 ∷ 2 ∷ 3 ∷ 4 ∷ 9 ∷ []

-- the packet is sent with its tail
pub sends_tail :
    (outcome_of (own_look tailed_config) tailed_config (with_frame (frame 0x32)) ≡ record { verdict = Sent 2; bytes = frame 0x32; counted = record { number = 1; age = 8 } ∷ [] })
    × (answer_of tailed lists (with_frame (frame 0x32)) ≡ record { verdict = Sent 2; bytes = frame 0x32; hits = 1 ∷ [] })
sends_tail = (refl, refl)

-- one without a byte of tail
pub sends_none :
    (outcome_of (own_look tailed_config) tailed_config (with_frame (0x15 ∷ 0x1f ∷ 9 ∷ [])) ≡ record { verdict = Sent 1; bytes = 0x15 ∷ 0x1f ∷ 9 ∷ []; counted = record { number = 0; age = 11 } ∷ [] })
    × (answer_of tailed lists (with_frame (0x15 ∷ 0x1f ∷ 9 ∷ [])) ≡ record { verdict = Sent 1; bytes = 0x15 ∷ 0x1f ∷ 9 ∷ []; hits = 0 ∷ [] })
sends_none = (refl, refl)

-- a tail that is cut
pub cut_tail :
    (outcome_of (own_look tailed_config) tailed_config (with_frame (0x32 ∷ 0x2f ∷ 1 ∷ 2 ∷ 3 ∷ [])) ≡ record { verdict = Short; bytes = []; counted = [] })
    × (answer_of tailed lists (with_frame (0x32 ∷ 0x2f ∷ 1 ∷ 2 ∷ 3 ∷ [])) ≡ record { verdict = Short; bytes = []; hits = [] })
cut_tail = (refl, refl)

-- one of fewer than 0 bytes
pub negative_tail :
    (outcome_of (own_look tailed_config) tailed_config (with_frame (0x32 ∷ 0x0f ∷ 9 ∷ [])) ≡ record { verdict = Reject; bytes = []; counted = [] })
    × (answer_of tailed lists (with_frame (0x32 ∷ 0x0f ∷ 9 ∷ [])) ≡ record { verdict = Reject; bytes = []; hits = [] })
negative_tail = (refl, refl)

-- ---- commits

-- a packet, some cycles, and the packet again until it has left
abbrev around : ℕ → List Input → List Input
around d cycles = Enters (with_frame (frame d)) ∷ (cycles ++ Enters (with_frame (frame d)) ∷ replicate 15 Idle)

abbrev events : ℕ → List Change → List Event
events d changes = Arrives (with_frame (frame d)) ∷ Commits changes ∷ Arrives (with_frame (frame d)) ∷ []

-- these two ports, and the frame with its tail
abbrev ports_told : ℕ → ℕ → ℕ → List (Verdict × List ℕ)
ports_told d first second = (Sent first, frame d) ∷ (Sent second, frame d) ∷ []

-- both answer this
abbrev both_tell : ℕ → List Input → List Change → ℕ → ℕ → Type 0
both_tell d cycles changes first second =
    (map told_by_outcome (outcomes_in tailed_config (around d cycles)) ≡ ports_told d first second)
    × (map told_by_answer (answers_of_events tailed lists (events d changes)) ≡ ports_told d first second)

abbrev count : ℕ → ℕ → Count
count number packets = record { entry = number; packets = packets; bytes = 7 * packets }

-- a line goes: the packet in flight keeps its tail as the next one does
pub removed : both_tell 0x32 gone goes 2 3
removed = (refl, refl)

pub removed_counts : (counts_in tailed_config (around 0x32 gone) ≡ count 0 0 ∷ count 1 1 ∷ count 2 1 ∷ [])
    × (counts_of_events tailed lists (events 0x32 goes) ≡ count 0 0 ∷ count 1 1 ∷ count 2 1 ∷ [])
removed_counts = (refl, refl)

-- a line comes
pub added : both_tell 0x15 come comes 1 5
added = (refl, refl)

-- a line comes for which rows move
pub moved_rows : both_tell 0x32 moved comes_first 2 5
moved_rows = (refl, refl)

pub moved_counts : (counts_in tailed_config (around 0x32 moved) ≡ count 0 0 ∷ count 1 1 ∷ count 2 0 ∷ count 3 1 ∷ [])
    × (counts_of_events tailed lists (events 0x32 comes_first) ≡ count 0 0 ∷ count 1 1 ∷ count 2 0 ∷ count 3 1 ∷ [])
moved_counts = (refl, refl)

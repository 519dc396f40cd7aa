-- When the chip answers and counts as a program does, for every list of packets.
use Rattle.std.specs.Prelude.{◌≡◌, ℕ, List, All, map}
use Rattle.rmt_bits.specs.Packet.{Packet, IsPacket}
use Rattle.rmt_bits.specs.declared.answer.Answer.{Answer}
use Rattle.rmt_bits.specs.declared.answer.Verdict.{Verdict}
use Rattle.rmt_refine.specs.Types.{Program, Config}
use Rattle.rmt_ast.specs.declared.entry.Entry.{Entry}
use Rattle.rmt_ast.specs.Answers.{answers_of, counts_of}
use Rattle.rmt_config.specs.ChipRun.{Outcome, chip_counts_of, inputs_of, outcomes_of}

-- the verdict and the bytes of an answer
abbrev pub told_by_answer : Answer → Verdict × List ℕ
told_by_answer a = (a.verdict, a.bytes)

-- those of an outcome
abbrev pub told_by_outcome : Outcome → Verdict × List ℕ
told_by_outcome o = (o.verdict, o.bytes)

-- For every list of packets the verdicts and bytes of the chip run, and its counters, are those of the plain run.
pub record RunsAs (p : Program) (lists : List (List Entry)) (c : Config) : Type 0 where
  pub answers : (packets : List Packet) → All IsPacket packets → map told_by_outcome (outcomes_of c packets) ≡ map told_by_answer (answers_of p lists packets)
  pub counters : (packets : List Packet) → All IsPacket packets → chip_counts_of c (inputs_of c packets) ≡ counts_of p lists packets

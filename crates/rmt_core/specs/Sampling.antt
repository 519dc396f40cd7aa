-- What `sample` gives: the counts of a run over the packets of a large input that is made from a number.
use Rattle.std.specs.Prelude.{ℕ, List, length, map}
use Rattle.rmt_bits.specs.Packet.{Packet}
use Rattle.rmt_core.specs.Types.{Program, Config}
use Rattle.rmt_ast.specs.declared.entry.Entry.{Entry}
use Rattle.rmt_ast.specs.Answers.{answers_of}
use Rattle.rmt_config.specs.ChipRun.{cycles_of, outcomes_of}
use Rattle.rmt_packets.specs.PacketText.{packets_of}
use Rattle.rmt_refine.specs.RunsAs.{told_by_answer, told_by_outcome}
use Rattle.rmt_sample.specs.Meaning.{AreOfSample}
use Rattle.rmt_sample.specs.Texts.{packets_text}
use Rattle.rmt_core.specs.declared.placer.Placer.TheVariants.{ByRule}
use Rattle.rmt_drive.specs.declared.status.Status.TheVariants.{Done}
use Rattle.rmt_core.specs.Compiling.{Builds}
use Rattle.rmt_drive.specs.Files.{Files}
use Rattle.rmt_drive.specs.Given.{Given, told}
use Rattle.rmt_drive.specs.SampleText.{answers_line}

-- the packets that the text says
abbrev pub sample_packets : ℕ → List Packet
sample_packets n = (packets_of (packets_text n)).packets

-- the answers are those of the plain run, and the stages and cycles are those of the chip
abbrev pub sample_line : ℕ → Program → List (List Entry) → Config → List ℕ
sample_line n p lists c = answers_line n (map told_by_answer (answers_of p lists (sample_packets n))) (length c.stages) (cycles_of c (sample_packets n))

-- `sample N`: its texts mean a program with entries, of which a configuration is made, or the last line tells why there is none
abbrev pub GivesSample : Files → ℕ → Given → Type 0
GivesSample files n g =
    (p : Program) × (lists : List (List Entry)) × AreOfSample n p lists
    × Builds ByRule files (λ image m c b. told files Done (sample_line n p lists c)) p lists g

-- the line of the chip's own answers
abbrev pub chip_line : ℕ → Config → List ℕ
chip_line n c = answers_line n (map told_by_outcome (outcomes_of c (sample_packets n))) (length c.stages) (cycles_of c (sample_packets n))

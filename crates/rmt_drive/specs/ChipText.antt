-- What `sim` and `probe` print of a run of the chip over packets and commits, by the inputs of its cycles.
use Rattle.std.specs.Prelude.{ℕ, zero, suc, ◌+◌, List, [], ◌++◌, length, nat_lt, if◌then◌else◌, replicate, take, Option, Some, None}
use Rattle.std.specs.List.{flat_map}
use Rattle.rmt_packets.specs.PacketText.{BadLine}
use Rattle.rmt_config.specs.declared.config.Config.{Config}
use Rattle.rmt_config.specs.ChipRun.{latency_of, words_at}
use Rattle.rmt_config.specs.RunInputs.{Idle, Input, counts_in, flight_in}
use Rattle.rmt_chip.specs.Held.{Entered}
use Rattle.rmt_chip.specs.Stands.{in_flight}
use Rattle.rmt_refine.specs.EventRuns.{outcomes_in}
use Rattle.rmt_drive.specs.declared.watch.Watch.{Watch}
use Rattle.rmt_drive.specs.declared.watch.Watch.TheVariants.{Answers, Vectors}
use Rattle.rmt_drive.specs.ProbeText.{vector_line}
use Rattle.rmt_drive.specs.SimText.{bad_packets_line, answer_lines, count_line, cycles_line, flight_line}

-- the line of what has an age, if anything has
abbrev pub line_at : Config → ℕ → Option Entered → List ℕ
line_at c age None = []
line_at c age (Some e) = vector_line e.number age (words_at e.look c e.packet age)

-- the lines of what is in flight behind the cycles of these inputs, of ages below a number, the oldest first
unfoldable pub flying_below : Config → List Input → ℕ → List ℕ
flying_below c inputs zero = []
flying_below c inputs (suc age) = line_at c age (in_flight c inputs age) ++ flying_below c inputs age

-- the vectors in flight at a cycle, counted from 0, where it is one of these
abbrev pub vectors_at : Config → List Input → ℕ → List ℕ
vectors_at c inputs cycle = if nat_lt cycle (length inputs) then flying_below c (take (cycle + 1) inputs) (latency_of c.stages + 1) else []

-- the lines of the cycles of these inputs
abbrev pub lines_of : Watch → Config → List Input → List ℕ
lines_of Answers c inputs = answer_lines 0 (outcomes_in c inputs)
lines_of (Vectors cycle) c inputs = vectors_at c inputs cycle

-- what stands behind the lines of all cycles: the counters, the cycles and the greatest number in flight, or the last line for a bad line
abbrev pub end_of : Watch → Config → List Input → Option BadLine → List ℕ
end_of watch c inputs (Some bad) = bad_packets_line bad.code bad.line
end_of (Vectors cycle) c inputs None = []
end_of Answers c inputs None = flat_map count_line (counts_in c inputs) ++ (cycles_line (length inputs) ++ flight_line (flight_in c inputs))

-- the cycles of a run: those made for its lines, and then nothing enters so many times; but where vectors are watched and a line is bad, none behind it
abbrev pub all_cycles : Watch → List Input → ℕ → Option BadLine → List Input
all_cycles Answers made empty bad = made ++ replicate empty Idle
all_cycles (Vectors cycle) made empty None = made ++ replicate empty Idle
all_cycles (Vectors cycle) made empty (Some bad) = made

-- the whole text of a run, where these cycles were made for its lines
abbrev pub run_text : Watch → Config → List Input → ℕ → Option BadLine → List ℕ
run_text watch c made empty bad = let all = all_cycles watch made empty bad in lines_of watch c all ++ end_of watch c all bad

-- What `sim` prints of a run of the chip.
use Rattle.std.specs.Prelude.{ℕ, ◌+◌, List, [], ◌∷◌, ◌++◌, codes}
use Rattle.std.specs.Fmt.{decimal}
use Rattle.rmt_bits.specs.declared.answer.Answer.{Answer}
use Rattle.rmt_bits.specs.declared.answer.Count.{Count}
use Rattle.rmt_packets.specs.AnswerLine.{answer_line}
use Rattle.rmt_config.specs.ChipRun.{Outcome}

abbrev pub answer_of_outcome : Outcome → Answer
answer_of_outcome o = record { verdict = o.verdict; bytes = o.bytes; hits = [] }

-- a line for each answer, numbered from a number on
abbrev pub answer_lines : ℕ → List Outcome → List ℕ
answer_lines n [] = []
answer_lines n (o ∷ os) = answer_line n (answer_of_outcome o) ++ answer_lines (n + 1) os

-- `count ENTRY PACKETS BYTES`
abbrev pub count_line : Count → List ℕ
count_line c = codes "count " ++ (decimal c.entry ++ (codes " " ++ (decimal c.packets ++ (codes " " ++ (decimal c.bytes ++ codes "\n")))))

abbrev pub cycles_line : ℕ → List ℕ
cycles_line n = codes "cycles " ++ (decimal n ++ codes "\n")

abbrev pub flight_line : ℕ → List ℕ
flight_line n = codes "flight " ++ (decimal n ++ codes "\n")

-- `bad packets CODE line L`
abbrev pub bad_packets_line : ℕ → ℕ → List ℕ
bad_packets_line code line = codes "bad packets " ++ (decimal code ++ (codes " line " ++ (decimal line ++ codes "\n")))

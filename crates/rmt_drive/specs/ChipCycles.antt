-- A run of the chip, cycle by cycle.
use Rattle.std.specs.Prelude.{◌≡◌, ◌≤◌, ◌<◌, ℕ, ◌^◌, List, [], length, Option, Some, None}
use Rattle.rmt_bits.specs.declared.answer.Verdict.{Verdict}
use Rattle.rmt_io.specs.Outside.{SinkState}
use Rattle.rmt_ast.specs.Events.{Event}
use Rattle.rmt_config.specs.declared.config.Config.{Config}
use Rattle.rmt_config.specs.Commits.{RunState}
use Rattle.rmt_config.specs.RunInputs.{Idle, Input, Turns, Writes, flight_in}
use Rattle.rmt_chip.specs.declared.chip.Chip.{Chip}
use Rattle.rmt_chip.specs.Inputs.{MayEnter, input_from}
use Rattle.rmt_chip.specs.Stands.{Stands, entered_of, spare_of, version_of}
use Rattle.rmt_memory.specs.Writable.{IsTaken}
use Rattle.rmt_packets.specs.AnswerLine.{answer_line}
use Rattle.rmt_refine.specs.EventRuns.{outcomes_in}
use Rattle.rmt_drive.specs.declared.running.state.Run.{Run}
use Rattle.rmt_drive.specs.declared.running.turn.Cycle.{Cycle}
use Rattle.rmt_drive.specs.declared.running.turn.Cycle.TheVariants as cycle
use Rattle.rmt_drive.specs.declared.watch.Watch.{Watch}
use Rattle.rmt_drive.specs.ChipEvents.{Comes, lists_in, names_in}
use Rattle.rmt_drive.specs.ChipText.{lines_of}
use Rattle.rmt_runs.specs.declared.fault.RunFault.{RunFault}
use Rattle.rmt_runs.specs.Cuts.{Cut}
use Rattle.rmt_runs.specs.Waiting.{Written}

-- a run with its chip stands for the inputs so far: of the lines of their cycles some were written, and the rest waits
pub record Goes (watch : Watch) (c : Config) (made : List Input) (run : Run) (chip : Chip) (before now : SinkState) : Type 0 where
  pub watches : run.watch ≡ watch
  pub stands : Stands c made chip
  pub clocked : run.cycles ≡ length made
  pub numbered : run.answered ≡ length (outcomes_in c made)
  pub flies : run.flight ≡ flight_in c made
  pub written : Written (lines_of watch c made) run.waiting.lines.items before now

-- the input of a cycle
abbrev pub input_for : Cycle → Input
input_for cycle.Idle = Idle
input_for (cycle.Enters frame) = input_from (Some frame)
input_for (cycle.Changes write) = Writes write.now
input_for (cycle.Turns seed) = Turns seed

-- for how many numbers less a chip can count behind it
abbrev pub spent_by : Cycle → ℕ
spent_by cycle.Idle = 0
spent_by (cycle.Enters frame) = 0
spent_by (cycle.Changes write) = 1
spent_by (cycle.Turns seed) = 0

-- a cycle that a chip may have: a frame that may enter, a cell that the chip takes and can count for, and not too many versions
abbrev pub MayTurn : Chip → Cycle → Type 0
MayTurn chip cycle.Idle = entered_of chip < 2 ^ 63
MayTurn chip (cycle.Enters frame) = MayEnter (Some frame) × (entered_of chip < 2 ^ 63)
MayTurn chip (cycle.Changes write) = IsTaken chip.config.stages write.now × (1 ≤ spare_of chip)
MayTurn chip (cycle.Turns seed) = version_of chip < 2 ^ 63

-- the line of what left, if anything did
abbrev pub line_if : ℕ → Option Verdict → List ℕ → List ℕ
line_if n None bytes = []
line_if n (Some verdict) bytes = answer_line n (record { verdict = verdict; bytes = bytes; hits = [] })

-- a run that has come so far with packets and commits
pub record Came (watch : Watch) (c : Config) (events : List Event) (made : List Input) (r : RunState) (run : Run) (chip : Chip) (before now : SinkState) : Type 0 where
  pub comes : Comes c (names_in c) (lists_in c) events made r
  pub goes : Goes watch c made run chip before now

-- what holds for each that a run with its chip stands for
abbrev pub EachCame : Run → Chip → SinkState → (Watch → Config → List Input → RunState → SinkState → Type 0) → Type 0
EachCame run chip now P =
    (w : Watch) (c : Config) (events : List Event) (made : List Input) (r : RunState) (before : SinkState) → Came w c events made r run chip before now → P w c made r before

-- a run that has come so far, and has room for the cycles in which a commit waits
pub record MayWait (run : Run) (chip : Chip) (now : SinkState) : Type 0 where
  pub came : (w : Watch) × (c : Config) × (events : List Event) × (made : List Input) × (r : RunState) × (before : SinkState) × Came w c events made r run chip before now
  pub entered : entered_of chip < 2 ^ 63
  pub cycles : run.cycles < 2 ^ 126

-- a run broke off in these cycles: a front of their lines was printed
abbrev pub CutOff : Watch → Config → List Input → SinkState → SinkState → RunFault → Type 0
CutOff watch c made before now f = Cut (lines_of watch c made) before now f

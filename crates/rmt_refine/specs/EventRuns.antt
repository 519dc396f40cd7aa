-- When a run of packets and commits answers and counts as the program does.
use Rattle.std.specs.Prelude.{◌≡◌, List, Some, filter_map, length, map}
use Rattle.std.specs.List.{range_with_len}
use Rattle.rmt_ast.specs.declared.entry.Entry.{Entry}
use Rattle.rmt_ast.specs.declared.names.Names.{Names}
use Rattle.rmt_ast.specs.Changes.{at_first}
use Rattle.rmt_ast.specs.EntryLists.{AreEntries}
use Rattle.rmt_ast.specs.Events.{Event, answers_of_events, counts_of_events}
use Rattle.rmt_ast.specs.WellFormed.{IsProgram}
use Rattle.rmt_config.specs.ChipRun.{Outcome}
use Rattle.rmt_config.specs.Commits.{RunsTo}
use Rattle.rmt_config.specs.Form.{Formed}
use Rattle.rmt_config.specs.Limits.{IsWithinLimits}
use Rattle.rmt_config.specs.RunInputs.{Input, answer_in, counts_in}
use Rattle.rmt_refine.specs.Types.{Config, Program}
use Rattle.rmt_refine.specs.declared.map.Map.{Map}
use Rattle.rmt_refine.specs.Carries.{Carries}
use Rattle.rmt_refine.specs.Fit.{AreFit}
use Rattle.rmt_refine.specs.RunsAs.{told_by_answer, told_by_outcome}

-- the answers that leave in a run of inputs, in order
abbrev pub outcomes_in : Config → List Input → List Outcome
outcomes_in c inputs = filter_map (answer_in c inputs) (range_with_len 0 (length inputs))

-- The verdicts and bytes of a run of inputs, and its counters, are those of the program for a list of packets and commits: of each packet with
-- the entries that just the commits before it leave.
pub record AnswersEvents (p : Program) (lists : List (List Entry)) (c : Config) (events : List Event) (inputs : List Input) : Type 0 where
  pub answers : map told_by_outcome (outcomes_in c inputs) ≡ map told_by_answer (answers_of_events p lists events)
  pub counters : counts_in c inputs ≡ counts_of_events p lists events

-- Where a configuration with names carries a program with its entries, each run that it may have for a list of packets and commits
-- answers and counts as the program does.
abbrev pub EventsAreAnswered : Type 0
EventsAreAnswered =
    (p : Program) (lists : List (List Entry)) (m : Map) (c : Config) (names : Names) (events : List Event) (inputs : List Input)
    → IsProgram p → AreEntries p lists → Carries p lists m c → Formed c → IsWithinLimits c → c.names ≡ Some names
    → AreFit p (at_first lists) events → RunsTo c names lists events inputs → AnswersEvents p lists c events inputs

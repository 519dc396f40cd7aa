-- The states that a run of packets and commits passes, and that each is a reached one.
use Rattle.std.specs.Prelude.{◌≡◌, ℕ, List, [], ◌∷◌, Some, All}
use Rattle.rmt_ast.specs.declared.entry.Entry.{Entry}
use Rattle.rmt_ast.specs.declared.names.Names.{Names}
use Rattle.rmt_ast.specs.Changes.{at_first}
use Rattle.rmt_ast.specs.Events.{Event}
use Rattle.rmt_config.specs.Commits.{RunState, RunsFrom, RunsTo, arrives, behind_commit, behind_packet, commits, ends}
use Rattle.rmt_config.specs.Form.{Formed}
use Rattle.rmt_config.specs.RunCells.{look_in, own_cells}
use Rattle.rmt_config.specs.RunInputs.{Input, cells_at}
use Rattle.rmt_refine.specs.Types.{Config, Program}
use Rattle.rmt_refine.specs.Fit.{AreFit}
use Rattle.rmt_refine.specs.ShortCommits.{IsReached}

-- the state in which a run begins
abbrev pub first_state : Config → List (List Entry) → RunState
first_state c lists = record { cells = own_cells c; entries = at_first lists; cycle = 0; older_gone = 0; all_gone = 0 }

-- the states that a run passes: the one in which it begins, and those behind each packet and each commit
abbrev pub states_from : (c : Config) (names : Names) (r : RunState) (events : List Event) (inputs : List Input) → RunsFrom c names r events inputs → List RunState
states_from c names r events inputs (ends s) = s ∷ []
states_from c names r events inputs (arrives s packet more rest runs) = s ∷ states_from c names (behind_packet c s) more rest runs
states_from c names r events inputs (commits s changes more rest moved seed next writes makes are runs) =
    s ∷ states_from c names (behind_commit s changes moved seed writes next) more rest runs

-- the cells of a state are those of its cycle: of its version, and look-ups find the same in them
pub record IsOfItsCycle (c : Config) (inputs : List Input) (r : RunState) : Type 0 where
  pub version : (cells_at c inputs r.cycle).version ≡ r.cells.version
  pub looks : (version k place key : ℕ) → look_in c version (cells_at c inputs r.cycle) k place key ≡ look_in c version r.cells k place key

-- Each state that a run passes, of packets that can come in and of changes that can be made where they stand, is a reached one, and has the
-- cells of its cycle: so what is said of reached states is said of every state of every run.
abbrev pub RunsPassReachedStates : Type 0
RunsPassReachedStates =
    (p : Program) (lists : List (List Entry)) (c : Config) (names : Names) (events : List Event) (inputs : List Input)
    → Formed c → c.names ≡ Some names → AreFit p (at_first lists) events → (runs : RunsTo c names lists events inputs)
    → All (λ r. ((recent : List Entry) × IsReached p c names lists recent r) × IsOfItsCycle c inputs r) (states_from c names (first_state c lists) events inputs runs)

-- Numbers of entries that no change gives again: those of cells and of entries are below the next one.
use Rattle.std.specs.Prelude.{◌<◌, ℕ, All}
use Rattle.std.specs.List.{flat_map}
use Rattle.rmt_ast.specs.Answers.{entry_numbers}
use Rattle.rmt_ast.specs.Changes.{Installed}
use Rattle.rmt_config.specs.declared.config.Config.{Config}
use Rattle.rmt_config.specs.RunCells.{RunCells}
use Rattle.rmt_update.specs.BookStands.{IsUsed}

-- the numbers of all used cells are below one
abbrev pub AreBelow : Config → RunCells → ℕ → Type 0
AreBelow c cells n = (k place m : ℕ) → IsUsed c cells k place m → cells.number k place m < n

-- the numbers of all entries are below the next one
abbrev pub IsNextAbove : Installed → Type 0
IsNextAbove s = All (λ n. n < s.next) (flat_map entry_numbers s.lists)

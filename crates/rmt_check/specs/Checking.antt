-- What internal functions answer: a helper, which no public clause cites.
use Rattle.std.specs.Prelude.{◌≡◌, ⊤, ℕ, ◌-◌, List, [], Some, None, option_map, get_or, Result, Ok, Err}
use Rattle.rmt_check.specs.Parts.{Position, ProgramFault, Source}
use Rattle.rmt_lexer.specs.declared.fault.ProgramFault.TheVariants.{NoMemory, At}
use Rattle.rmt_check.specs.Rules.{broken, least_of}
use Rattle.rmt_check.specs.Meaning.{fault_at}

-- some rules, by code, with the places where they are broken
abbrev pub Rules : Type 0
Rules = List (ℕ × List Position)

-- that a fault is the least of those of some rules, or want of memory
abbrev pub IsFault : Rules → ProgramFault → Type 0
IsFault rules NoMemory = ⊤
IsFault rules (At code line column) = option_map fault_at (least_of rules) ≡ Some (At code line column)

-- Ok exactly where none of the rules is broken; else the fault, or want of memory
abbrev pub Checks : Rules → Result (Unit {0}) ProgramFault → Type 0
Checks rules (Ok u) = least_of rules ≡ None
Checks rules (Err e) = IsFault rules e

-- the places where the rule of a code is broken, the codes being 5 and those that follow
abbrev pub broken_by : ℕ → Source → List Position
broken_by code s = (get_or (broken s) (code - 5) (0, [])).1

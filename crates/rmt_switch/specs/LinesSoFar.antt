-- What is known while the lines of a group text are read.
use Rattle.std.specs.Prelude.{◌≡◌, ◌≤◌, ℕ, ◌+◌, List, ◌++◌, length, Option, Some, None}
use Rattle.rmt_bits.specs.Lines.{numbered_lines}
use Rattle.rmt_switch.specs.declared.group_text.Group.{Group as GroupRead}
use Rattle.rmt_switch.specs.GroupText.{Group, groups_of, reading}

-- numbers behind those so far, if there are some
abbrev pub behind : List ℕ → Option (List ℕ) → Option (List ℕ)
behind ns None = None
behind ns (Some more) = Some (ns ++ more)

-- a group that was read, as the definition has it
abbrev pub told : GroupRead → Group
told g = record { number = g.number; ports = g.ports }

-- the lines before the rest are read: what is left says the same as the whole text
pub record Reads (text rest : List ℕ) (number : ℕ) (groups : List (List ℕ)) : Type 0 where
  pub same : groups_of text ≡ reading groups (numbered_lines number rest)
  pub few : number + length rest ≤ length text + 1

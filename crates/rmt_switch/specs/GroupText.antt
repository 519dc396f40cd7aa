-- What a group text says: which ports the packets of a group go to.
use Rattle.std.specs.Prelude.{◌≡◌, ℕ, ◌<◌, ◌≤◌, Bool, true, not, ◌==◌, ◌&&◌, nat_lt, nat_le, nat_eq, if◌then◌else◌, List, [], ◌∷◌, length, replicate, slice_set, slice_index_or, Option, Some, None, Result, Ok, Err}
use Rattle.std.specs.List.{All, IsDistinct, list_any}
use Rattle.rmt_bits.specs.Lines.{numbered_lines}
pub use Rattle.rmt_bits.specs.Digits.{below, decimal}
pub use Rattle.rmt_bits.specs.Lines.{words}
use Rattle.rmt_switch.specs.declared.fault.GroupFault.{GroupFault}
use Rattle.rmt_switch.specs.declared.fault.GroupFault.TheVariants.{At}

-- ---- the numbers of a line

-- the number of a port or of a group, below 512
abbrev pub port_of : List ℕ → Option ℕ
port_of word = below 512 (decimal word)

-- a number before others
abbrev pub before : Option ℕ → Option (List ℕ) → Option (List ℕ)
before None ns = None
before (Some n) None = None
before (Some n) (Some ns) = Some (n ∷ ns)

-- the numbers that words say, where each says one
abbrev pub all_ports : List (List ℕ) → Option (List ℕ)
all_ports [] = Some []
all_ports (word ∷ ws) = before (port_of word) (all_ports ws)

abbrev pub numbers_of : List ℕ → Option (List ℕ)
numbers_of line = all_ports (words line)

-- ---- the group of a line

-- the ports of a group
pub record Group : Type 0 where
  pub number : ℕ
  pub ports : List ℕ

-- no number stands twice
abbrev pub are_distinct : List ℕ → Bool
are_distinct [] = true
are_distinct (n ∷ ns) = not (list_any (λ m. m == n) ns) && are_distinct ns

-- 1 to 8 distinct ports
abbrev pub are_ports : List ℕ → Bool
are_ports ports = nat_lt 0 (length ports) && nat_le (length ports) 8 && are_distinct ports

-- a group from 256 on, and its ports
abbrev pub group_of : Option (List ℕ) → Option Group
group_of None = None
group_of (Some []) = None
group_of (Some (number ∷ ports)) = if nat_le 256 number && are_ports ports then Some (record { number = number; ports = ports }) else None

-- ---- the groups of a text

-- for each number below 512 the ports of the line of its group, none where no line has it
abbrev pub no_groups : List (List ℕ)
no_groups = replicate 512 []

-- whether a line has the group
abbrev pub has_group : List (List ℕ) → ℕ → Bool
has_group groups number = not (length (slice_index_or groups number []) == 0)

-- the groups with that of one more line; none where the line says none, or the group of an earlier one
abbrev pub with_group : List (List ℕ) → Option Group → Option (List (List ℕ))
with_group groups None = None
with_group groups (Some g) = if has_group groups g.number then None else Some (slice_set groups g.number g.ports)

-- the groups behind a line, or its fault, before what the lines behind it say
abbrev pub line_then : ℕ → Option (List (List ℕ)) → (List (List ℕ) → Result (List (List ℕ)) GroupFault) → Result (List (List ℕ)) GroupFault
line_then number None rest = Err (At 8 number)
line_then number (Some groups) rest = rest groups

-- the groups of some lines behind those of earlier ones, or the first bad line
abbrev pub reading : List (List ℕ) → List (ℕ × List ℕ) → Result (List (List ℕ)) GroupFault
reading groups [] = Ok groups
reading groups (l ∷ ls) = line_then l.0 (with_group groups (group_of (numbers_of l.1))) (λ more. reading more ls)

-- the groups that a text says, or its first bad line
abbrev pub groups_of : List ℕ → Result (List (List ℕ)) GroupFault
groups_of text = reading no_groups (numbered_lines 1 text)

-- ---- what holds of all groups

-- at most 8 ports, no port twice
pub record IsPortList (ports : List ℕ) : Type 0 where
  pub few : length ports ≤ 8
  pub within : All (λ port. port < 512) ports
  pub once : IsDistinct nat_eq ports

-- the lists of groups
pub record AreGroups (groups : List (List ℕ)) : Type 0 where
  pub all : length groups ≡ 512
  pub each : All IsPortList groups

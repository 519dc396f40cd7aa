-- What answers that can fail for want of memory give.
use Rattle.std.specs.Prelude.{◌≡◌, ℕ, List, Result, Ok, Err}
use Rattle.rmt_switch.specs.declared.fault.GroupFault.{GroupFault}
use Rattle.rmt_switch.specs.declared.fault.GroupFault.TheVariants.{At, NoMemory}

-- the groups or the fault that is wanted, unless memory runs out
abbrev pub Gives : Result (List (List ℕ)) GroupFault → Result (List (List ℕ)) GroupFault → Type 0
Gives (Ok groups) wanted = wanted ≡ Ok groups
Gives (Err NoMemory) wanted = Unit {0}
Gives (Err (At code line)) wanted = wanted ≡ Err (At code line)

-- want of memory, or the fault of that line, which is bad then
abbrev pub IsFault : GroupFault → ℕ → Type 0 → Type 0
IsFault NoMemory number is_bad = Unit {0}
IsFault (At code line) number is_bad = (code ≡ 8) × (line ≡ number) × is_bad

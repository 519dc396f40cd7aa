-- What an answer says.
use Rattle.std.specs.Prelude.{◌≡◌, Result, Ok, Err}
use Rattle.rmt_entries.specs.declared.fault.EntryFault.{EntryFault}
use Rattle.rmt_entries.specs.declared.fault.EntryFault.TheVariants.{NoMemory, At}

-- the answer is that one, but for want of memory
abbrev pub Gives : {X : Type 0} → Result X EntryFault → Result X EntryFault → Type 0
Gives (Ok x) wanted = wanted ≡ Ok x
Gives (Err NoMemory) wanted = Unit {0}
Gives (Err (At code line)) wanted = wanted ≡ Err (At code line)

-- what want of memory is told as
abbrev pub IsNoMemory : {E : Type 0} → E → EntryFault → Type 0
IsNoMemory error fault = fault ≡ NoMemory

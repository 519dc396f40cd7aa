-- What want of memory is told as.
use Rattle.std.specs.Prelude.{◌≡◌}
use Rattle.rmt_lexer.specs.declared.fault.ProgramFault.{ProgramFault}
use Rattle.rmt_lexer.specs.declared.fault.ProgramFault.TheVariants.{NoMemory}

abbrev pub IsNoMemory : {E : Type 0} → E → ProgramFault → Type 0
IsNoMemory error fault = fault ≡ NoMemory

-- The faults that a shelf of the machine keeps.
use Rattle.std.specs.Prelude.{◌≡◌, ℕ, List, Option, Some, None, IfSome, option_map, string_bytes, String}
use Rattle.std.specs.Global.{Global}
use Rattle.std.specs.declared.io.ErrorKind.{ErrorKind}
use Rattle.rmt_io.specs.Faults.{Rose}
use Rattle.rmt_io.specs.declared.true_shelf.MachineFault.{MachineFault}

-- the fault that is kept, if any, is of the file of this name
abbrev pub IsFaultNamed : List ℕ → Option MachineFault → Type 0
IsFaultNamed name last = IfSome last (λ fault. string_bytes fault.name ≡ name)

-- the fault that is kept, if any, has this name and kind
abbrev pub IsFaultOf : List ℕ → ErrorKind → Option MachineFault → Type 0
IsFaultOf name kind last = IfSome last (λ fault. (string_bytes fault.name ≡ name) × (fault.kind ≡ kind))

-- a fault with this name was counted, and is kept
pub record WasTold (name : List ℕ) (before after : ℕ) (last : Option MachineFault) : Type 0 where
  pub counted : Rose before after
  pub kept : IsFaultNamed name last

-- the name that a fault of the open file is kept under: the one kept with the file, or else that of the fault before it
abbrev pub name_kept : Option (String Global) → Option MachineFault → Option (List ℕ)
name_kept (Some name) last = Some (string_bytes name)
name_kept None last = option_map (λ fault. string_bytes fault.name) last

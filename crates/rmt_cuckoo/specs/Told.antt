-- What a fault of loading says.
use Rattle.std.specs.Prelude.{ℕ, List}
use Rattle.rmt_cuckoo.specs.declared.layout.Ways.{Ways}
use Rattle.rmt_cuckoo.specs.declared.fault.LoadFault.{LoadFault}
use Rattle.rmt_cuckoo.specs.declared.fault.LoadFault.TheVariants.{NoMemory, Overfull}
use Rattle.rmt_cuckoo.specs.Loading.{IsOverfull}

-- a fault but for want of memory tells an overfull list
abbrev pub Explains : List Ways → ℕ → List (List ℕ) → LoadFault → Type 0
Explains layout seed keys NoMemory = Unit {0}
Explains layout seed keys (Overfull members cells) = IsOverfull layout seed keys members cells

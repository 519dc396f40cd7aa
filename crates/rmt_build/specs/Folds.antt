-- What the actions of a program fold to.
use Rattle.std.specs.Prelude.{ℕ, ◌+◌, List, [], ◌∷◌, Option, Some, None, Result, Ok, Err}
use Rattle.rmt_build.specs.Types.{Action}
use Rattle.rmt_vliw.specs.declared.folded.Folded.{Folded}
use Rattle.rmt_vliw.specs.declared.fault.ActionDeep.{ActionDeep}
use Rattle.rmt_vliw.specs.declared.fault.ActionDeep.TheVariants.{At}
use Rattle.rmt_vliw.specs.Folding.{folded_of}

-- the first of some actions that doesn't fold, of which the first has this number
abbrev pub deep_then : ℕ → Result Folded ℕ → Option ActionDeep → Option ActionDeep
deep_then n (Ok folded) rest = rest
deep_then n (Err field) rest = Some (At n field)

abbrev pub first_deep : ℕ → List Action → Option ActionDeep
first_deep n [] = None
first_deep n (a ∷ actions) = deep_then n (folded_of a) (first_deep (n + 1) actions)

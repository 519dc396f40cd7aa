-- What calls of `verify` leave.
use Rattle.std.proofs.Common.{◌≡◌, ◌≢◌, inl, ℕ, List, Result, Ok, Err}
use Rattle.rmt_verify.specs.declared.fault.MapFault.{MapFault}
use Rattle.rmt_verify.specs.declared.fault.MapFault.TheVariants.{NoMemory, Form}
use Rattle.rmt_verify.specs.Spells.{Spells}
use Rattle.rmt_verify.specs.declared.map_file.MapFile.{MapFile}
use Rattle.rmt_drive.specs.declared.status.Status.{Status}
use Rattle.rmt_drive.specs.Ends.{Answered, Outside}
use Rattle.rmt_drive.specs.Given.{Given}
use Rattle.rmt_core.specs.Verifying.{HasMap}
use Rattle.rmt_drive.proofs.EndLaws.{answered_as}
use Rattle.rmt_core.proofs.GivenDone.{map_is}
use Rattle.rmt_core.proofs.GivenOnce.{OneMap}

-- bytes spell a map
pub map_answered : OneMap → (before after : Outside) (bytes : List ℕ) (next : MapFile → Given → Type 0) (m : MapFile) (s : Status) → Spells bytes m
    → Answered before after (next m) s → Answered before after (HasMap before.shelf.files bytes next) s
map_answered one before after bytes next m s spells h =
    answered_as before after (next m) (HasMap before.shelf.files bytes next) s (λ g n. inl (m, spells, n)) (λ g u. map_is one before.shelf.files bytes next g m spells u) h

-- bytes that were refused for their form spell none
pub no_map : (bytes : List ℕ) (r : Result MapFile MapFault) → r ≡ Err Form → ((m : MapFile) → Spells bytes m → r ≢ Err NoMemory → r ≡ Ok m) → (m : MapFile) → Spells bytes m → ⊥
no_map bytes r form only m spells = let read : r ≡ Ok m = only m spells (λ e. cc) in cc

-- What moves between memory and files.
use Rattle.std.specs.Prelude.{◌≡◌, ℕ, List, [], Option, Some, None, ⊤, ◌⊎◌, Result, Ok, Err}
use Rattle.std.specs.IoError.{error_kind}
use Rattle.std.specs.declared.io.Error.{Error}
use Rattle.std.specs.declared.io.ErrorKind.TheVariants.{InvalidInput, Unsupported}

-- the bytes left in the open file, where they are known, and none where no file is open
abbrev pub left_in : {F : Type 0} → (F → Option (List ℕ)) → Option F → Option (List ℕ)
left_in remaining None = Some []
left_in remaining (Some file) = remaining file

-- what the system answers when it is asked to keep bytes, and keeps them or has a place that can keep none, as a pipe
abbrev pub IsKept : Result (Unit {0}) Error → Type 0
IsKept (Ok _) = ⊤
IsKept (Err error) = (error_kind error ≡ InvalidInput) ⊎ (error_kind error ≡ Unsupported)

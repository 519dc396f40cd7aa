-- When a number can get a counter that is 0.
use Rattle.std.specs.Prelude.{◌≡◌, ℕ, List, All, Contains}
use Rattle.rmt_bits.specs.Counts.{Hit}

-- if a number was hit it is among these
abbrev pub IsThereIfHit : List ℕ → List Hit → ℕ → Type 0
IsThereIfHit numbers hits n = All (λ (h : Hit). h.number ≡ n → Contains numbers n) hits

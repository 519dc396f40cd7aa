-- What is kept of the keys of exact parts, one after another: their bytes, or prints by which they are told apart, since keys of different prints differ.
use Rattle.std.specs.Prelude.{◌≡◌, ℕ, ◌*◌, ◌/◌, ◌%◌, ◌^◌, ◌<◌, ◌≤◌, Option, None, Some, List, [], ◌∷◌, ◌++◌, length, Bool, true, false, if◌then◌else◌, nat_le, bit_xor, map}
use Rattle.std.specs.List.{flat_map, list_all}
use Rattle.rmt_bits.specs.Bits.{bytes_of, number_of}
use Rattle.rmt_bits.specs.Hash.{fnv}
use Rattle.rmt_config.specs.Types.{CellNumber, Config}
use Rattle.rmt_config.specs.KeysSeen.{keys_listed}
use Rattle.rmt_config.specs.NamesForm.{stands_in_candidates}
use Rattle.rmt_config.specs.Rooms.{PartAt}

-- the print of a number of 64 bits: the halves of a product, one on the other
abbrev pub spread : ℕ → ℕ
spread n = let product = n * 11400714819323198485 in bit_xor (product % 2 ^ 64) (product / 2 ^ 64)

-- the print of bytes: that of their number where they are at most 8, else their hash
abbrev pub print : List ℕ → ℕ
print bytes = if nat_le (length bytes) 8 then spread (number_of bytes) else fnv bytes

-- the print of a key as that many bytes
abbrev pub print_of : ℕ → ℕ → ℕ
print_of size key = print (bytes_of size key)

-- the number of bytes is known exactly where they are at most 8
abbrev pub NumberKnown : List ℕ → Option ℕ → Type 0
NumberKnown bytes None = 8 < length bytes
NumberKnown bytes (Some number) = (length bytes ≤ 8) × (number_of bytes ≡ number)

-- what is kept of a key of these bytes: all of them, or its print
abbrev pub kept_of : Bool → List ℕ → List ℕ
kept_of true bytes = bytes
kept_of false bytes = print bytes ∷ []

-- what is kept of keys as that many bytes each
abbrev pub kept_of_keys : Bool → ℕ → List ℕ → List ℕ
kept_of_keys whole size ks = flat_map (λ k. kept_of whole (bytes_of size k)) ks

-- it is found out whether each cell stands as a rule says, and where it does what is kept of their keys is added to others
pub record KeysAdded (whole : Bool) (size : ℕ) (stands : CellNumber → Bool) (key : CellNumber → ℕ) (ns : List CellNumber) (old new : List ℕ) (stand : Bool) : Type 0 where
  pub answer : stand ≡ list_all stands ns
  pub added : stand ≡ true → new ≡ old ++ kept_of_keys whole size (map key ns)

-- it is found out whether the cells of parts are candidates of their keys, and where they are what is kept of the keys is added to others
pub record PartKeys (whole : Bool) (c : Config) (size : ℕ) (ps : List PartAt) (old new : List ℕ) (stand : Bool) : Type 0 where
  pub answer : stand ≡ list_all (stands_in_candidates c) ps
  pub added : stand ≡ true → new ≡ old ++ kept_of_keys whole size (keys_listed c ps)

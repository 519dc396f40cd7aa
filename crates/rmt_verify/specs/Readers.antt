-- Ways to read the items of a map from the front of bytes: an item and the bytes behind it; the form is broken where no such item stands there.
use Rattle.std.specs.Prelude.{ℕ, ◌+◌, ◌*◌, List, Option, Some, None, Result}
use Rattle.rmt_bits.specs.Readers as bits
pub use Rattle.rmt_bits.specs.Readers.{◌>>=◌, ◌⊗◌, made, list_at}
use Rattle.rmt_verify.specs.declared.fault.MapFault.{MapFault}
use Rattle.rmt_verify.specs.declared.fault.MapFault.TheVariants.{NoMemory, Form}

-- the fault of the bytes, unless memory ran out
abbrev pub fault_of : MapFault → Option MapFault
fault_of NoMemory = None
fault_of Form = Some Form

-- what a function returned, seen by view, is what reading gives, unless memory ran out
abbrev pub Gives : {X Y : Type 0} → (X → Y) → Result X MapFault → Result Y MapFault → Type 0
Gives view result read = bits.Gives fault_of view result read

abbrev pub Reader : Type 0 → Type 0
Reader A = bits.Reader MapFault A

-- n items
abbrev pub items_at : {A : Type 0} → Reader A → ℕ → Reader (List A)
items_at read n = list_at read n

-- a count, and that many items
abbrev pub listed : {A : Type 0} → Reader ℕ → Reader A → Reader (List A)
listed count read = bits.listed count (items_at read)

unfoldable pub byte_at : Reader ℕ
byte_at bytes = bits.byte_at Form bytes

-- numbers of two and of four bytes, the highest first
abbrev pub two_of_parts : ℕ × ℕ → ℕ
two_of_parts x = 256 * x.0 + x.1

unfoldable pub two_at : Reader ℕ
two_at bytes = made two_of_parts (byte_at ⊗ byte_at) bytes

abbrev pub four_of_parts : ℕ × ℕ → ℕ
four_of_parts x = 65536 * x.0 + x.1

unfoldable pub four_at : Reader ℕ
four_at bytes = made four_of_parts (two_at ⊗ two_at) bytes

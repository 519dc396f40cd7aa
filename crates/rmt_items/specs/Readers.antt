-- Ways to read the items of an image from the front of bytes: an item and the bytes behind it, or the first fault that is met.
use Rattle.std.specs.Prelude.{ℕ, [], ◌∷◌, Bool, ◌==◌, nat_lt, nat_le, if◌then◌else◌, Option, Some, None, Result, Err}
use Rattle.rmt_bits.specs.Readers as bits
pub use Rattle.rmt_bits.specs.Readers.{give, behind, ◌⊗◌, made, list_at, listed}
unfoldable pub use Rattle.rmt_bits.specs.Readers.{items_at, each}
use Rattle.rmt_items.specs.declared.fault.ReadFault.{ReadFault}
use Rattle.rmt_items.specs.declared.fault.ReadFault.TheVariants.{Short, Form}
use Rattle.rmt_items.specs.declared.fault.ReadError.{ReadError}
use Rattle.rmt_items.specs.declared.fault.ReadError.TheVariants as errors

-- the fault of the bytes, unless memory ran out
abbrev pub fault_of : ReadError → Option ReadFault
fault_of errors.Memory = None
fault_of (errors.Fault f) = Some f

-- what a function returned, seen by view, is what reading gives, unless memory ran out
abbrev pub Gives : {X Y : Type 0} → (X → Y) → Result X ReadError → Result Y ReadFault → Type 0
Gives view result read = bits.Gives fault_of view result read

abbrev pub Reader : Type 0 → Type 0
Reader A = bits.Reader ReadFault A

-- an item that passes a test; else the form is broken
abbrev pub kept : {A : Type 0} → (A → Bool) → Reader A → Reader A
kept test read = bits.kept Form test read

-- an item where a test of what stands before it is passed; else the form is broken
abbrev pub where_ : {A : Type 0} → Bool → Reader A → Reader A
where_ test read bytes = if test then read bytes else Err Form

-- ---- choices

-- behind a choice byte: what stands behind the byte k, or behind the others
abbrev pub when : {A : Type 0} → ℕ → Reader A → (ℕ → Reader A) → ℕ → Reader A
when k read others choice bytes = if choice == k then read bytes else others choice bytes

-- no other byte can stand here
abbrev pub no_other : {A : Type 0} → ℕ → Reader A
no_other choice bytes = Err Form

-- a choice byte, and what it says stands behind it
abbrev pub chosen : {A : Type 0} → (ℕ → Reader A) → Reader A
chosen choices [] = Err Short
chosen choices (choice ∷ rest) = choices choice rest

-- ---- numbers

abbrev pub at_most : ℕ → ℕ → Bool
at_most most n = nat_le n most

abbrev pub at_least : ℕ → ℕ → Bool
at_least least n = nat_le least n

abbrev pub below : ℕ → ℕ → Bool
below bound n = nat_lt n bound

unfoldable pub byte_at : Reader ℕ
byte_at bytes = bits.byte_at Short bytes

-- a number of n bytes, the highest first
unfoldable pub number_at : ℕ → Reader ℕ
number_at n bytes = bits.number_at Short n bytes

-- two numbers of four bytes
unfoldable pub fours_at : Reader (ℕ × ℕ)
fours_at bytes = (number_at 4 ⊗ number_at 4) bytes

abbrev pub is_flag : ℕ → Bool
is_flag n = nat_le n 1

abbrev pub is_one : ℕ → Bool
is_one n = n == 1

unfoldable pub flag_at : Reader Bool
flag_at bytes = made is_one (kept is_flag byte_at) bytes

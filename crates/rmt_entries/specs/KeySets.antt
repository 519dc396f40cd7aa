-- What a set of lists of numbers has: a list at one of its places, or one among those whose places were taken.
use Rattle.std.specs.Prelude.{◌≡◌, ◌≢◌, ◌<◌, ◌≤◌, ℕ, zero, suc, ◌+◌, ◌-◌, ◌*◌, ◌/◌, ◌%◌, ◌^◌, ◌==◌, ◌&&◌, ◌||◌, if◌then◌else◌, Bool, true, false, not, List, Vec, bit_xor, fold, length, take, drop, slice_index_or}
use Rattle.std.specs.Global.{Global}
use Rattle.std.specs.BTreeSet.{BTreeSet, contains}
use Rattle.std.specs.Str.{bytes_eq}
use Rattle.rmt_bits.specs.Members.{by_numbers}
use Rattle.rmt_entries.specs.declared.key_set.Spot.{Spot}
use Rattle.rmt_entries.specs.declared.key_set.Spot.TheVariants.{Free, Held, Crowded}

-- a print with one more number, of which the lowest four bits are those of the number
abbrev pub spread : ℕ → ℕ
spread n = bit_xor n (n / 2 ^ 32)

abbrev pub mixed : ℕ → ℕ → ℕ
mixed print number =
    (spread (((print + number % 2 ^ 64 / 16 * 16) % 2 ^ 64 + number / 2 ^ 64) % 2 ^ 64 * 11400714819323198485 % 2 ^ 64) * 16 % 2 ^ 64 + number % 2 ^ 64 % 16) % 2 ^ 64

-- the place of a list among so many; lists whose last numbers differ in the lowest four bits alone stand side by side
abbrev pub place_of : ℕ → List ℕ → ℕ
place_of places key = (fold mixed 0 key / 16 * 13787848793156543929 % 2 ^ 64 / 2 ^ 32 + fold mixed 0 key % 16) % places

-- the list that stands behind its length at a place
abbrev pub list_at : List ℕ → ℕ → List ℕ
list_at held at = take (slice_index_or held at 0) (drop (at + 1) held)

-- a slot's list is this one; slots count from 1, and 0 has none
abbrev pub is_at : List ℕ → ℕ → List ℕ → Bool
is_at held slot key = not (slot == 0) && bytes_eq key (list_at held (slot - 1))

-- how many places a list may stand at, and how far each is behind the one before
abbrev pub near : ℕ
near = 8

abbrev pub apart : ℕ
apart = 16

-- the first of them, where so many follow the last first one
abbrev pub home : List ℕ → List ℕ → ℕ
home slots key = place_of (length slots - near * apart) key

-- a list stands at one of so many places from one on
unfoldable pub is_near : List ℕ → List ℕ → ℕ → ℕ → List ℕ → Bool
is_near slots held zero place key = false
is_near slots held (suc count) place key = is_at held (slice_index_or slots place 0) key || is_near slots held count (place + apart) key

-- where a list belongs, which may stand at so many places from one on: the first that is free, unless it stands before that
unfoldable pub spot_of : List ℕ → List ℕ → ℕ → ℕ → List ℕ → Spot
spot_of slots held zero place key = Crowded
spot_of slots held (suc count) place key =
    if slice_index_or slots place 0 == 0
    then Free place
    else (if bytes_eq key (list_at held (slice_index_or slots place 0 - 1)) then Held else spot_of slots held count (place + apart) key)

-- a list is there that belongs there, where others of its places are in a set that has it or not
abbrev pub is_there : Bool → Spot → Bool
is_there others (Free place) = false
is_there others Held = true
is_there others Crowded = others

-- a list is among these
abbrev pub holds : List ℕ → List ℕ → BTreeSet (Vec ℕ Global) → Vec ℕ Global → Bool
holds slots held crowded key = is_near slots held near (home slots key.items) key.items || contains by_numbers crowded key

-- a set, as contracts see it: its slots, the lists that they have, and the others
abbrev pub KeySet : Type 0
KeySet = List ℕ × (List ℕ × BTreeSet (Vec ℕ Global))

abbrev pub has : KeySet → Vec ℕ Global → Bool
has set key = holds set.0 set.1.0 set.1.1 key

-- where a list belongs
abbrev pub spot_in : KeySet → List ℕ → Spot
spot_in set key = spot_of set.0 set.1.0 near (home set.0 key) key

-- the list of a slot is whole
abbrev pub IsWhole : List ℕ → List ℕ → Type 0
IsWhole slots held = (p : ℕ) → slice_index_or slots p 0 ≢ 0 → slice_index_or slots p 0 + slice_index_or held (slice_index_or slots p 0 - 1) 0 ≤ length held

-- each slot's list is whole, and each list is where it belongs
pub record Stands (slots held : List ℕ) (crowded : BTreeSet (Vec ℕ Global)) : Type 0 where
  pub some : near * apart < length slots
  pub whole : IsWhole slots held
  pub found : (key : Vec ℕ Global) → holds slots held crowded key ≡ true → is_there (contains by_numbers crowded key) (spot_of slots held near (home slots key.items) key.items) ≡ true

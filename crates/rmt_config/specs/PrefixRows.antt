-- The rows of a prefix table, in the order in which they stand.
use Rattle.std.specs.Prelude.{ℕ, List, Bool, not, ◌&&◌, ◌||◌, ◌==◌, nat_lt, is_some, map, unwrap_or}
use Rattle.std.specs.List.{flat_map, list_all}
use Rattle.rmt_bits.specs.Bits.{slice}
use Rattle.rmt_config.specs.declared.form.names.prefix_rows.Row.{Row}
use Rattle.rmt_config.specs.Types.{CellNumber, Config}
use Rattle.rmt_config.specs.Rooms.{PartAt}
use Rattle.rmt_config.specs.NamesForm.{each_later, held_by, prefix_length}

-- the mask of each row is some of the highest bits, or none
abbrev pub have_lengths : ℕ → List Row → Bool
have_lengths bits rows = list_all (λ (r : Row). is_some (prefix_length bits r.mask)) rows

-- the length of a row's prefix
abbrev pub length_in : ℕ → Row → ℕ
length_in bits r = unwrap_or (prefix_length bits r.mask) 0

-- the first row goes first: that of the longer prefix, and then of the less number
abbrev pub row_goes_first : ℕ → Row → Row → Bool
row_goes_first bits a b =
    nat_lt (length_in bits b) (length_in bits a) || (length_in bits a == length_in bits b && nat_lt a.number b.number)

-- two rows have the same prefix
abbrev pub have_same : ℕ → Row → Row → Bool
have_same bits a b = (slice a.key 0 bits == slice b.key 0 bits) && (slice a.mask 0 bits == slice b.mask 0 bits)

-- no prefix stands twice
abbrev pub stand_once : ℕ → List Row → Bool
stand_once bits rows = each_later (λ a b. not (have_same bits a b)) rows

-- rows that keep the rules on those of a prefix table
abbrev pub rows_keep : ℕ → List Row → Bool
rows_keep bits rows = have_lengths bits rows && each_later (row_goes_first bits) rows && stand_once bits rows

-- ---- the rows of a table

-- the row that a part's cell holds
abbrev pub row_in : Config → PartAt → CellNumber → Row
row_in c p n =
    let content = held_by c p n in
    record { key = content.key; mask = content.mask; number = n.number }

-- the rows of parts, by part and cell
abbrev pub rows_of : Config → List PartAt → List Row
rows_of c ps = flat_map (λ (p : PartAt). map (row_in c p) p.slot.numbers) ps

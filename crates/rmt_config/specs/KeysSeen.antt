-- The keys of exact parts, seen one after another.
use Rattle.std.specs.Prelude.{◌≡◌, ℕ, ◌+◌, ◌*◌, ◌/◌, ◌<◌, List, [], ◌∷◌, Vec, Bool, true, not, ◌&&◌, ◌==◌, map}
use Rattle.std.specs.List.{list_any, flat_map, range_with_len}
use Rattle.std.specs.Str.{bytes_eq}
use Rattle.std.specs.Global.{Global}
use Rattle.std.specs.BTreeSet.{BTreeSet, contains}
use Rattle.rmt_bits.specs.Bits.{bytes_of}
use Rattle.rmt_bits.specs.Hash.{hash_row}
use Rattle.rmt_bits.specs.Members.{by_numbers}
use Rattle.rmt_config.specs.Types.{CellNumber, Config, Memory, SramRow}
use Rattle.rmt_config.specs.declared.config.Memory.TheVariants.{Without, Exact, Ternary}
use Rattle.rmt_config.specs.LaneForm.{bits_of_lanes}
use Rattle.rmt_config.specs.Rooms.{PartAt}
use Rattle.rmt_config.specs.NamesForm.{held_by}
use Rattle.rmt_config.specs.Cells.{candidates, cell_of, entry_at, index_of, sram_row}

-- a set has the keys of a list, each as that many bytes
abbrev pub Knows : ℕ → List ℕ → BTreeSet (Vec ℕ Global) → Type 0
Knows size keys set = (q : Vec ℕ Global) → contains by_numbers set q ≡ list_any (λ k. bytes_eq (bytes_of size k) q.items) keys

-- whether a key was seen before
abbrev pub was_seen : ℕ → ℕ → List ℕ → Bool
was_seen size k before = list_any (λ m. bytes_eq (bytes_of size m) (bytes_of size k)) before

-- each key is new beside those before it
abbrev pub news : ℕ → List ℕ → List ℕ → Bool
news size before [] = true
news size before (k ∷ ks) = not (was_seen size k before) && news size (k ∷ before) ks

-- whether a cell is one in which a key of these bytes may stand
abbrev pub is_candidate : ℕ → ℕ → ℕ → ℕ → List ℕ → ℕ → Bool
is_candidate seed first_way per quanta key cell =
    list_any (λ m. m == cell)
    (flat_map (λ way. range_with_len (index_of (1024 * quanta) per (record { way = way; row = hash_row seed (first_way + way) key (1024 * quanta); position = 0 })) per) (range_with_len 0 4))

-- the key of a cell of an exact part
abbrev pub key_in : List SramRow → List ℕ → ℕ → ℕ → ℕ → ℕ → CellNumber → ℕ
key_in rows blocks width per quanta bits n = entry_at (sram_row rows) blocks width bits (cell_of (1024 * quanta) per n.cell) / 256

-- a cell is one in which its key may stand
abbrev pub stands_there : ℕ → ℕ → ℕ → ℕ → ℕ → (CellNumber → ℕ) → CellNumber → Bool
stands_there seed first_way per quanta size key n = is_candidate seed first_way per quanta (bytes_of size (key n)) n.cell

-- ---- over the parts of a table

-- the key that a part's cell holds
abbrev pub key_held : Config → PartAt → CellNumber → ℕ
key_held c p n = (held_by c p n).key

-- a part's cell is one in which its key may stand
abbrev pub stands_in : Config → PartAt → CellNumber → Bool
stands_in c p n = list_any (λ m. m == n.cell) (candidates c.seed (bits_of_lanes p.slot.keys) p.slot.memory (held_by c p n).key)

-- the keys of parts, by part and cell
abbrev pub keys_listed : Config → List PartAt → List ℕ
keys_listed c ps = flat_map (λ (p : PartAt). map (key_held c p) p.slot.numbers) ps

-- the ways of an exact part have numbers of a byte
abbrev pub WaysLow : Memory → Type 0
WaysLow Without = Unit {0}
WaysLow (Exact k per quanta first_way keys records counters) = first_way + 3 < 256
WaysLow (Ternary quanta keys records counters) = Unit {0}

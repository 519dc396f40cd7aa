-- How the memory of a table may be laid out, and which of its formats is taken.
use Rattle.std.specs.Prelude.{◌≡◌, ℕ, ◌+◌, ◌*◌, ◌/◌, ◌≤◌, List, [], ◌∷◌, Bool, false, ◌==◌, ◌&&◌, ◌||◌, nat_lt, nat_le, Option, Some, None, unwrap_or, ⊤, map, filter}
use Rattle.std.specs.List.{flat_map, range_with_len, best_of}
use Rattle.rmt_ast.specs.declared.program.Table.{Table}
use Rattle.rmt_ast.specs.declared.program.Kind.{Kind}
use Rattle.rmt_ast.specs.declared.program.Kind.TheVariants.{Keyless, Exact, Prefix, Ternary}
use Rattle.rmt_config.specs.BlockCounts.{exact_block_counts, ternary_block_counts}
pub use Rattle.rmt_config.specs.BlockCounts.{divided_up, record_width, records_a_row, record_units}
use Rattle.rmt_pack.specs.declared.format.Format.{Format}
use Rattle.rmt_pack.specs.declared.format.Need.{Need}

-- ---- quanta

-- the SRAM blocks of a quantum of an exact table, in units k blocks wide with p cells a row: of keys, records and counters
abbrev pub exact_sram : Need → ℕ → ℕ → ℕ
exact_sram n k p = let s = exact_block_counts k p 1 n.held n.counted in s.keys + s.records + s.counters

-- the SRAM blocks of a quantum of a prefix or ternary table: of records and counters
abbrev pub ternary_sram : Need → ℕ
ternary_sram n = let s = ternary_block_counts n.key 1 n.held n.counted in s.records + s.counters

-- the TCAM blocks of such a quantum
abbrev pub ternary_tcam : Need → ℕ
ternary_tcam n = divided_up n.key 40

-- ---- formats

-- a node without memory: one quantum that takes no block
abbrev pub no_memory : Format
no_memory = record { width = 0; per = 0; quanta = 1; sram = 0; tcam = 0 }

-- a prefix or ternary table: a quantum has 2,048 rows
abbrev pub ternary_format : Need → Format
ternary_format n = record { width = 0; per = 0; quanta = divided_up n.size 2048; sram = ternary_sram n; tcam = ternary_tcam n }

-- An exact table in units k blocks wide with p cells a row: a quantum has 4,096 rows, and there is room for an eighth more than the entries.
abbrev pub exact_layout : Need → ℕ → ℕ → Format
exact_layout n k p = record { width = k; per = p; quanta = divided_up (n.size + n.size / 8) (4096 * p); sram = exact_sram n k p; tcam = 0 }

-- the most cells in a row of k blocks; a cell has the key and a head of 8 bits
abbrev pub most_cells : Need → ℕ → ℕ
most_cells n k = 112 * k / (n.key + 8)

-- a format of an exact table: units 1 to 8 blocks wide, at least one cell a row, and a quantum that stands in the 106 SRAM blocks of a stage
pub record IsExactFormat (n : Need) (f : Format) : Type 0 where
  pub has_width : 1 ≤ f.width
  pub width : f.width ≤ 8
  pub has_cells : 1 ≤ f.per
  pub cells : f.per ≤ most_cells n f.width
  pub layout : f ≡ exact_layout n f.width f.per
  pub one_stage : f.sram ≤ 106

-- a format of a table of that kind
abbrev pub IsFormat : Kind → Need → Format → Type 0
IsFormat Keyless n f = f ≡ no_memory
IsFormat Exact n f = IsExactFormat n f
IsFormat Prefix n f = f ≡ ternary_format n
IsFormat Ternary n f = f ≡ ternary_format n

-- ---- the format that is taken

-- the SRAM blocks of a whole table
abbrev pub whole : Format → ℕ
whole f = f.quanta * f.sram

-- one format goes before another: fewer blocks for the whole table, then narrower units, then more cells a row
abbrev pub goes_before : Format → Format → Bool
goes_before f g = nat_lt (whole f) (whole g) || ((whole f == whole g) && (nat_lt f.width g.width || ((f.width == g.width) && nat_lt g.per f.per)))

-- The format that is taken of an exact table: no other goes before it.
pub record IsTaken (n : Need) (f : Format) : Type 0 where
  pub format : IsExactFormat n f
  pub first : (g : Format) → IsExactFormat n g → goes_before g f ≡ false

-- all layouts of an exact table in units k blocks wide
abbrev pub layouts_of_width : Need → ℕ → List Format
layouts_of_width n k = map (exact_layout n k) (range_with_len 1 (most_cells n k))

-- a quantum stands in the SRAM blocks of a stage
abbrev pub is_in_stage : Format → Bool
is_in_stage f = nat_le f.sram 106

-- all formats of an exact table
abbrev pub exact_formats : Need → List Format
exact_formats n = filter is_in_stage (flat_map (layouts_of_width n) (range_with_len 1 8))

-- the one that goes before all others
abbrev pub first_of : List Format → Option Format
first_of [] = None
first_of (f ∷ fs) = Some (best_of goes_before f fs)

abbrev pub exact_format : Need → Format
exact_format n = unwrap_or (first_of (exact_formats n)) no_memory

-- the memory format of a table of that kind
abbrev pub memory_format : Kind → Need → Format
memory_format Keyless n = no_memory
memory_format Exact n = exact_format n
memory_format Prefix n = ternary_format n
memory_format Ternary n = ternary_format n

-- ---- what tables need

-- what a table needs, whose key and data have that many bits
abbrev pub need_of : Table → ℕ → ℕ → Need
need_of t key held = record { key = key; held = held; size = t.size; counted = t.counted }

-- a key of 1 to 640 bits, at most 2,048 bits of data, and 1 to 1,048,576 entries
pub record IsNeed (n : Need) : Type 0 where
  pub has_key : 1 ≤ n.key
  pub key : n.key ≤ 640
  pub held : n.held ≤ 2048
  pub has_size : 1 ≤ n.size
  pub size : n.size ≤ 1048576

-- a table without a key may need anything
abbrev pub HasNeed : Kind → Need → Type 0
HasNeed Keyless n = ⊤
HasNeed Exact n = IsNeed n
HasNeed Prefix n = IsNeed n
HasNeed Ternary n = IsNeed n

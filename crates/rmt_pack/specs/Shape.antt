-- Parts of tables, and the rules of form that they keep.
use Rattle.std.specs.Prelude.{◌≡◌, ◌≢◌, ℕ, ◌+◌, ◌*◌, ◌-◌, ◌<◌, ◌≤◌, length, ◌++◌, Bool, false, ◌==◌, if◌then◌else◌, All, AllPairs, MatchBool}
use Rattle.rmt_config.specs.BlockCounts.{exact_block_counts, ternary_block_counts}
use Rattle.rmt_pack.specs.declared.shape.Shape.{Shape}

-- memory of kind 1 is exact, and of kind 2 ternary
abbrev pub is_exact : Shape → Bool
is_exact s = s.memory == 1

-- the cells of an exact part, or the rows of a ternary one
abbrev pub cells_in : Shape → ℕ
cells_in s = if is_exact s then 4096 * s.quanta * s.per else 2048 * s.quanta

-- a row of k blocks has room for p cells, each a head of 8 bits and a key
pub record IsExact (s : Shape) : Type 0 where
  pub some_width : 0 < s.width
  pub some_per : 0 < s.per
  pub fits : s.per * (s.key + 8) ≤ 112 * s.width
  pub keys : length s.keys ≡ (exact_block_counts s.width s.per s.quanta s.held false).keys
  pub records : length s.records ≡ (exact_block_counts s.width s.per s.quanta s.held false).records

-- a record has a head of 8 bits, and no key stands in SRAM
pub record IsTernary (s : Shape) : Type 0 where
  pub kind : s.memory ≡ 2
  pub no_width : s.width ≡ 0
  pub no_per : s.per ≡ 0
  pub head : 8 ≤ s.held
  pub keys : length s.keys ≡ 0
  pub records : length s.records ≡ (ternary_block_counts s.key s.quanta (s.held - 8) false).records

-- a part that keeps the rules of form: the block lists are as long as its memory says, and no block of them stands twice
pub record IsShape (s : Shape) : Type 0 where
  pub some_key : 0 < s.key
  pub most_key : s.key ≤ 640
  pub some_quanta : 0 < s.quanta
  pub most_quanta : s.quanta ≤ 106
  pub memory : MatchBool (is_exact s) (IsExact s) (IsTernary s)
  pub in_sram : All (λ block. block < 106) (s.keys ++ s.records)
  pub apart : AllPairs ◌≢◌ (s.keys ++ s.records)

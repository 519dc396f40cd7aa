-- The keys of exact tables, loaded under a seed.
use Rattle.std.specs.Prelude.{◌≡◌, ◌<◌, ◌≤◌, ◌^◌, ℕ, List, All, length, map}
use Rattle.rmt_bits.specs.Bits.{bytes_of}
use Rattle.rmt_filling.specs.Types.{Program, Table}
use Rattle.rmt_ast.specs.declared.entry.Entry.{Entry}
use Rattle.rmt_ast.specs.State.{width_of}
use Rattle.rmt_config.specs.BlockCounts.{divided_up}
use Rattle.rmt_config.specs.Rooms.{tests_as_one}
use Rattle.rmt_cuckoo.specs.declared.layout.Ways.{Ways}
use Rattle.rmt_cuckoo.specs.Loading.{IsLoading, IsOverfull, cells_of}
use Rattle.rmt_pack.specs.Placements.{key_bits}
use Rattle.rmt_filling.specs.declared.keys.TableTried.{TableTried}
use Rattle.rmt_filling.specs.declared.keys.TableTried.TheVariants as table
use Rattle.rmt_filling.specs.EntryCells.{IsLoadedAt, StandOnce}

-- the keys of entries of a table as bytes
abbrev pub keys_of : Program → Table → List Entry → List (List ℕ)
keys_of p t es = map (λ (e : Entry). bytes_of (divided_up (key_bits p t) 8) (tests_as_one (λ test. test.value) (map (width_of p) t.key) e.tests)) es

-- of the keys of an exact table: each stands in the cell into which it is loaded, or some have fewer cells than they are
abbrev pub IsTried : List Ways → ℕ → List (List ℕ) → TableTried → Type 0
IsTried layout seed keys (table.Stand own) = (cells : List ℕ) × IsLoading layout seed keys cells × StandOnce (length keys) own × All (IsLoadedAt cells) own
IsTried layout seed keys (table.Overfull members cells) = (own : List ℕ) × IsOverfull layout seed keys own cells × (members ≡ length own)

-- keys can be loaded: there are at most 64 parts, each with a row, and fewer than 2 ^ 32 cells and keys
pub record CanBeLoaded (layout : List Ways) (keys : List (List ℕ)) : Type 0 where
  pub parts : length layout ≤ 64
  pub rows : All (λ (part : Ways). 1 ≤ part.rows) layout
  pub few_cells : cells_of layout < 2 ^ 32
  pub few_keys : length keys < 2 ^ 32

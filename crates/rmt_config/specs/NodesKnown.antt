-- What is kept of each node between two units.
use Rattle.std.specs.Prelude.{◌≡◌, ℕ, ◌+◌, ◌^◌, ◌<◌, List, length, count_by, find, Option, None, option_map, slice_index, slice_index_or}
use Rattle.rmt_config.specs.declared.form.tables.Part.{Part}
use Rattle.rmt_config.specs.declared.form.tables.Nodes.{Nodes}
use Rattle.rmt_config.specs.TableForm.{Placed, has_node}

abbrev pub placed_of : Part → Placed
placed_of p = record { stage = p.stage; unit = p.unit.now }

abbrev pub so_far_of : Nodes → ℕ → ℕ
so_far_of nodes n = slice_index nodes.so_far n

abbrev pub left_of : Nodes → ℕ → ℕ
left_of nodes n = slice_index nodes.left n

abbrev pub last_of : Nodes → ℕ → Option Placed
last_of nodes n = option_map placed_of (slice_index_or nodes.last n None)

-- of each node: how many of the units before are its own, the nearest of them, and how many of the units that come
pub record Knows (nodes : Nodes) (before : List Placed) (rest : List Placed) : Type 0 where
  pub whole : length nodes.last ≡ 256
  pub so_far : (n : ℕ) → n < 256 → so_far_of nodes n ≡ count_by (has_node n) before
  pub left : (n : ℕ) → n < 256 → left_of nodes n ≡ count_by (has_node n) rest
  pub last : (n : ℕ) → n < 256 → last_of nodes n ≡ find (has_node n) before
  pub room : (n : ℕ) → n < 256 → so_far_of nodes n + left_of nodes n < 2 ^ 128

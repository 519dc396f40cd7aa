-- Frames that stand in cells.
use Rattle.std.specs.Prelude.{◌≡◌, ℕ, zero, suc, ◌+◌, ◌-◌, ◌*◌, ◌≤◌, List, [], ◌∷◌, ◌++◌, length, take, map, min, Option, Some, None, slice_get, slice_index_or, All}
use Rattle.rmt_cells.specs.declared.cells.Cells.{Cells}
use Rattle.rmt_cells.specs.declared.cells.Chain.{Chain}
use Rattle.rmt_cells.specs.Links.{after}
use Rattle.rmt_cells.specs.Pieces.{cells_for}
use Rattle.rmt_cells.specs.Stands.{Held, Stands, held_if}

-- the bytes in the first n cells of a chain
abbrev pub spelt : Cells → Chain → ℕ → List ℕ
spelt cells chain zero = []
spelt cells chain (suc n) =
    spelt cells chain n ++ take (min 64 (chain.len - n * 64)) (slice_index_or cells.blocks.items (after cells.links.items chain.first n) [])

-- the bytes of a frame, and none where no chain is
abbrev pub bytes_in : Cells → Option Chain → List ℕ
bytes_in cells None = []
bytes_in cells (Some chain) = spelt cells chain (cells_for chain.len)

-- the chains of frames, each with its bytes
abbrev pub held_frames : List (Option Chain) → List (List ℕ) → List Held
held_frames [] frames = []
held_frames (chain ∷ chains) [] = []
held_frames (chain ∷ chains) (frame ∷ frames) = held_if chain frame ++ held_frames chains frames

-- how many cells so many frames of 9,216 bytes take, and one frame more
abbrev pub frame_cells : ℕ → ℕ
frame_cells count = 144 * (count + 1)

-- cells hold these frames and nothing else: none without a chain, and each of at most 9,216 bytes
pub record AreFrames (cells : Cells) (chains : List (Option Chain)) (frames : List (List ℕ)) : Type 0 where
  pub as_many : length frames ≡ length chains
  pub absent : (i : ℕ) → slice_get chains i ≡ Some None → slice_index_or frames i [] ≡ []
  pub stands : Stands (frame_cells (length chains)) (held_frames chains frames) cells
  pub short : All (λ frame. length frame ≤ 9216) frames

-- the frames of chains
abbrev pub frames_in : Cells → List (Option Chain) → List (List ℕ)
frames_in cells chains = map (bytes_in cells) chains

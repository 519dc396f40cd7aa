-- Frames as contracts see them.
use Rattle.std.specs.Prelude.{ℕ, List, [], slice_index_or}
use Rattle.rmt_chip.specs.declared.frames.Frames.{Frames}
use Rattle.rmt_chip.specs.Frames.{frames_in}

-- the bytes of each frame, and none where no frame is
abbrev pub frames_of : Frames → List (List ℕ)
frames_of frames = frames_in frames.cells frames.chains.items

-- the bytes of one
abbrev pub frame_at : Frames → ℕ → List ℕ
frame_at frames at = slice_index_or (frames_of frames) at []

-- Places in the ring of packet slots, and the cells of frames, worked by hand.
use Rattle.std.proofs.Common.{◌≡◌, refl}
use Rattle.rmt_chip.specs.Ring.{ring_at, ring_after}
use Rattle.rmt_chip.specs.Frames.{frame_cells}

-- ---- a ring of seven places, of which the third is the newest

newest_itself : ring_at 7 2 0 ≡ 2
newest_itself = refl

first_place : ring_at 7 2 2 ≡ 0
first_place = refl

behind_the_end : ring_at 7 2 3 ≡ 6
behind_the_end = refl

oldest_of_all : ring_at 7 2 6 ≡ 3
oldest_of_all = refl

place_behind : ring_after 7 2 ≡ 3
place_behind = refl

behind_the_last : ring_after 7 6 ≡ 0
behind_the_last = refl

-- ---- cells of 64 bytes: 144 a frame of 9,216 bytes, and those of one frame more

no_frame : frame_cells 0 ≡ 144
no_frame = refl

two_frames : frame_cells 2 ≡ 432
two_frames = refl

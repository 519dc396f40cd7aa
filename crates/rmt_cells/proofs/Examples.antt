-- Walks and pieces that are worked by hand.
use Rattle.std.proofs.Common.{◌≡◌, ◌*◌, [], ◌∷◌, ◌++◌, replicate, refl}
use Rattle.rmt_cells.specs.Links.{after, walk, times}
use Rattle.rmt_cells.specs.Pieces.{cells_for, piece}

-- a cell holds 64 bytes, and a frame of 9,216 bytes needs 144 cells
one_byte : cells_for 1 ≡ 1
one_byte = refl

full_cell : cells_for 64 ≡ 1
full_cell = refl

one_more : cells_for 65 ≡ 2
one_more = refl

two_cells : cells_for 128 ≡ 2
two_cells = refl

largest_frame : cells_for 9216 ≡ 144
largest_frame = refl

-- 385 of the largest frames fit into 65,536 cells
all_frames : cells_for (385 * 9216) ≡ 55440
all_frames = refl

-- the 66th byte is the second of the second piece
second_piece : piece (replicate 64 1 ++ 2 ∷ 3 ∷ []) 1 ≡ 2 ∷ 3 ∷ []
second_piece = refl

-- the chain 2, 0 goes before the free cells 1 and 3: its last cell is linked to 1
before : walk (3 ∷ 3 ∷ 0 ∷ 9 ∷ []) 2 2 ≡ 2 ∷ 0 ∷ []
before = refl

after_it : walk (1 ∷ 3 ∷ 0 ∷ 9 ∷ []) 2 4 ≡ 2 ∷ 0 ∷ 1 ∷ 3 ∷ []
after_it = refl

third : after (1 ∷ 3 ∷ 0 ∷ 9 ∷ []) 2 2 ≡ 1
third = refl

once : times 3 (2 ∷ 0 ∷ 1 ∷ 3 ∷ []) ≡ 1
once = refl

-- Words that are written into a row of TCAM blocks, one after another.
use Rattle.std.specs.Prelude.{◌≡◌, ℕ, ◌+◌, ◌<◌, ◌^◌, List, bit_and, slice_index}
use Rattle.rmt_config.specs.Cells.{Blocks}
use Rattle.rmt_pack.specs.declared.tcam.TcamWord.{TcamWord}

-- a word of 40 bits whose value has no bit outside its mask
pub record IsMaskedWord (w : TcamWord) : Type 0 where
  pub value : w.value < 2 ^ 40
  pub mask : w.mask < 2 ^ 40
  pub masked : bit_and w.value w.mask ≡ w.value

-- so many of the words stand in the row, each in its block, from the first one on; all else is as it was
pub record WordsSo (old new : Blocks) (row : ℕ) (blocks : List ℕ) (first upto : ℕ) (words : List ℕ) : Type 0 where
  pub written : (k : ℕ) → k < upto → new (slice_index blocks (first + k)) row ≡ slice_index words k
  pub others : (b r : ℕ) → (r ≡ row → (k : ℕ) → k < upto → b ≡ slice_index blocks (first + k) → ⊥) → new b r ≡ old b r

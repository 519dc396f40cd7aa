-- Runs of bytes before and after one of them is written.
use Rattle.std.specs.Prelude.{◌≡◌, ◌≢◌, ℕ, ◌<◌, List, slice_index}
use Rattle.rmt_memory.specs.declared.runs.Runs.{Runs}
use Rattle.rmt_memory.specs.Searching.{run_of}

-- as many runs of the same size, of which all but one stay
pub record OthersStay (at : ℕ) (old new : Runs) : Type 0 where
  pub size : new.size ≡ old.size
  pub count : new.count ≡ old.count
  pub others : (n : ℕ) → n < old.count → n ≢ at → run_of new n ≡ run_of old n

-- a run has these bytes
pub record RunSet (at : ℕ) (bytes : List ℕ) (old new : Runs) : Type 0 where
  pub stay : OthersStay at old new
  pub run : run_of new at ≡ bytes

-- the first byte of a run is 0
pub record HeadCleared (at : ℕ) (old new : Runs) : Type 0 where
  pub stay : OthersStay at old new
  pub head : slice_index (run_of new at) 0 ≡ 0

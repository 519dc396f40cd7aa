-- A small map, as bytes and as what they spell, and bytes that spell none.
use Rattle.std.proofs.Common.{◌≡◌, ℕ, List, [], ◌∷◌, ◌++◌, Ok, Err, refl}
use Rattle.std.specs.Prelude.{take, slice_set}
use Rattle.rmt_verify.specs.Types.{MapFile}
use Rattle.rmt_verify.specs.Spelling.{spelled_map}
use Rattle.rmt_verify.specs.declared.fault.MapFault.TheVariants.{Form}
use Rattle.rmt_bits.specs.Readers.{items_at}
use Rattle.rmt_verify.specs.Readers.{byte_at, two_at, four_at}
use Rattle.rmt_verify.specs.Reading.{lane_at, lanes_at, join_at, part_at, start_at, cell_at, lists_at, map_of}

-- two fields, the second in two lanes; one join, two parts, two starts and a cell
abbrev small : MapFile
small = record {
  map = record {
    places = (record { word = 64; low = 0; len = 9 } ∷ []) ∷ (record { word = 0; low = 0; len = 8 } ∷ record { word = 160; low = 0; len = 32 } ∷ []) ∷ [];
    placement = record { parts = record { node = 0; stage = 0; quanta = 1 } ∷ record { node = 1; stage = 2; quanta = 513 } ∷ [] };
    starts = 0 ∷ 268 ∷ [];
    cells = record { entry = 7; stage = 2; cell = 65537 } ∷ [];
  };
  joins = record { state = 1; entry = 258 } ∷ [];
}

abbrev small_bytes : List ℕ
small_bytes =
    82 ∷ 77 ∷ 84 ∷ 77 ∷ 0 ∷ 1 ∷ 0 ∷ 0 ∷ 0 ∷ 2 ∷ 1 ∷ 64 ∷ 0 ∷ 9 ∷ 2 ∷ 0 ∷ 0 ∷ 8 ∷ 160 ∷ 0 ∷ 32 ∷ 0 ∷ 1 ∷ 1 ∷ 1 ∷ 2
    ∷ 0 ∷ 2 ∷ 0 ∷ 0 ∷ 0 ∷ 1 ∷ 1 ∷ 2 ∷ 2 ∷ 1 ∷ 2 ∷ 0 ∷ 0 ∷ 1 ∷ 12 ∷ 0 ∷ 0 ∷ 0 ∷ 1 ∷ 0 ∷ 0 ∷ 0 ∷ 7 ∷ 2 ∷ 0 ∷ 1 ∷ 0 ∷ 1 ∷ []

small-spelled : spelled_map small ≡ small_bytes
small-spelled = refl

small-read : map_of small_bytes ≡ Ok small
unfolding lists_at lanes_at lane_at join_at part_at start_at cell_at items_at four_at two_at byte_at
small-read = refl

-- a byte behind it; one byte fewer; a lane of no bit; a version 2
small-behind : map_of (small_bytes ++ 0 ∷ []) ≡ Err Form
unfolding lists_at lanes_at lane_at join_at part_at start_at cell_at items_at four_at two_at byte_at
small-behind = refl

small-cut : map_of (take 53 small_bytes) ≡ Err Form
unfolding lists_at lanes_at lane_at join_at part_at start_at cell_at items_at four_at two_at byte_at
small-cut = refl

small-no_bit : map_of (slice_set small_bytes 13 0) ≡ Err Form
unfolding lists_at lanes_at lane_at join_at part_at start_at cell_at items_at four_at two_at byte_at
small-no_bit = refl

small-version : map_of (slice_set small_bytes 5 2) ≡ Err Form
small-version = refl

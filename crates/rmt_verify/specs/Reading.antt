-- Reading a map from its front.
use Rattle.std.specs.Prelude.{ℕ, List, [], ◌∷◌, drop, Result, Ok, Err, codes, nat_eq, if◌then◌else◌}
use Rattle.std.specs.List.{starts_with}
use Rattle.rmt_config.specs.LaneForm.{lane_is_formed}
use Rattle.rmt_verify.specs.Types.{Lane, Part, Join, CellOf, MapFile}
use Rattle.rmt_bits.specs.Readers.{kept}
use Rattle.rmt_verify.specs.declared.fault.MapFault.{MapFault}
use Rattle.rmt_verify.specs.declared.fault.MapFault.TheVariants.{Form}
use Rattle.rmt_verify.specs.Readers.{◌>>=◌, Reader, ◌⊗◌, made, listed, byte_at, two_at, four_at}

abbrev pub lane_of_parts : ℕ × (ℕ × ℕ) → Lane
lane_of_parts x = record { word = x.0; low = x.1.0; len = x.1.1 }

unfoldable pub lane_at : Reader Lane
lane_at bytes = kept Form lane_is_formed (made lane_of_parts (byte_at ⊗ byte_at ⊗ byte_at)) bytes

-- the lanes of a field
unfoldable pub lanes_at : Reader (List Lane)
lanes_at bytes = listed byte_at lane_at bytes

abbrev pub join_of_parts : ℕ × ℕ → Join
join_of_parts x = record { state = x.0; entry = x.1 }

unfoldable pub join_at : Reader Join
join_at bytes = made join_of_parts (byte_at ⊗ two_at) bytes

abbrev pub part_of_parts : ℕ × (ℕ × ℕ) → Part
part_of_parts x = record { node = x.0; stage = x.1.0; quanta = x.1.1 }

unfoldable pub part_at : Reader Part
part_at bytes = made part_of_parts (byte_at ⊗ byte_at ⊗ two_at) bytes

unfoldable pub start_at : Reader ℕ
start_at bytes = two_at bytes

abbrev pub cell_of_parts : ℕ × (ℕ × ℕ) → CellOf
cell_of_parts x = record { entry = x.0; stage = x.1.0; cell = x.1.1 }

unfoldable pub cell_at : Reader CellOf
cell_at bytes = made cell_of_parts (four_at ⊗ byte_at ⊗ four_at) bytes

abbrev pub file_of_parts : List (List Lane) × (List Join × (List Part × (List ℕ × List CellOf))) → MapFile
file_of_parts x = record {
  map = record {
    places = x.0;
    placement = record { parts = x.1.1.0 };
    starts = x.1.1.1.0;
    cells = x.1.1.1.1;
  };
  joins = x.1.0;
}

-- what stands behind the version
unfoldable pub lists_at : Reader MapFile
lists_at bytes =
    made file_of_parts
    (listed four_at lanes_at ⊗ listed two_at join_at ⊗ listed two_at part_at ⊗ listed byte_at start_at ⊗ listed four_at cell_at) bytes

-- nothing may stand behind what is read
abbrev pub all_of : {A : Type 0} → A × List ℕ → Result A MapFault
all_of (x, []) = Ok x
all_of (x, byte ∷ rest) = Err Form

abbrev pub whole_of : List ℕ → Result MapFile MapFault
whole_of bytes = lists_at bytes >>= all_of

-- the map that bytes are: the four letters, the version, the lists, and nothing else
abbrev pub map_of : List ℕ → Result MapFile MapFault
map_of bytes = if starts_with nat_eq bytes (codes "RMTM\0\u{1}") then whole_of (drop 6 bytes) else Err Form

-- What an entry compares: tests of bytes, of which the words of 32 bits are made at the end.
use Rattle.std.specs.Prelude.{ℕ, ◌+◌, List, ◌++◌, ◌==◌, nat_lt, unwrap_or, find, map}
use Rattle.std.specs.List.{filter, zip}
use Rattle.rmt_bits.specs.Bits.{bytes_of}
use Rattle.rmt_ptcam.specs.Types.{ParserEntry}
use Rattle.rmt_config.specs.Parser.{high_bytes}

-- a byte that is compared: how far it is behind the cursor, and its value on a mask
pub record ByteTest : Type 0 where
  pub offset : ℕ
  pub value : ℕ
  pub mask : ℕ

-- the test of a byte that stands there
abbrev pub test_at : ℕ × (ℕ × ℕ) → ByteTest
test_at x = let bytes = x.1 in record { offset = x.0; value = bytes.0; mask = bytes.1 }

-- what an entry compares: the bytes of its value and mask, one at each of its state's lookups
abbrev pub tests_of : List ℕ → ParserEntry → List ByteTest
tests_of lookups e = map test_at (zip lookups (zip (bytes_of 4 e.value) (bytes_of 4 e.mask)))

-- a test so many bytes behind
abbrev pub moved_test : ℕ → ByteTest → ByteTest
moved_test bytes t = record t { offset = t.offset + bytes }

-- an entry's tests of the bytes before it moves the cursor by so many, and those of another one behind them
abbrev pub joined_tests : ℕ → List ByteTest → List ByteTest → List ByteTest
joined_tests bytes first second = filter (λ (t : ByteTest). nat_lt t.offset bytes) first ++ map (moved_test bytes) second

-- the test of the byte at an offset; a byte without one is compared with nothing
abbrev pub test_for : List ByteTest → ℕ → ByteTest
test_for tests offset = unwrap_or (find (λ (t : ByteTest). t.offset == offset) tests) (record { offset = offset; value = 0; mask = 0 })

-- the values of tests as 32 bits over lookups, of which the first has the highest byte
abbrev pub value_over : List ℕ → List ByteTest → ℕ
value_over lookups tests = high_bytes (map (λ o. (test_for tests o).value) lookups)

-- and their masks
abbrev pub mask_over : List ℕ → List ByteTest → ℕ
mask_over lookups tests = high_bytes (map (λ o. (test_for tests o).mask) lookups)

-- What an instruction does to words whose lanes hold a state.
use Rattle.std.specs.Prelude.{◌≡◌, ℕ, ◌+◌, ◌*◌, ◌^◌, List, [], ◌∷◌, Some, option_map, unwrap_or, slice_get, slice_index, sum, take}
use Rattle.rmt_bits.specs.Bits.{slice}
use Rattle.rmt_bits.specs.declared.lane.Lane.{Lane}
use Rattle.rmt_ast.specs.Places.{lanes_of}
use Rattle.rmt_config.specs.declared.config.Operation.{Operation}
use Rattle.rmt_config.specs.Agreement.{IsFree}
use Rattle.rmt_config.specs.Life.{Words, lane_of, op_on, written}

-- the number that lanes hold together, the first one lowest
abbrev pub held_by : Words → List Lane → ℕ
held_by words [] = 0
held_by words (l ∷ ls) = lane_of words l + 2 ^ l.len * held_by words ls

-- the lanes of each field hold its value
abbrev pub Hold : List (List Lane) → Words → List ℕ → Type 0
Hold places words s = (f : ℕ) → held_by words (lanes_of places f) ≡ slice_index s f

-- the words after an instruction that reads this record; a word without an operation stays
abbrev pub words_after : List Operation → ℕ → Words → Words
words_after ops held words w = unwrap_or (option_map (written words held) (op_on w ops)) (words w)

-- the bit of an entry's data at which a parameter begins: they lie in order, the first from bit 0 upward
abbrev pub begin_of : List ℕ → ℕ → ℕ
begin_of params i = sum (take i params)

-- a record has the arguments of an action, each at the place of its parameter
abbrev pub HasArguments : List ℕ → List ℕ → ℕ → Type 0
HasArguments params args held =
    (i width : ℕ) → slice_get params i ≡ Some width → slice held (begin_of params i) width ≡ slice_index args i

-- only bits of those lanes change, whatever the record is
abbrev pub ChangesOnly : List Lane → List Operation → Type 0
ChangesOnly lanes ops =
    (words : Words) (held word bit : ℕ) → IsFree lanes word bit → slice (words_after ops held words word) bit 1 ≡ slice (words word) bit 1

-- What the units of a stage take of the chip: memory blocks, crossbar words, slots, gates, instructions, data bits; and the nodes of all stages.
use Rattle.std.specs.Prelude.{ℕ, ◌+◌, max, List, [], ◌∷◌, ◌++◌, length, map, Bool, true, false, ◌==◌, if◌then◌else◌}
use Rattle.std.specs.List.{flat_map, count_by, sum_by, fold}
use Rattle.rmt_bits.specs.Words.{word_size}
use Rattle.rmt_bits.specs.declared.lane.Lane.{Lane}
use Rattle.rmt_bits.specs.Members.{is_among}
use Rattle.rmt_config.specs.Types.{Stage, Unit, GateTest, Memory}
use Rattle.rmt_config.specs.declared.config.Unit.TheVariants.{Gate, Slot}
use Rattle.rmt_config.specs.declared.config.Memory.TheVariants.{Without, Exact, Ternary}
use Rattle.rmt_config.specs.TableForm.{node_of}
use Rattle.rmt_config.specs.StageForm.{tcam_blocks}

-- ---- lists of numbers

-- the numbers of a list, each once
abbrev pub distinct : List ℕ → List ℕ
distinct [] = []
distinct (n ∷ ns) = if is_among ns n then distinct ns else n ∷ distinct ns

-- how often a number stands in a list
abbrev pub times_in : List ℕ → ℕ → ℕ
times_in ns n = count_by (λ m. m == n) ns

-- the greatest of what is measured of some items, or 0 where there is none
abbrev pub greatest_by : {A : Type 0} → (A → ℕ) → List A → ℕ
greatest_by measure xs = fold (λ most x. max most (measure x)) 0 xs

-- ---- units

-- whether a unit is a slot
abbrev pub is_slot : Unit → Bool
is_slot (Gate g) = false
is_slot (Slot s) = true

-- whether it is a gate
abbrev pub is_gate : Unit → Bool
is_gate (Gate g) = true
is_gate (Slot s) = false

-- the data bits of a unit: those that a slot's entries carry
abbrev pub unit_data : Unit → ℕ
unit_data (Gate g) = 0
unit_data (Slot s) = s.held

-- ---- memory blocks

-- the SRAM blocks that a memory lists, as often as it lists them
abbrev pub memory_sram : Memory → List ℕ
memory_sram Without = []
memory_sram (Exact width per quanta first_way keys records counters) = keys ++ records ++ counters
memory_sram (Ternary quanta keys records counters) = records ++ counters

-- the blocks side by side of a row of an exact memory
abbrev pub memory_width : Memory → ℕ
memory_width Without = 0
memory_width (Exact width per quanta first_way keys records counters) = width
memory_width (Ternary quanta keys records counters) = 0

-- the SRAM blocks that a unit lists
abbrev pub unit_sram : Unit → List ℕ
unit_sram (Gate g) = []
unit_sram (Slot s) = memory_sram s.memory

-- the blocks side by side of a row of its exact memory
abbrev pub unit_width : Unit → ℕ
unit_width (Gate g) = 0
unit_width (Slot s) = memory_width s.memory

-- how often the block is listed that is listed most
abbrev pub most_listed : List ℕ → ℕ
most_listed blocks = greatest_by (times_in blocks) blocks

-- the same over the SRAM blocks and the TCAM blocks of a stage's units
abbrev pub most_listed_in : List Unit → ℕ
most_listed_in units = max (most_listed (flat_map unit_sram units)) (most_listed (flat_map tcam_blocks units))

-- ---- crossbars

-- the words of lanes
abbrev pub words_of : List Lane → List ℕ
words_of lanes = map (λ (lane : Lane). lane.word) lanes

-- the words that an exact key reads
abbrev pub key_words_if_exact : List Lane → Memory → List ℕ
key_words_if_exact keys Without = []
key_words_if_exact keys (Exact width per quanta first_way blocks records counters) = words_of keys
key_words_if_exact keys (Ternary quanta blocks records counters) = []

-- the words that a prefix or ternary key reads
abbrev pub key_words_if_ternary : List Lane → Memory → List ℕ
key_words_if_ternary keys Without = []
key_words_if_ternary keys (Exact width per quanta first_way blocks records counters) = []
key_words_if_ternary keys (Ternary quanta blocks records counters) = words_of keys

-- the words that a unit reads over the exact crossbar
abbrev pub exact_words : Unit → List ℕ
exact_words (Gate g) = []
exact_words (Slot s) = key_words_if_exact s.keys s.memory

-- those that it reads over the ternary crossbar, gates among them
abbrev pub ternary_words : Unit → List ℕ
ternary_words (Gate g) = map (λ (test : GateTest). test.lane.word) g.tests
ternary_words (Slot s) = key_words_if_ternary s.keys s.memory

-- the bits of the words that are read, each word whole and once
abbrev pub crossbar_bits : (Unit → List ℕ) → List Unit → ℕ
crossbar_bits words units = sum_by word_size (distinct (flat_map words units))

-- ---- nodes

-- the nodes of the units of some stages, in their order
abbrev pub node_numbers : List Stage → List ℕ
node_numbers stages = flat_map (λ (stage : Stage). map node_of stage.units) stages

-- how many nodes there are: a split table has several units, and is one node
abbrev pub node_count : List Stage → ℕ
node_count stages = length (distinct (node_numbers stages))

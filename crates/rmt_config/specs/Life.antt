-- One packet's way through the stages: its words at each age, its outcomes, and what it counts.
use Rattle.std.specs.Prelude.{ℕ, ◌+◌, ◌*◌, ◌-◌, ◌%◌, ◌/◌, ◌^◌, List, [], ◌∷◌, ◌++◌, Bool, true, false, ◌&&◌, ◌==◌, nat_le, bit_and, bit_or, bit_xor, if◌then◌else◌, Option, Some, None, find, fold, reverse, replicate, slice_get, slice_index, slice_set, option_map, unwrap_or}
use Rattle.std.specs.List.{list_all}
use Rattle.std.specs.Option.{option_or}
use Rattle.rmt_bits.specs.Bits.{slice, deposit}
use Rattle.rmt_bits.specs.declared.lane.Lane.{Lane}
use Rattle.rmt_config.specs.Types.{Stage, Unit, GateTest, UnitGuard, SlotUnit, Memory, Vliw, Operation, OpKind, Source}
use Rattle.rmt_config.specs.declared.config.Unit.TheVariants.{Gate, Slot}
use Rattle.rmt_config.specs.declared.config.OpKind.TheVariants as kind
use Rattle.rmt_config.specs.declared.config.Source.TheVariants.{Word, Held, Constant}
use Rattle.rmt_config.specs.declared.config.Memory.TheVariants.{Without, Exact, Ternary}
use Rattle.rmt_config.specs.Cells.{Found}
use Rattle.rmt_config.specs.Instructions.{first_code}

-- the words of a vector by number, and those by age and number
abbrev pub Words : Type 0
Words = ℕ → ℕ

-- the words of a packet at each age
abbrev pub Ages : Type 0
Ages = ℕ → Words

-- what the memory answers: by stage, place of the unit in the stage, and key
abbrev pub Look : Type 0
Look = ℕ → ℕ → ℕ → Option Found

-- an instruction that runs, with the record that it reads
pub record Running : Type 0 where
  pub ops : List Operation
  pub held : ℕ

-- a count that a hit makes: the entry's number, and the age at which it is made
pub record Counted : Type 0 where
  pub number : ℕ
  pub age : ℕ

-- a packet's life up to some stage
pub record Life : Type 0 where
  pub word : Ages
  pub outcomes : List ℕ
  pub counted : List Counted

-- the bits of a lane
abbrev pub lane_of : Words → Lane → ℕ
lane_of words lane = slice (words lane.word) lane.low lane.len

-- lanes as one number, the first one highest
abbrev pub key_of : Words → List Lane → ℕ
key_of words lanes = fold (λ n lane. 2 ^ lane.len * n + lane_of words lane) 0 lanes

-- what a source reads, in an operation of that many bits
abbrev pub source_of : Words → ℕ → ℕ → Source → ℕ
source_of words held len (Word w low) = slice (words w) low len
source_of words held len (Held low) = slice held low len
source_of words held len (Constant value) = value

-- an operation on two numbers of that many bits
abbrev pub computed : OpKind → ℕ → ℕ → ℕ → ℕ
computed kind.Copy len a b = a
computed kind.Add len a b = (a + b) % 2 ^ len
computed kind.Sub len a b = (a + 2 ^ len - b) % 2 ^ len
computed kind.And len a b = bit_and a b
computed kind.Or len a b = bit_or a b
computed kind.Xor len a b = bit_xor a b

-- the whole word that an operation writes
abbrev pub written : Words → ℕ → Operation → ℕ
written words held op =
    deposit (words op.word) op.low op.len
    (computed op.kind op.len (source_of words held op.len op.left) (source_of words held op.len op.right))

-- the operation of an instruction on a word
abbrev pub op_on : ℕ → List Operation → Option Operation
op_on w ops = find (λ (op : Operation). op.word == w) ops

-- a unit runs where it has no guard or its parent's outcome is in the mask, and its own node has no outcome
abbrev pub guarded : Option UnitGuard → List ℕ → Bool
guarded None outcomes = true
guarded (Some g) outcomes = g.mask / 2 ^ slice_index outcomes g.parent % 2 == 1

-- whether a unit runs, by the outcomes so far
abbrev pub runs : ℕ → Option UnitGuard → List ℕ → Bool
runs node guard outcomes = guarded guard outcomes && (slice_index outcomes node == 0)

-- what the units so far of one stage have done: outcomes, then instructions and counts, the last one first; and the
-- place of the next unit
pub record Acts : Type 0 where
  pub outcomes : List ℕ
  pub running : List Running
  pub counted : List Counted
  pub place : ℕ

-- every test of a gate passes
abbrev pub gate_passes : Words → List GateTest → Bool
gate_passes words tests = list_all (λ (t : GateTest). bit_and (lane_of words t.lane) t.mask == t.value) tests

-- an instruction of a stage, by its number
abbrev pub code_at : Stage → ℕ → List Operation
code_at stage i = unwrap_or (option_map (λ (v : Vliw). v.ops) (slice_get stage.code i)) []

-- what a slot that runs does with what it found; its first instruction has this number
abbrev pub slot_acts : Stage → ℕ → SlotUnit → Option Found → Acts → Acts
slot_acts stage first slot (Some f) a = record a {
  outcomes = slice_set a.outcomes slot.node (2 + (f.code - first));
  running = record { ops = code_at stage f.code; held = f.held } ∷ a.running;
  counted = if slot.counted then record { number = f.number; age = stage.start + 8 } ∷ a.counted else a.counted;
}
slot_acts stage first slot None a =
    if slot.last
    then record a {
      outcomes = slice_set a.outcomes slot.node 1;
      running = record { ops = code_at stage (first + slot.actions); held = 0 } ∷ a.running;
    }
    else a

-- only a slot with memory looks its key up
abbrev pub has_memory : Memory → Bool
has_memory Without = false
has_memory (Exact k p d w ks rs cs) = true
has_memory (Ternary d ks rs cs) = true

-- what a slot finds for the key that it reads from these words
abbrev pub looked_up : Look → ℕ → ℕ → Words → SlotUnit → Option Found
looked_up look k place words slot = if has_memory slot.memory then look k place (key_of words slot.keys) else None

-- one unit; the words are those at the stage's start
abbrev pub unit_acts : Look → ℕ → Stage → Words → Acts → Unit → Acts
unit_acts look k stage words a (Gate g) =
    record (if runs g.node g.guard a.outcomes
    then record a { outcomes = slice_set a.outcomes g.node (if gate_passes words g.tests then 2 else 1) }
    else a) { place = a.place + 1 }
unit_acts look k stage words a (Slot slot) =
    record (if runs slot.node slot.guard a.outcomes
    then slot_acts stage (first_code stage a.place) slot (looked_up look k a.place words slot) a
    else a) { place = a.place + 1 }

-- all units of a stage in order, from the outcomes that earlier stages left
abbrev pub acts_of : Look → ℕ → Stage → Words → List ℕ → Acts
acts_of look k stage words outcomes =
    fold (unit_acts look k stage words) (record { outcomes = outcomes; running = []; counted = []; place = 0 }) stage.units

-- the word that the last running unit with an operation on it writes, from the words that it reads; the last unit stands first
abbrev pub word_after : List Running → Words → ℕ → Option ℕ
word_after [] words w = None
word_after (r ∷ rs) words w = option_or (option_map (written words r.held) (op_on w r.ops)) (word_after rs words w)

-- the life through one more stage, which has number k: keys and tests are read at its start, operands and old words
-- 9 cycles later, and whole words are written 12 cycles after the start and seen from then on
abbrev pub through : Look → ℕ → Stage → Life → Life
through look k stage life =
    let acts = acts_of look k stage (life.word stage.start) life.outcomes in
    record {
      word = λ age w.
          if nat_le (stage.start + 12) age
          then unwrap_or (word_after acts.running (life.word (stage.start + 9)) w) (life.word age w)
          else life.word age w;
      outcomes = acts.outcomes;
      counted = life.counted ++ reverse acts.counted;
    }

-- the life through the stages from number k on
abbrev pub through_from : Look → ℕ → List Stage → Life → Life
through_from look k [] life = life
through_from look k (stage ∷ stages) life = through_from look (k + 1) stages (through look k stage life)

-- the whole life of a packet that the parser accepted with this vector
abbrev pub life_of : Look → List Stage → List ℕ → Life
life_of look stages vector =
    through_from look 0 stages (record { word = λ age w. slice_index vector w; outcomes = replicate 256 0; counted = [] })

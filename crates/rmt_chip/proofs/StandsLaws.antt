-- What a chip stands for, one cycle later.
use Rattle.std.proofs.Common.{◌≡◌, ℕ, ◌+◌, ◌≤◌, Bool, true, false, cond, List, [], ◌∷◌, ◌++◌, length, append_assoc, Option, Some, None, Vec, Global, refl, sym, ap, ◌∙◌, subst, le-leb}
use Rattle.std.specs.Prelude.{IsTrue, is_some, is_none, slice_index}
use Rattle.std.specs.List.{flat_map}
use Rattle.std.proofs.lemmas.List.{append-nil}
use Rattle.std.proofs.lemmas.List.Sums.{fold-append, sum_by_push}
use Rattle.std.proofs.lemmas.Grind.{flat_map-append}
use Rattle.rmt_config.specs.Limits.{limit_hit, IsWithinLimits}
use Rattle.rmt_bits.specs.Packet.{Packet}
use Rattle.rmt_bits.specs.Counts.{counts}
use Rattle.rmt_bits.specs.declared.answer.Count.{Count}
use Rattle.rmt_bits.specs.declared.answer.Verdict.{Verdict}
use Rattle.rmt_chip.specs.Types.{Config}
use Rattle.rmt_config.specs.Life.{Look}
use Rattle.rmt_config.specs.Parser.{Parse, Short, Reject, Accept, parse}
use Rattle.rmt_config.specs.ChipRun.{counted_numbers, latency_of, words_from}
use Rattle.rmt_config.specs.RunCells.{RunCells, own_cells}
use Rattle.rmt_config.specs.RunInputs.{Input, Turns, after_input, answer_in, hits_from, input_of as input_with, numbers_brought, packet_of}
use Rattle.rmt_memory.specs.declared.memory.SlotMemory.{SlotMemory}
use Rattle.rmt_chip.specs.declared.moment.Moment.{Moment}
use Rattle.rmt_chip.specs.declared.packet_slot.PacketSlot.{PacketSlot}
use Rattle.rmt_chip.specs.declared.chip.Chip.{Chip}
use Rattle.rmt_chip.specs.declared.frame.Frame.{Frame}
use Rattle.rmt_chip.specs.declared.seen.Seen.{Seen}
use Rattle.rmt_chip.specs.FrameList.{frames_of}
use Rattle.rmt_chip.specs.Held.{Entered, HoldsIf, CarriedFor}
use Rattle.rmt_chip.specs.Inputs.{entered_at, input_of, packets_of}
use Rattle.rmt_chip.specs.Leaving.{AnswersIf}
use Rattle.rmt_chip.specs.Cycles.{Cycles}
use Rattle.rmt_chip.specs.PacketsInFlight.{InFlight, Precedes, cells_after, numbers_after}
use Rattle.rmt_memory.specs.StageMemories.{MemoriesHold}
use Rattle.rmt_chip.specs.Stands.{Stands, Took, Turned, Shows, in_flight}
use Rattle.rmt_chip.specs.declared.frames.Frames.{Frames}
use Rattle.rmt_chip.specs.Ring.{ring_after, now, next, AllHold, FramesAre}
use Rattle.rmt_bits.specs.Counts.{Counters}
use Rattle.rmt_memory.proofs.MemoriesLaws.{memories_turned}
use Rattle.rmt_bits.proofs.OptionLaws.{None-from_is_none}

-- ---- the inputs with one more

packets_push : (inputs : List Input) (input : Input) → packets_of (inputs ++ input ∷ []) ≡ packets_of inputs + cond (is_some (packet_of input)) 1 0
packets_push inputs input = sum_by_push (λ i. cond (is_some (packet_of i)) 1 0) inputs input

cells_push : (c : Config) (inputs : List Input) (input : Input) → cells_after c (inputs ++ input ∷ []) ≡ after_input c (cells_after c inputs) input
cells_push c inputs input = fold-append (after_input c) (own_cells c) inputs (input ∷ [])

pub numbers_push : (c : Config) (inputs : List Input) (input : Input) → numbers_after c (inputs ++ input ∷ []) ≡ numbers_after c inputs ++ numbers_brought c input
numbers_push c inputs input =
    let brought = flat_map (numbers_brought c) inputs in
    ap (λ ns. counted_numbers c ++ ns) (flat_map-append (numbers_brought c) inputs (input ∷ []) ∙ ap (λ ns. brought ++ ns) (append-nil (numbers_brought c input)))
    ∙ sym (append_assoc (counted_numbers c) brought (numbers_brought c input))

-- ---- one cycle of the packets

-- what one cycle of the parts gives
abbrev pub CycleGives : Config → Moment → Option Frame → List (Vec SlotMemory Global) → List PacketSlot → List PacketSlot → List (List ℕ) → List (List ℕ) → List Count → List Count → Option Verdict → List ℕ → Type 0
CycleGives c moment frame memories old new frames frames' counters counters' answer bytes = (numbers : List ℕ) (inputs later : List Input) (input : Input) (before : ℕ) →
    Precedes c inputs input before moment frame memories → InFlight c numbers inputs (input ∷ later) before old frames counters
    → Cycles c numbers inputs later input moment.newest new frames' counters' answer bytes

same_some : (input : Input) (frame : Option Frame) → packet_of input ≡ input_of frame → is_some (packet_of input) ≡ is_some frame
same_some input frame is = ap (λ (o : Option Packet). is_some o) is ∙ by frame
  where
    by : (o : Option Frame) → is_some (input_of o) ≡ is_some o
    by None = refl
    by (Some f) = refl

pub turn_right : (c : Config) (numbers : List ℕ) (inputs : List Input) (input : Input) (frame : Option Frame) (old new : Chip) (answer : Option Verdict) (bytes : List ℕ)
    → old.newest ≤ latency_of old.config.stages → packet_of input ≡ input_of frame → new.config ≡ old.config → new.memories ≡ old.memories → new.seed ≡ old.seed → new.version ≡ old.version
    → new.entered ≡ old.entered + cond (is_some frame) 1 0 → new.newest ≡ ring_after (latency_of old.config.stages + 1) old.newest
    → CycleGives old.config (record { newest = new.newest; number = old.entered; version = old.version; seed = old.seed }) frame old.memories.items old.places.items new.places.items (frames_of old.frames) (frames_of new.frames) old.counters.counts new.counters.counts answer bytes
    → Took c numbers inputs old → Turned c numbers inputs input new × AnswersIf (answer_in c (inputs ++ input ∷ []) (length inputs)) answer bytes
turn_right c numbers inputs input frame old new answer bytes ring is same_config same_memories same_seed same_version grown turned cycle s =
    let moment : Moment = record { newest = new.newest; number = old.entered; version = old.version; seed = old.seed } in
    let cycles = subst (λ (k : Config). CycleGives k moment frame old.memories.items old.places.items new.places.items (frames_of old.frames) (frames_of new.frames) old.counters.counts new.counters.counts answer bytes) s.config_is cycle in
    let comes : Precedes c inputs input old.newest moment frame old.memories.items = record {
      within = subst (λ (k : Config). old.newest ≤ latency_of k.stages) s.config_is ring;
      newest_is = turned ∙ ap (λ (k : Config). ring_after (latency_of k.stages + 1) old.newest) s.config_is;
      number_is = s.entered_is;
      version_is = s.version_is;
      seed_is = s.seed_is;
      enters = is;
      held = s.memories_are;
    } in
    let given : (later : List Input) → Cycles c numbers inputs later input new.newest new.places.items (frames_of new.frames) new.counters.counts answer bytes =
    λ later. cycles numbers inputs later input old.newest comes (s.in_flight (input ∷ later)) in (
      record {
        formed = s.formed;
        config_is = same_config ∙ s.config_is;
        memories_are = subst (λ (m : Vec (Vec SlotMemory Global) Global). MemoriesHold c (cells_after c inputs) m.items) (sym same_memories) s.memories_are;
        entered_is = grown ∙ ap (λ n. n + cond (is_some frame) 1 0) s.entered_is ∙ ap (λ (b : Bool). packets_of inputs + cond b 1 0) (sym (same_some input frame is)) ∙ sym (packets_push inputs input);
        seed_is = same_seed ∙ s.seed_is;
        version_is = same_version ∙ s.version_is;
        in_flight = λ later. (given later).flies;
      },
      subst (λ (run : List Input). AnswersIf (answer_in c run (length inputs)) answer bytes) (append-nil (inputs ++ input ∷ [])) (given []).answers,
    )

-- ---- what the cycle's input changes

-- the same packets are in flight in another chip, whose counters may be those of other numbers
flies_on : (c : Config) (numbers numbers' : List ℕ) (inputs later : List Input) (old new : Chip) → new.newest ≡ old.newest → new.places ≡ old.places → new.frames ≡ old.frames
    → (old.counters.counts ≡ counts numbers (hits_from c (inputs ++ later) 0 inputs) → new.counters.counts ≡ counts numbers' (hits_from c (inputs ++ later) 0 inputs))
    → InFlight c numbers inputs later old.newest old.places.items (frames_of old.frames) old.counters.counts
    → InFlight c numbers' inputs later new.newest new.places.items (frames_of new.frames) new.counters.counts
flies_on c numbers numbers' inputs later old new newest places frames counted was =
    let item = entered_at c (inputs ++ later) (length inputs) in
    record {
      places_hold = subst (λ (n : ℕ). AllHold c item now now now next n new.places.items) (sym newest)
          (subst (λ (ps : Vec PacketSlot Global). AllHold c item now now now next old.newest ps.items) (sym places) was.places_hold);
      frames_stand = subst (λ (n : ℕ). FramesAre item n (frames_of new.frames)) (sym newest)
          (subst (λ (fs : Frames). FramesAre item old.newest (frames_of fs)) (sym frames) was.frames_stand);
      counters_are = counted was.counters_are;
    }

pub stands_next : (c : Config) (numbers : List ℕ) (inputs : List Input) (input : Input) (turned chip : Chip) → Turned c numbers inputs input turned
    → chip.config ≡ turned.config → chip.entered ≡ turned.entered → chip.newest ≡ turned.newest → chip.places ≡ turned.places → chip.frames ≡ turned.frames → chip.counters ≡ turned.counters
    → MemoriesHold c (after_input c (cells_after c inputs) input) chip.memories.items
    → chip.seed ≡ (after_input c (cells_after c inputs) input).seed → chip.version ≡ (after_input c (cells_after c inputs) input).version
    → numbers ≡ numbers_after c inputs ++ numbers_brought c input → Stands c (inputs ++ input ∷ []) chip
stands_next c numbers inputs input turned chip t config entered newest places frames counters memories seed version known =
    let all = inputs ++ input ∷ [] in
    let cells = cells_push c inputs input in
    record {
      formed = t.formed;
      config_is = config ∙ t.config_is;
      memories_are = subst (λ (x : RunCells). MemoriesHold c x chip.memories.items) (sym cells) memories;
      entered_is = entered ∙ t.entered_is;
      seed_is = seed ∙ sym (ap (λ (x : RunCells). x.seed) cells);
      version_is = version ∙ sym (ap (λ (x : RunCells). x.version) cells);
      in_flight = λ later.
          flies_on c numbers (numbers_after c all) all later turned chip newest places frames
          (λ are. ap (λ (x : Counters). x.counts) counters ∙ are ∙ ap (λ ns. counts ns (hits_from c (all ++ later) 0 all)) (known ∙ sym (numbers_push c inputs input)))
          (t.in_flight later);
    }

-- no number is brought
none_more : (c : Config) (inputs : List Input) → numbers_after c inputs ≡ numbers_after c inputs ++ []
none_more c inputs = sym (append-nil (numbers_after c inputs))

-- what enters, or nothing, is as it was
pub packet_back : (o : Option Packet) → packet_of (input_with o) ≡ o
packet_back None = refl
packet_back (Some p) = refl

pub stands_clocked : (c : Config) (inputs : List Input) (o : Option Packet) (turned : Chip) → Turned c (numbers_after c inputs) inputs (input_with o) turned → Stands c (inputs ++ input_with o ∷ []) turned
stands_clocked c inputs None turned t =
    stands_next c (numbers_after c inputs) inputs (input_with None) turned turned t refl refl refl refl refl refl t.memories_are t.seed_is t.version_is (none_more c inputs)
stands_clocked c inputs (Some p) turned t =
    stands_next c (numbers_after c inputs) inputs (input_with (Some p)) turned turned t refl refl refl refl refl refl t.memories_are t.seed_is t.version_is (none_more c inputs)

-- a new version with a seed
pub stands_committed : (c : Config) (inputs : List Input) (seed : ℕ) (turned chip : Chip) → Turned c (numbers_after c inputs) inputs (Turns seed) turned
    → chip.config ≡ turned.config → chip.entered ≡ turned.entered → chip.newest ≡ turned.newest → chip.places ≡ turned.places → chip.frames ≡ turned.frames → chip.counters ≡ turned.counters
    → chip.memories ≡ turned.memories → chip.seed ≡ seed → chip.version ≡ turned.version + 1 → Stands c (inputs ++ Turns seed ∷ []) chip
stands_committed c inputs seed turned chip t config entered newest places frames counters memories seed_is version_is =
    stands_next c (numbers_after c inputs) inputs (Turns seed) turned chip t config entered newest places frames counters
    (memories_turned c (cells_after c inputs) seed chip.memories.items (subst (λ (m : Vec (Vec SlotMemory Global) Global). MemoriesHold c (cells_after c inputs) m.items) (sym memories) t.memories_are))
    seed_is (version_is ∙ ap (λ (n : ℕ). n + 1) t.version_is) (none_more c inputs)

-- counters with other room, or for other numbers
pub took_counting : (c : Config) (numbers numbers' : List ℕ) (inputs : List Input) (old new : Chip)
    → new.config ≡ old.config → new.memories ≡ old.memories → new.entered ≡ old.entered → new.seed ≡ old.seed → new.version ≡ old.version → new.newest ≡ old.newest → new.places ≡ old.places → new.frames ≡ old.frames
    → ((later : List Input) → old.counters.counts ≡ counts numbers (hits_from c (inputs ++ later) 0 inputs) → new.counters.counts ≡ counts numbers' (hits_from c (inputs ++ later) 0 inputs))
    → Took c numbers inputs old → Took c numbers' inputs new
took_counting c numbers numbers' inputs old new config memories entered seed version newest places frames counted s = record {
  formed = s.formed;
  config_is = config ∙ s.config_is;
  memories_are = subst (λ (m : Vec (Vec SlotMemory Global) Global). MemoriesHold c (cells_after c inputs) m.items) (sym memories) s.memories_are;
  entered_is = entered ∙ s.entered_is;
  seed_is = seed ∙ s.seed_is;
  version_is = version ∙ s.version_is;
  in_flight = λ later. flies_on c numbers numbers' inputs later old new newest places frames (counted later) (s.in_flight later);
}

-- ---- what is seen

-- the words of a packet in its place are those of its life
words_held : (look : Look) (c : Config) (packet : Packet) (age l : ℕ) (place : PacketSlot) (p : Parse) → CarriedFor look c packet age age age l place p → (w : ℕ) → slice_index place.vector w ≡ words_from look c packet p age w
words_held look c packet age l place Short held w = held.1 w
words_held look c packet age l place Reject held w = held.1 w
words_held look c packet age l place (Accept r) held w = held.2.words w

pub shows_entered : (c : Config) (age : ℕ) (item : Option Entered) (place : PacketSlot) (seen : Seen) → HoldsIf c item age age age (age + 1) place → place.taken ≡ true → seen.number ≡ place.number → seen.words.now ≡ place.vector → Shows c age item (Some seen)
shows_entered c age None place seen held taken number words = let free : place.taken ≡ false = held.taken in cc
shows_entered c age (Some e) place seen held taken number words =
    (number ∙ held.number, λ w. ap (λ (ws : List ℕ). slice_index ws w) words ∙ words_held e.look c e.packet age (age + 1) place (parse c.parser e.packet.frame) held.carried w)

pub shows_none : (c : Config) (age : ℕ) (item : Option Entered) (place : PacketSlot) → HoldsIf c item age age age (age + 1) place → place.taken ≡ false → Shows c age item None
shows_none c age None place held taken = tt
shows_none c age (Some e) place held taken = let h : place.taken ≡ true = held.taken in cc

-- where an age is not past the last one
pub shows_within : (c : Config) (inputs : List Input) (age : ℕ) (seen : Option Seen) → age ≤ latency_of c.stages → Shows c age (entered_at c inputs (length inputs) age) seen → Shows c age (in_flight c inputs age) seen
shows_within c inputs age seen h shows =
    subst (λ (b : Bool). Shows c age (cond b (entered_at c inputs (length inputs) age) None) seen) (sym (le-leb age (latency_of c.stages) h)) shows

-- what the packet slots hold after all inputs
pub held_now : (c : Config) (inputs : List Input) (chip : Chip) → Stands c inputs chip → AllHold c (entered_at c inputs (length inputs)) now now now next chip.newest chip.places.items
held_now c inputs chip s =
    subst (λ (run : List Input). AllHold c (entered_at c run (length inputs)) now now now next chip.newest chip.places.items) (append-nil inputs) (s.in_flight []).places_hold

-- a configuration within its limits, as the chip keeps the fact
pub no_limit : (c : Config) → IsTrue (is_none (limit_hit c)) → IsWithinLimits c
no_limit c h = None-from_is_none (limit_hit c) h

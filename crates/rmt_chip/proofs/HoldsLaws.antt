-- What the steps of a stage make of a packet slot, whatever packet it holds.
use Rattle.std.proofs.Common.{◌≡◌, ℕ, ◌+◌, ◌<◌, Bool, true, false, cond, List, length, get_or, Option, Some, None, refl, sym, ap, ◌∙◌, subst}
use Rattle.std.specs.Prelude.{slice_index}
use Rattle.rmt_bits.specs.Packet.{Packet}
use Rattle.rmt_chip.specs.Types.{Config, Stage, Unit as ChipUnit}
use Rattle.rmt_config.specs.declared.config.Unit.TheVariants.{Gate, Slot}
use Rattle.rmt_config.specs.Cells.{Found}
use Rattle.rmt_config.specs.Life.{Look, Words, has_memory, key_of}
use Rattle.rmt_memory.specs.declared.looked.Looked.{Looked}
use Rattle.rmt_memory.specs.Looked.{AllLooked, Finds, LookedFor}
use Rattle.rmt_config.specs.Parser.{Parse, Short, Reject, Accept, parse, put}
use Rattle.rmt_chip.specs.declared.packet_slot.PacketSlot.{PacketSlot}
use Rattle.rmt_chip.specs.Runnable.{start_of}
use Rattle.rmt_chip.specs.Writes.{applied}
use Rattle.rmt_chip.specs.Pending.{due_at, looked_at}
use Rattle.rmt_chip.specs.Held.{is_accepted, Carried, CarriedFor, Entered, HoldsIf, SamePacket, WrittenBy, ReadBy, DecidedBy, LookedBy}
use Rattle.rmt_chip.proofs.LifeLaws.{Rise}
use Rattle.rmt_chip.proofs.HeldLaws.{NoneAt, carried_write, carried_write_none, carried_read, carried_read_none, carried_act, carried_act_none, carried_look, carried_look_none}

-- a packet that was not accepted keeps its words
words_stay : (old new : PacketSlot) → new.vector ≡ old.vector → ((w : ℕ) → slice_index old.vector w ≡ 0) → (w : ℕ) → slice_index new.vector w ≡ 0
words_stay old new e zeros w = ap (λ (ws : List ℕ). slice_index ws w) e ∙ zeros w

-- a step that keeps the packet, and the words where it was not accepted, and takes what is carried from some ages to others
module _ (look : Look) (c : Config) (packet : Packet) (a b d l a' b' d' l' : ℕ) (old new : PacketSlot) (same : SamePacket old new)
    (rests : is_accepted old.parsed ≡ false → new.vector ≡ old.vector)
    (goes : (vector : List ℕ) → is_accepted old.parsed ≡ true → Carried look c.stages vector a b d l old → Carried look c.stages vector a' b' d' l' new) where
  step_for : (p : Parse) → CarriedFor look c packet a b d l old p → CarriedFor look c packet a' b' d' l' new p
  step_for Short held = (same.parsed ∙ held.0, words_stay old new (rests (ap is_accepted held.0)) held.1)
  step_for Reject held = (same.parsed ∙ held.0, words_stay old new (rests (ap is_accepted held.0)) held.1)
  step_for (Accept r) held = (same.parsed ∙ held.0, same.tails ∙ held.1, goes (put r.vector c.in_port packet.port) (ap is_accepted held.0) held.2)

-- the same of a packet slot that holds a packet or none
step_if : (c : Config) (e : Option Entered) (a b d l a' b' d' l' : ℕ) (old new : PacketSlot) → SamePacket old new → (is_accepted old.parsed ≡ false → new.vector ≡ old.vector)
    → ((x : Entered) (vector : List ℕ) → e ≡ Some x → old.version ≡ x.version → is_accepted old.parsed ≡ true → Carried x.look c.stages vector a b d l old → Carried x.look c.stages vector a' b' d' l' new)
    → HoldsIf c e a b d l old → HoldsIf c e a' b' d' l' new
step_if c None a b d l a' b' d' l' old new same rests goes held = record { taken = same.taken ∙ held.taken; rests = ap is_accepted same.parsed ∙ held.rests }
step_if c (Some e) a b d l a' b' d' l' old new same rests goes held = record {
  taken = same.taken ∙ held.taken;
  number = same.number ∙ held.number;
  version = same.version ∙ held.version;
  size = same.size ∙ held.size;
  carried = step_for e.look c e.packet a b d l a' b' d' l' old new same rests (λ vector. goes e vector refl held.version) (parse c.parser e.packet.frame) held.carried;
}

unchanged : (place : PacketSlot) → SamePacket place place
unchanged place = record { taken = refl; number = refl; version = refl; size = refl; parsed = refl; tails = refl }

pub holds_write : (c : Config) → Rise c.stages → (e : Option Entered) (k t l : ℕ) (old new : PacketSlot) → k < length c.stages → start_of c.stages k + 12 ≡ t + 1
    → WrittenBy k old new → HoldsIf c e t t t l old → HoldsIf c e (t + 1) t t l new
holds_write c rise e k t l old new inside at w held =
    step_if c e t t t l (t + 1) t t l old new w.same
    (λ no. w.vector ∙ ap (λ (b : Bool). cond b (applied (due_at old.pending.items k) old.vector) old.vector) no)
    (λ x vector is_there version yes. carried_write x.look c.stages vector rise k t l old new inside at (w.vector ∙ ap (λ (b : Bool). cond b (applied (due_at old.pending.items k) old.vector) old.vector) yes) w.outcomes w.pending)
    held

pub holds_write_none : (c : Config) (e : Option Entered) (t l : ℕ) (place : PacketSlot) → NoneAt c.stages 12 (t + 1) → HoldsIf c e t t t l place → HoldsIf c e (t + 1) t t l place
holds_write_none c e t l place none held =
    step_if c e t t t l (t + 1) t t l place place (unchanged place) (λ no. refl) (λ x vector is_there version yes. carried_write_none x.look c.stages vector t l place none) held

pub holds_read : (c : Config) → Rise c.stages → (e : Option Entered) (k t l : ℕ) (stage : Stage) (old new : PacketSlot) → k < length c.stages → get_or c.stages k stage ≡ stage → start_of c.stages k + 9 ≡ t + 1
    → ReadBy k stage old new → HoldsIf c e (t + 1) t t l old → HoldsIf c e (t + 1) (t + 1) t l new
holds_read c rise e k t l stage old new inside is at r held =
    step_if c e (t + 1) t t l (t + 1) (t + 1) t l old new r.so_far.same (λ no. r.so_far.vector)
    (λ x vector is_there version yes. carried_read x.look c.stages vector rise k t l stage old new inside is at r yes) held

pub holds_read_none : (c : Config) (e : Option Entered) (t l : ℕ) (place : PacketSlot) → NoneAt c.stages 9 (t + 1) → HoldsIf c e (t + 1) t t l place → HoldsIf c e (t + 1) (t + 1) t l place
holds_read_none c e t l place none held =
    step_if c e (t + 1) t t l (t + 1) (t + 1) t l place place (unchanged place) (λ no. refl) (λ x vector is_there version yes. carried_read_none x.look c.stages vector t l place none) held

pub holds_act : (c : Config) → Rise c.stages → (e : Option Entered) (k t : ℕ) (stage : Stage) (old new : PacketSlot) → k < length c.stages → get_or c.stages k stage ≡ stage → start_of c.stages k + 8 ≡ t + 1
    → DecidedBy k stage old new → HoldsIf c e (t + 1) (t + 1) t (t + 1) old → HoldsIf c e (t + 1) (t + 1) (t + 1) (t + 1) new
holds_act c rise e k t stage old new inside is at d held =
    step_if c e (t + 1) (t + 1) t (t + 1) (t + 1) (t + 1) (t + 1) (t + 1) old new d.same (λ no. d.vector)
    (λ x vector is_there version yes. carried_act x.look c.stages vector rise k t stage old new inside is at d yes) held

pub holds_act_none : (c : Config) (e : Option Entered) (t : ℕ) (place : PacketSlot) → NoneAt c.stages 8 (t + 1) → HoldsIf c e (t + 1) (t + 1) t (t + 1) place → HoldsIf c e (t + 1) (t + 1) (t + 1) (t + 1) place
holds_act_none c e t place none held =
    step_if c e (t + 1) (t + 1) t (t + 1) (t + 1) (t + 1) (t + 1) (t + 1) place place (unchanged place) (λ no. refl) (λ x vector is_there version yes. carried_act_none x.look c.stages vector t place none) held

-- look-ups of stage k under a function that looks up alike there
looked_alike : (look other : Look) (k : ℕ) (words : Words) (stage : Stage) (looked : List Looked) → look k ≡ other k → AllLooked other k words stage looked → AllLooked look k words stage looked
looked_alike look other k words stage looked same all = record {
  all_units = all.all_units;
  each = λ i u d lt. by (get_or stage.units i u) (get_or looked i d) i (all.each i u d lt);
}
  where
    by : (u : ChipUnit) (l : Looked) (i : ℕ) → LookedFor other k i words u l → LookedFor look k i words u l
    by (Gate g) l i h = h
    by (Slot s) l i h = subst (λ (f : ℕ → ℕ → Option Found). Finds s.counted (cond (has_memory s.memory) (f i (key_of words s.keys)) None) l) (sym same) h

pub holds_look : (c : Config) → Rise c.stages → (e : Option Entered) (k t : ℕ) (stage : Stage) (old new : PacketSlot) (look : Look) → k < length c.stages → get_or c.stages k stage ≡ stage → start_of c.stages k ≡ t
    → ((x : Entered) → e ≡ Some x → old.version ≡ x.version → x.look k ≡ look k)
    → LookedBy look k stage old new → HoldsIf c e t t t t old → HoldsIf c e t t t (t + 1) new
holds_look c rise e k t stage old new look inside is at alike l held =
    step_if c e t t t t t t t (t + 1) old new l.so_far.same (λ no. l.so_far.vector)
    (λ x vector there version yes. carried_look x.look c.stages vector rise k t stage old new inside is at (own x (alike x there version)) yes) held
  where
    own : (x : Entered) → x.look k ≡ look k → LookedBy x.look k stage old new
    own x same = record {
      so_far = l.so_far;
      running = l.running;
      due = l.due;
      others = l.others;
      looked = λ yes. looked_alike x.look look k (λ v. slice_index old.vector v) stage (looked_at new.pending.items k) same (l.looked yes);
    }

pub holds_look_none : (c : Config) (e : Option Entered) (t : ℕ) (place : PacketSlot) → NoneAt c.stages 0 t → HoldsIf c e t t t t place → HoldsIf c e t t t (t + 1) place
holds_look_none c e t place none held =
    step_if c e t t t t t t t (t + 1) place place (unchanged place) (λ no. refl) (λ x vector is_there version yes. carried_look_none x.look c.stages vector t place none) held

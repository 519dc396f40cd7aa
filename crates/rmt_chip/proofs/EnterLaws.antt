-- A packet that has just entered, and the ring one cycle later.
use Rattle.std.proofs.Common.{◌≡◌, ◌≢◌, ℕ, zero, suc, ◌+◌, ◌-◌, ◌<◌, ◌≤◌, List, [], length, get_or, set, take, Option, Some, None, refl, sym, ap, ◌∙◌, subst, ⊎_elim, arith}
use Rattle.std.specs.Prelude.{slice_index, replicate}
use Rattle.std.proofs.lemmas.List.{get_or-set_same, get_or-set_other, length-set}
use Rattle.std.proofs.lemmas.Bool.{cases_eq}
use Rattle.rmt_bits.proofs.WordLaws.{get_or-zeros}
use Rattle.rmt_bits.specs.Packet.{Packet}
use Rattle.rmt_chip.specs.Types.{Config, Stage}
use Rattle.rmt_config.specs.Life.{Look, life_of}
use Rattle.rmt_config.specs.Parser.{Parse, Short, Reject, Accept, parse, put}
use Rattle.rmt_chip.specs.declared.packet_slot.PacketSlot.{PacketSlot}
use Rattle.rmt_chip.specs.Runnable.{start_of}
use Rattle.rmt_chip.specs.Held.{Carried, CarriedFor, Entered, Holds, HoldsIf, EnteredBy, Begins, FrameIs}
use Rattle.rmt_chip.specs.Ring.{ring_at, ring_after, now, past, next, AllHold, FramesAre}
use Rattle.rmt_chip.specs.declared.frame.Frame.{Frame}
use Rattle.rmt_chip.specs.Inputs.{input_of, frames_after}
use Rattle.rmt_chip.proofs.LifeLaws.{Rise, word_first}
use Rattle.rmt_chip.proofs.RingLaws.{ring_at-newest, ring_at-apart, ring_at-older, ring_after-lt}

carried_first : (look : Look) (stages : List Stage) (vector : List ℕ) → Rise stages → (place : PacketSlot) → length place.vector ≡ 224 → place.vector ≡ vector → place.outcomes ≡ replicate 256 0
    → Carried look stages vector 0 0 0 0 place
carried_first look stages vector rise place whole v o = record {
  all_words = whole;
  words = λ w. ap (λ (ws : List ℕ). slice_index ws w) v ∙ sym (word_first look stages vector w rise);
  looked = λ k d b early late. absurd (omega (arith, early));
  running = λ k d b e late. absurd (omega (arith, e));
  due = λ k d b early late w. absurd (omega (arith, early));
  outcomes = λ k b before after. by_stage k before;
}
  where
    by_stage : (k : ℕ) → ((j : ℕ) → j < k → start_of stages j + 8 ≤ 0) → place.outcomes ≡ (life_of look (take k stages) vector).outcomes
    by_stage zero before = o
    by_stage (suc k) before = absurd (let e : start_of stages 0 + 8 ≤ 0 = before 0 (omega arith) in omega arith)

begins_carried : (look : Look) (c : Config) (packet : Packet) → Rise c.stages → (place : PacketSlot) → place.outcomes ≡ replicate 256 0 → (p : Parse) → Begins c packet place p → CarriedFor look c packet 0 0 0 0 place p
begins_carried look c packet rise place o Short b = (b.0, λ w. ap (λ (ws : List ℕ). slice_index ws w) b.1 ∙ get_or-zeros 224 w 0)
begins_carried look c packet rise place o Reject b = (b.0, λ w. ap (λ (ws : List ℕ). slice_index ws w) b.1 ∙ get_or-zeros 224 w 0)
begins_carried look c packet rise place o (Accept r) b = (b.0, b.1, carried_first look c.stages (put r.vector c.in_port packet.port) rise place b.3 b.2 o)

pub holds_entered : (c : Config) → Rise c.stages → (e : Entered) (place : PacketSlot) → EnteredBy c e.packet e.number e.version place → Holds c e 0 0 0 0 place
holds_entered c rise e place h = record {
  taken = h.taken;
  number = h.number_is;
  version = h.version_is;
  size = h.size;
  carried = begins_carried e.look c e.packet rise place h.outcomes (parse c.parser e.packet.frame) h.begins;
}

-- one cycle later an age but the first is at the place of the age before it, which isn't the newest one's
older_at : (size newest newest' t : ℕ) → newest < size → t < size → newest' ≡ ring_after size newest → t ≢ 0 → (ring_at size newest' t ≡ ring_at size newest (t - 1)) × (ring_at size newest' t ≢ newest')
older_at size newest newest' t ring h turned apart =
    let back : t - 1 + 1 ≡ t = omega arith in
    let inside : newest' < size = subst (λ n. n < size) (sym turned) (ring_after-lt size newest ring) in (
      ap (λ n. ring_at size n t) turned ∙ ap (ring_at size (ring_after size newest)) (sym back) ∙ ring_at-older size newest (t - 1) ring (omega arith),
      λ e. ring_at-apart size newest' t 0 inside h (omega arith) apart (e ∙ sym (ring_at-newest size newest')),
    )

-- one cycle later each packet is one cycle older
pub ring_turns : (c : Config) (item item' : ℕ → Option Entered) (newest newest' : ℕ) (places : List PacketSlot) (new : PacketSlot) → newest < length places → newest' ≡ ring_after (length places) newest
    → ((t : ℕ) → item' (t + 1) ≡ item t) → HoldsIf c (item' 0) 0 0 0 0 new
    → AllHold c item now now now next newest places → AllHold c item' past past past now newest' (set places newest' new)
ring_turns c item item' newest newest' places new ring turned older first was =
    subst (λ n. (t : ℕ) (d : PacketSlot) → t < n → HoldsIf c (item' t) (past t) (past t) (past t) t (get_or (set places newest' new) (ring_at n newest' t) d)) (sym (length-set places newest' new)) by
  where
    by : (t : ℕ) (d : PacketSlot) → t < length places → HoldsIf c (item' t) (past t) (past t) (past t) t (get_or (set places newest' new) (ring_at (length places) newest' t) d)
    by t d h =
        ⊎_elim
        (λ (e : t ≡ 0).
        let at : ring_at (length places) newest' t ≡ newest' = ap (ring_at (length places) newest') e ∙ ring_at-newest (length places) newest' in
        let inside : newest' < length places = subst (λ n. n < length places) (sym turned) (ring_after-lt (length places) newest ring) in
        let place : get_or (set places newest' new) (ring_at (length places) newest' t) d ≡ new = ap (λ n. get_or (set places newest' new) n d) at ∙ get_or-set_same places newest' new d inside in
        let age : past t ≡ 0 = omega arith in
        subst (λ (p : PacketSlot). HoldsIf c (item' t) (past t) (past t) (past t) t p) (sym place)
        (subst (λ n. HoldsIf c (item' t) n n n t new) (sym age) (subst (λ n. HoldsIf c (item' n) 0 0 0 n new) (sym e) first)))
        (λ (apart : t ≢ 0).
        let back : t ≡ t - 1 + 1 = omega arith in
        let at = older_at (length places) newest newest' t ring h turned apart in
        let place : get_or (set places newest' new) (ring_at (length places) newest' t) d ≡ get_or places (ring_at (length places) newest (t - 1)) d =
        get_or-set_other places newest' (ring_at (length places) newest' t) new d at.1 ∙ ap (λ n. get_or places n d) at.0 in
        let same : item' t ≡ item (t - 1) = ap item' back ∙ older (t - 1) in
        subst (λ (p : PacketSlot). HoldsIf c (item' t) (past t) (past t) (past t) t p) (sym place)
        (subst (λ (o : Option Entered). HoldsIf c o (t - 1) (t - 1) (t - 1) t (get_or places (ring_at (length places) newest (t - 1)) d)) (sym same)
        (subst (λ n. HoldsIf c (item (t - 1)) (t - 1) (t - 1) (t - 1) n (get_or places (ring_at (length places) newest (t - 1)) d)) (sym back) (was (t - 1) d (omega arith)))))
        (cases_eq t 0)

-- what entered is this input's packet, with what the cycle gives it
abbrev pub IsOf : Option Packet → ℕ → ℕ → Option Entered → Type 0
IsOf None number version None = Unit {0}
IsOf None number version (Some e) = ⊥
IsOf (Some packet) number version None = ⊥
IsOf (Some packet) number version (Some e) = (e.packet ≡ packet) × (e.number ≡ number) × (e.version ≡ version)

-- the frame of what enters, and those of all others
frame_first : (frame : Option Frame) (number version at : ℕ) (e : Option Entered) (frames : List (List ℕ)) → at < length frames → IsOf (input_of frame) number version e → FrameIs e (get_or (frames_after frame at frames) at [])
frame_first None number version at None frames h is = tt
frame_first None number version at (Some e) frames h is = absurd is
frame_first (Some f) number version at None frames h is = absurd is
frame_first (Some f) number version at (Some e) frames h is = get_or-set_same frames at f.bytes.now [] h ∙ ap (λ (p : Packet). p.frame) (sym is.0)

frame_other : (frame : Option Frame) (at j : ℕ) (frames : List (List ℕ)) → j ≢ at → get_or (frames_after frame at frames) j [] ≡ get_or frames j []
frame_other None at j frames apart = refl
frame_other (Some f) at j frames apart = get_or-set_other frames at j f.bytes.now [] apart

-- as many as before
pub length-frames_after : (frame : Option Frame) (at : ℕ) (frames : List (List ℕ)) → length (frames_after frame at frames) ≡ length frames
length-frames_after None at frames = refl
length-frames_after (Some f) at frames = length-set frames at f.bytes.now

pub frames_turn : (item item' : ℕ → Option Entered) (newest newest' number version : ℕ) (frame : Option Frame) (frames : List (List ℕ)) → newest < length frames → newest' ≡ ring_after (length frames) newest
    → ((t : ℕ) → item' (t + 1) ≡ item t) → IsOf (input_of frame) number version (item' 0)
    → FramesAre item newest frames → FramesAre item' newest' (frames_after frame newest' frames)
frames_turn item item' newest newest' number version frame frames ring turned older first was =
    subst (λ n. (t : ℕ) → t < n → FrameIs (item' t) (get_or (frames_after frame newest' frames) (ring_at n newest' t) [])) (sym (length-frames_after frame newest' frames)) by
  where
    by : (t : ℕ) → t < length frames → FrameIs (item' t) (get_or (frames_after frame newest' frames) (ring_at (length frames) newest' t) [])
    by t h =
        ⊎_elim
        (λ (e : t ≡ 0).
        let at : ring_at (length frames) newest' t ≡ newest' = ap (ring_at (length frames) newest') e ∙ ring_at-newest (length frames) newest' in
        let inside : newest' < length frames = subst (λ n. n < length frames) (sym turned) (ring_after-lt (length frames) newest ring) in
        subst (λ n. FrameIs (item' t) (get_or (frames_after frame newest' frames) n [])) (sym at)
        (subst (λ (o : Option Entered). FrameIs o (get_or (frames_after frame newest' frames) newest' [])) (sym (ap item' e)) (frame_first frame number version newest' (item' 0) frames inside first)))
        (λ (apart : t ≢ 0).
        let back : t ≡ t - 1 + 1 = omega arith in
        let at = older_at (length frames) newest newest' t ring h turned apart in
        let same : item' t ≡ item (t - 1) = ap item' back ∙ older (t - 1) in
        subst (λ (f : List ℕ). FrameIs (item' t) f) (sym (frame_other frame newest' (ring_at (length frames) newest' t) frames at.1 ∙ ap (λ n. get_or frames n []) at.0))
        (subst (λ (o : Option Entered). FrameIs o (get_or frames (ring_at (length frames) newest (t - 1)) [])) (sym same) (was (t - 1) (omega arith))))
        (cases_eq t 0)

-- The parts of a cycle together.
use Rattle.std.proofs.Common.{◌≡◌, ℕ, ◌+◌, ◌<◌, List, [], ◌∷◌, ◌++◌, length, get_or, set, Option, Vec, Global, sym, ap, ◌∙◌, subst, arith}
use Rattle.rmt_bits.specs.Counts.{counts}
use Rattle.rmt_bits.specs.declared.answer.Count.{Count}
use Rattle.rmt_bits.specs.declared.answer.Verdict.{Verdict}
use Rattle.std.specs.Prelude.{option_map}
use Rattle.std.proofs.lemmas.List.{length_push}
use Rattle.rmt_chip.specs.Types.{Config}
use Rattle.rmt_config.specs.ChipRun.{Outcome, latency_of, outcome_of}
use Rattle.rmt_config.specs.RunCells.{RunCells}
use Rattle.rmt_config.specs.RunInputs.{Input, hits_from}
use Rattle.rmt_chip.specs.declared.frame.Frame.{Frame}
use Rattle.rmt_memory.specs.declared.memory.SlotMemory.{SlotMemory}
use Rattle.rmt_chip.specs.declared.moment.Moment.{Moment}
use Rattle.rmt_chip.specs.declared.packet_slot.PacketSlot.{PacketSlot}
use Rattle.rmt_chip.specs.Held.{Entered, HoldsIf, EntersIf, FrameIs}
use Rattle.rmt_chip.specs.Hits.{hits_upto}
use Rattle.rmt_chip.specs.Inputs.{entered_at, input_of, frames_after}
use Rattle.rmt_chip.specs.Leaving.{AnswersIf, leaving_if}
use Rattle.rmt_chip.specs.Ran.{CountsAlso}
use Rattle.rmt_chip.specs.Ring.{ring_at, ring_after, now, past, next, AllHold, FramesAre, LooksNow}
use Rattle.rmt_chip.specs.Cycles.{Cycles}
use Rattle.rmt_chip.specs.PacketsInFlight.{InFlight, Precedes, cells_after}
use Rattle.rmt_chip.proofs.LifeLaws.{Rise}
use Rattle.rmt_chip.proofs.EnterLaws.{ring_turns, frames_turn, length-frames_after}
use Rattle.rmt_chip.proofs.EnteredLaws.{run-is, older, newest as newest-is, looks-now}
use Rattle.rmt_chip.proofs.CycleLaws.{holds_enters, leaves_right, answer_entered}
use Rattle.rmt_chip.proofs.TurnLaws.{counted_turn}
use Rattle.rmt_chip.proofs.RingLaws.{held_at}

-- what the four passes make of the packet slots and the counters, where look-ups are made in these cells
pub record Passes (c : Config) (cells : RunCells) (old one two three four : List PacketSlot) (newest : ℕ) (before after : List Count) : Type 0 where
  pub write : (item : ℕ → Option Entered) → AllHold c item past past past now newest old → AllHold c item now past past now newest one
  pub read : (item : ℕ → Option Entered) → AllHold c item now past past now newest one → AllHold c item now now past now newest two
  pub act : (item : ℕ → Option Entered) → AllHold c item now now past now newest two
      → AllHold c item now now now now newest three × CountsAlso before after (hits_upto c item (length c.stages))
  pub look : (item : ℕ → Option Entered) → LooksNow c cells item → AllHold c item now now now now newest three → AllHold c item now now now next newest four

pub cycle_right : (c : Config) → Rise c.stages → (numbers : List ℕ) (inputs later : List Input) (input : Input) (frame : Option Frame) (before : ℕ) (moment : Moment) (memories : List (Vec SlotMemory Global)) (latency last : ℕ) (places one two three four : List PacketSlot) (frames : List (List ℕ)) (counters counters' : List Count)
    (new place : PacketSlot) (answer : Option Verdict) (bytes : List ℕ)
    → Precedes c inputs input before moment frame memories → length places ≡ latency_of c.stages + 1 → length frames ≡ latency_of c.stages + 1 → EntersIf c (input_of frame) moment.number moment.version new
    → Passes c (cells_after c inputs) (set places moment.newest new) one two three four moment.newest counters counters'
    → latency ≡ latency_of c.stages → length four ≡ latency_of c.stages + 1 → last ≡ ring_at (length four) moment.newest latency → place ≡ get_or four last place → AnswersIf (leaving_if c place (get_or (frames_after frame moment.newest frames) last []) place.taken) answer bytes
    → InFlight c numbers inputs (input ∷ later) before places frames counters
    → Cycles c numbers inputs later input moment.newest four (frames_after frame moment.newest frames) counters' answer bytes
cycle_right c rise numbers inputs later input frame before moment memories latency last places one two three four frames counters counters' new place answer bytes comes full all_frames enters passes leaves as_many last_is place_is left flight =
    let newest = moment.newest in
    let n = length inputs in
    let all = inputs ++ input ∷ [] in
    let run = all ++ later in
    let before_item : ℕ → Option Entered = entered_at c run n in
    let item : ℕ → Option Entered = entered_at c run (length all) in
    let same : inputs ++ input ∷ later ≡ run = sym (run-is c inputs later input) in
    let held : AllHold c before_item now now now next before places = subst (λ (xs : List Input). AllHold c (entered_at c xs n) now now now next before places) same flight.places_hold in
    let framed : FramesAre before_item before frames = subst (λ (xs : List Input). FramesAre (entered_at c xs n) before frames) same flight.frames_stand in
    let counted : counters ≡ counts numbers (hits_from c run 0 inputs) = subst (λ (xs : List Input). counters ≡ counts numbers (hits_from c xs 0 inputs)) same flight.counters_are in
    let first = newest-is c inputs later input (input_of frame) moment.number moment.version comes.enters comes.number_is comes.version_is in
    let new_holds : HoldsIf c (item 0) 0 0 0 0 new = holds_enters c rise (input_of frame) moment.number moment.version (item 0) new first enters in
    let turned = ring_turns c before_item item before newest places new (omega (arith, full, comes.within)) (comes.newest_is ∙ ap (λ m. ring_after m before) (sym full)) (older c inputs later input) new_holds held in
    let acted = passes.act item (passes.read item (passes.write item turned)) in
    let after = passes.look item (looks-now c inputs later input) acted.0 in
    let stand = frames_turn before_item item before newest moment.number moment.version frame frames (omega (arith, all_frames, comes.within)) (comes.newest_is ∙ ap (λ m. ring_after m before) (sym all_frames)) (older c inputs later input) first framed in
    let age : latency < length four = omega arith in
    let still : length (frames_after frame newest frames) ≡ length four = length-frames_after frame newest frames ∙ all_frames ∙ sym as_many in
    let last_frame : last ≡ ring_at (length (frames_after frame newest frames)) newest latency = last_is ∙ ap (λ m. ring_at m newest latency) (sym still) in
    let at_last : HoldsIf c (item latency) latency latency latency (latency + 1) place = held_at c item newest latency last four place age last_is place_is after in
    let frame_is : FrameIs (item latency) (get_or (frames_after frame newest frames) last []) = subst (λ m. FrameIs (item latency) (get_or (frames_after frame newest frames) m [])) (sym last_frame) (stand latency (omega (arith, age, still))) in
    let at_age : HoldsIf c (item (latency_of c.stages)) (latency_of c.stages) (latency_of c.stages) (latency_of c.stages) (latency + 1) place = subst (λ m. HoldsIf c (item m) m m m (latency + 1) place) leaves at_last in
    let frame_at : FrameIs (item (latency_of c.stages)) (get_or (frames_after frame newest frames) last []) = subst (λ m. FrameIs (item m) (get_or (frames_after frame newest frames) last [])) leaves frame_is in
    record {
      flies = record {
        places_hold = after;
        frames_stand = stand;
        counters_are = counted_turn c numbers inputs later input counters counters' counted acted.1;
      };
      answers = subst (λ (o : Option Outcome). AnswersIf o answer bytes)
          (sym (answer_entered c run n ∙ ap (λ m. option_map (λ (e : Entered). outcome_of e.look c e.packet) (entered_at c run m (latency_of c.stages))) (sym (length_push inputs input))))
          (leaves_right c (latency + 1) (item (latency_of c.stages)) place (get_or (frames_after frame newest frames) last []) answer bytes at_age frame_at left);
    }

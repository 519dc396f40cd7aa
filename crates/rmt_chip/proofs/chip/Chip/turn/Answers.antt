use Rattle.std.proofs.Common.{◌≡◌, ℕ, ◌+◌, ◌≤◌, cond, List, All, refl, sym, ap, ◌∙◌, subst, arith}
use Rattle.std.specs.Prelude.{is_some}
use Rattle.std.proofs.lemmas.List.{with_items_is}
use Rattle.std.proofs.Common.{Vec, Global}
use Rattle.rmt_chip.specs.declared.packet_slot.PacketSlot.{PacketSlot}
use Rattle.rmt_memory.specs.declared.memory.SlotMemory.{SlotMemory}
use Rattle.rmt_chip.specs.declared.moment.Moment.{Moment}
use Rattle.rmt_config.specs.ChipRun.{latency_of}
use Rattle.rmt_chip.specs.FrameList.{frames_of}
use Rattle.rmt_chip.specs.Pending.{HaveRoomFor}
use Rattle.rmt_chip.specs.Ring.{ring_after}
use Rattle.rmt_memory.specs.StageMemories.{MemoriesOf}
use Rattle.rmt_chip.proofs.EnteredLaws.{byte_of}
use Rattle.rmt_chip.proofs.FormedRuns.{runnable}
use Rattle.rmt_chip.proofs.StandsLaws.{CycleGives, turn_right, no_limit}
use Rattle.rmt_chip.proofs.chip.Chip.turn.Goals as goal
use mir.Val.{bool_byte}

pub cycle-answer-requires-clause-fits : goal.cycle-answer-requires-clause-fits
cycle-answer-requires-clause-fits c =
    let self = c.args.self.now in
    runnable self.config self.formed (no_limit self.config self.limits)

pub cycle-answer-requires-clause-memories : goal.cycle-answer-requires-clause-memories
cycle-answer-requires-clause-memories c =
    let self = c.args.self.now in
    subst (MemoriesOf self.config.stages) (sym c.deref.ensures.value) self.fit

pub cycle-answer-requires-clause-room : goal.cycle-answer-requires-clause-room
cycle-answer-requires-clause-room c =
    let self = c.args.self.now in
    subst (All (λ (p : PacketSlot). HaveRoomFor self.config.stages p.pending.items)) (sym c.deref_mut.ensures.value) self.room

pub returns-clause-goes : goal.returns-clause-goes
returns-clause-goes c = λ config numbers inputs input is took.
    let old = c.args.self.now in
    let same = c.cycle-answer.auto.places in
    let lent = c.deref_mut.ensures.len in
    let items = with_items_is old.places c.cycle-answer.new.places (omega arith) in
    let grown : c.from-entering.result ≡ cond (is_some c.args.frame) 1 0 = c.from-entering.ensures ∙ ap bool_byte c.is_some.ensures ∙ byte_of (is_some c.args.frame) in
    let among : old.newest ≤ latency_of old.config.stages = omega (arith, old.in_ring, old.leaves) in
    let size : c.len.result ≡ latency_of old.config.stages + 1 = omega (arith, c.len.ensures, old.full, old.leaves) in
    let turned = c.place_after-newest.ensures.place ∙ ap (λ n. ring_after n old.newest) size in
    let moment : Moment = record { newest = c.place_after-newest.result; number = old.entered; version = old.version; seed = old.seed } in
    let Gives = λ (memories : List (Vec SlotMemory Global)) (before after : List PacketSlot).
    CycleGives old.config moment c.args.frame memories before after (frames_of old.frames) (frames_of c.cycle-answer.new.frames) old.counters.counts c.cycle-answer.new.counters.counts c.cycle-answer.result c.cycle-answer.new.out in
    turn_right config numbers inputs input c.args.frame old _ c.cycle-answer.result c.cycle-answer.new.out among is refl refl refl refl
    (ap (λ (n : ℕ). old.entered + n) grown) turned
    (subst (λ (ps : List PacketSlot). Gives old.memories.items old.places.items ps) (sym items)
    (subst (λ (ps : List PacketSlot). Gives old.memories.items ps c.cycle-answer.new.places) c.deref_mut.ensures.value
    (subst (λ (ms : List (Vec SlotMemory Global)). Gives ms c.deref_mut.result.now c.cycle-answer.new.places) c.deref.ensures.value c.cycle-answer.ensures.gives)))
    took

pub cycle-answer-requires-clause-frame : goal.cycle-answer-requires-clause-frame
cycle-answer-requires-clause-frame c = c.requires.frame

pub cycle-answer-requires-clause-framed : goal.cycle-answer-requires-clause-framed
cycle-answer-requires-clause-framed c = c.args.self.now.framed

pub cycle-answer-requires-clause-leaves : goal.cycle-answer-requires-clause-leaves
cycle-answer-requires-clause-leaves c = c.args.self.now.leaves

pub invariant_of-self : goal.invariant_of-self
invariant_of-self c =
    let self = c.args.self.now in
    let same = c.cycle-answer.auto.places in
    let lent = c.deref_mut.ensures.len in
    let items = with_items_is self.places c.cycle-answer.new.places (omega arith) in
    let within = c.place_after-newest.ensures.within in
    let size = c.len.ensures in
    let full = self.full in
    record {
      formed = self.formed;
      limits = self.limits;
      fit = self.fit;
      full = self.full;
      framed = c.cycle-answer.ensures.framed ∙ self.framed;
      room = subst (All (λ (p : PacketSlot). HaveRoomFor self.config.stages p.pending.items)) (sym items) c.cycle-answer.ensures.room;
      in_ring = omega (arith, within, size, full);
      leaves = self.leaves;
    }

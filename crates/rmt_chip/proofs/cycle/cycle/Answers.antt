use Rattle.std.proofs.Common.{◌≡◌, ◌+◌, [], ℕ, List, length, get_or, set, Vec, Global, sym, ap, subst, ◌∙◌, arith}
use Rattle.rmt_config.specs.ChipRun.{latency_of}
use Rattle.rmt_chip.specs.declared.packet_slot.PacketSlot.{PacketSlot}
use Rattle.rmt_chip.specs.declared.pending.Pending.{Pending}
use Rattle.rmt_chip.specs.FrameList.{frames_of}
use Rattle.rmt_chip.specs.Inputs.{frames_after}
use Rattle.rmt_chip.specs.Leaving.{AnswersIf, leaving_if}
use Rattle.rmt_chip.specs.Pending.{HaveRoomFor}
use Rattle.rmt_chip.specs.Ring.{ring_at}
use Rattle.rmt_chip.specs.PacketsInFlight.{cells_after}
use Rattle.rmt_chip.specs.Cycles.{Cycles}
use Rattle.rmt_chip.proofs.EnterLaws.{length-frames_after}
use Rattle.rmt_chip.proofs.PassLaws.{ring_set}
use Rattle.rmt_chip.proofs.WholeCycle.{Passes, cycle_right}
use Rattle.rmt_chip.proofs.cycle.cycle.Goals as goal

pub write_words-requires-clause-ring : goal.write_words-requires-clause-ring
write_words-requires-clause-ring c =
    let stages = c.args.config.now.stages in
    ring_set stages c.args.moment.newest c.args.moment.newest c.args.places.now c.enter_if.new.place
    (subst (λ (x : Vec Pending Global). HaveRoomFor stages x.items) (sym c.enter_if.ensures.room) (c.requires.room c.args.moment.newest c.index-places-newest.result (omega arith)))
    (record { full = c.requires.full ∙ ap (λ n. n + 1) c.requires.leaves; among = omega arith; room = c.requires.room })

pub returns-clause-framed : goal.returns-clause-framed
returns-clause-framed c = ap length c.enter_if.ensures.frames ∙ length-frames_after c.args.frame c.args.moment.newest (frames_of c.args.frames.now)

pub returns-clause-gives : goal.returns-clause-gives
returns-clause-gives c = λ numbers inputs later input before comes flight.
    let config = c.args.config.now in
    let newest = c.args.moment.newest in
    let at = c.place_of-last.result in
    let four = c.read_keys.new.places in
    let place = get_or four at c.index-places-last.result in
    let place_is : place ≡ get_or four at place = ap (λ (p : PacketSlot). get_or four at p) c.index-places-last.is in
    let frames = c.args.frames.now in
    let all : length c.args.places.now ≡ latency_of config.stages + 1 = c.requires.full ∙ ap (λ n. n + 1) c.requires.leaves in
    let all_frames : length (frames_of frames) ≡ latency_of config.stages + 1 = c.requires.framed ∙ ap (λ n. n + 1) c.requires.leaves in
    let as_many : length four ≡ latency_of config.stages + 1 = c.read_keys.ensures.ring.full in
    let last = c.place_of-last.ensures.place ∙ ap (ring_at (length four) newest) c.from.ensures in
    let cells = cells_after config inputs in
    let passes : Passes config cells (set c.args.places.now newest c.enter_if.new.place) c.write_words.new.places c.read_operands.new.places c.set_outcomes.new.places four newest c.args.counters.now.counts c.set_outcomes.new.counters.counts = record {
      write = c.write_words.ensures.holds;
      read = c.read_operands.ensures.holds;
      act = c.set_outcomes.ensures.holds;
      look = λ item looks. c.read_keys.ensures.holds cells item comes.held (sym comes.seed_is) looks;
    } in
    let entered = c.enter_if.ensures.frames in
    let left : AnswersIf (leaving_if config place (get_or (frames_after c.args.frame newest (frames_of frames)) at []) place.taken) c.leave.result c.leave.new.out =
    subst (λ (fs : List (List ℕ)). AnswersIf (leaving_if config place (get_or fs at []) place.taken) c.leave.result c.leave.new.out) entered c.leave.ensures in
    let given = cycle_right config c.requires.fits.stages.rise numbers inputs later input c.args.frame before c.args.moment c.args.memories.now c.args.latency at
    c.args.places.now c.write_words.new.places c.read_operands.new.places c.set_outcomes.new.places four (frames_of frames) c.args.counters.now.counts c.set_outcomes.new.counters.counts
    c.enter_if.new.place place c.leave.result c.leave.new.out comes all all_frames c.enter_if.ensures.entered passes c.requires.leaves as_many last place_is left flight in
    subst (λ (fs : List (List ℕ)). Cycles config numbers inputs later input newest four fs c.set_outcomes.new.counters.counts c.leave.result c.leave.new.out) (sym entered) given

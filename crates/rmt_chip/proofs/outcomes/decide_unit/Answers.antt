use Rattle.std.proofs.Common.{◌≡◌, ◌+◌, sym, subst, cond, get_or}
use Rattle.rmt_chip.specs.Types.{Unit}
use Rattle.rmt_config.specs.declared.config.Unit.TheVariants.{Slot}
use Rattle.rmt_config.specs.Instructions.{first_code}
use Rattle.rmt_config.specs.Life.{runs, slot_acts, looked_up, unit_acts}
use Rattle.rmt_memory.specs.Looked.{LookedFor}
use Rattle.rmt_chip.specs.Ran.{HaveDone}
use Rattle.rmt_chip.proofs.DecidingLaws.{moved}
use Rattle.rmt_chip.proofs.outcomes.decide_unit.Goals as goal

pub returns-in-Slot-clause-done : goal.returns-in-Slot-clause-done
returns-in-Slot-clause-done c = λ look k stage words d first acts read low was.
    let s = c.in-Slot.slot in
    let is : c.args.what.now ≡ Slot s = c.in-Slot.is in
    let one = subst (λ (u : Unit). LookedFor look k acts.place words u (get_or c.args.looked.now c.args.at.unit d)) is read in
    let done = subst (λ b. HaveDone stage c.args.looked.now c.args.bytes first (cond (runs s.node s.guard acts.outcomes) (slot_acts stage b s (looked_up look k acts.place words s) acts) acts) c.decide_slot.new.outcomes c.decide_slot.new.running.items c.decide_slot.new.counters.counts) low
    (c.decide_slot.ensures.done stage (looked_up look k acts.place words s) d first acts one was) in
    subst (λ (u : Unit). HaveDone stage c.args.looked.now c.args.bytes first (unit_acts look k stage words acts u) c.decide_slot.new.outcomes c.decide_slot.new.running.items c.decide_slot.new.counters.counts) (sym is)
    (moved stage c.args.looked.now c.args.bytes first c.decide_slot.new.counters.counts (cond (runs s.node s.guard acts.outcomes) (slot_acts stage (first_code stage acts.place) s (looked_up look k acts.place words s) acts) acts) c.decide_slot.new.outcomes c.decide_slot.new.running.items (acts.place + 1) done)

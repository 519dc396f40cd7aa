use Rattle.std.proofs.Common.{◌≡◌, sym, subst, cond, ℕ, Option, None}
use Rattle.std.specs.Prelude.{slice_index}
use Rattle.rmt_chip.specs.Types.{Unit}
use Rattle.rmt_config.specs.declared.config.Unit.TheVariants.{Slot}
use Rattle.rmt_config.specs.Cells.{Found}
use Rattle.rmt_config.specs.Life.{has_memory, key_of}
use Rattle.rmt_memory.specs.Looked.{Finds, LookedFor}
use Rattle.rmt_chip.proofs.keys.look_unit.Goals as goal

pub returns-in-Slot-clause-looked : goal.returns-in-Slot-clause-looked
returns-in-Slot-clause-looked c = λ cells look k place held seed looks.
    let s = c.in-Slot.slot in
    let is : c.args.unit.now ≡ Slot s = c.in-Slot.is in
    let words = λ (w : ℕ). slice_index c.args.vector.now w in
    let found = c.look_slot.ensures.found cells k place (held s is) seed in
    subst (λ (u : Unit). LookedFor look k place words u c.look_slot.new.into) (sym is)
    (subst (λ (f : Option Found). Finds s.counted (cond (has_memory s.memory) f None) c.look_slot.new.into) (sym (looks s is (key_of words s.keys))) found)

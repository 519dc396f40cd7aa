use Rattle.std.proofs.Common.{◌≡◌, ◌<◌, ◌^◌, Bool, cond, None, ap, sym, ◌∙◌, subst, ℕ, List}
use Rattle.std.specs.Prelude.{slice_index}
use Rattle.rmt_bits.specs.Bits.{number_of}
use Rattle.rmt_bits.specs.declared.lane.Lane.{Lane}
use Rattle.rmt_config.specs.LaneForm.{bits_of_lanes}
use Rattle.rmt_config.specs.RunCells.{found_in_slot}
use Rattle.rmt_config.specs.Life.{key_of}
use Rattle.rmt_memory.specs.Looked.{Finds}
use Rattle.rmt_chip.proofs.LookLaws.{key_of-lt}
use Rattle.rmt_chip.proofs.keys.look_slot.Goals as goal

pub returns-clause-found : goal.returns-clause-found
returns-clause-found c = λ cells k place holds seed.
    let slot = c.args.slot.now in
    let sight = c.args.sight in
    let keys = slot.keys in
    let words = λ (w : ℕ). slice_index c.args.vector.now w in
    let there = sym c.has_memory.ensures ∙ c.if-not-has_memory.false in
    let key : number_of c.put_together.new.buffer ≡ key_of words keys = c.put_together.ensures ∙ ap (λ (ls : List Lane). key_of words ls) c.as_slice-2.ensures in
    let small : number_of c.put_together.new.buffer < 2 ^ bits_of_lanes keys = subst (λ (n : ℕ). n < 2 ^ bits_of_lanes keys) (sym key) (key_of-lt words keys) in
    let found = λ (n : ℕ). found_in_slot sight.named sight.version cells k place n slot in
    subst (λ (b : Bool). Finds slot.counted (cond b (found (key_of words keys)) None) c.find.new.into) (sym there)
    (subst (λ (n : ℕ). Finds slot.counted (found n) c.find.new.into) key (c.find.ensures.found cells k place slot (holds there) seed small))

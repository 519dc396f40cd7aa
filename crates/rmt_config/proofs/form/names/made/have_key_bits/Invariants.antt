use Rattle.std.proofs.Common.{◌≡◌, ◌==◌, drop}
use Rattle.std.specs.List.{list_all}
use Rattle.rmt_config.specs.declared.form.names.part_list.Part.{Part}
use Rattle.rmt_config.specs.LaneForm.{bits_of_lanes}
use Rattle.rmt_config.proofs.form.names.made.have_key_bits.Given as goal

abbrev pub invariant-loop-part : goal.invariant-loop-part
invariant-loop-part l =
    list_all (λ (p : Part). l.bits == bits_of_lanes p.slot.now.keys) (drop l.part-index l.parts) ≡ list_all (λ (p : Part). l.bits == bits_of_lanes p.slot.now.keys) l.parts

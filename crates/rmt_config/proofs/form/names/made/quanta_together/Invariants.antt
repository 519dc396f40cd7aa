use Rattle.std.proofs.Common.{◌≡◌, ◌≤◌, ◌*◌, map, take}
use Rattle.std.specs.Prelude.{sum}
use Rattle.rmt_config.specs.declared.form.names.part_list.Part.{Part}
use Rattle.rmt_config.specs.NamesForm.{quanta_of}
use Rattle.rmt_config.proofs.form.names.made.quanta_together.Given as goal

abbrev pub invariant-loop-part : goal.invariant-loop-part
invariant-loop-part l = record {
  value : l.total ≡ sum (map (λ (p : Part). quanta_of p.slot.now.memory) (take l.part-index l.parts));
  small : l.total ≤ 255 * l.part-index;
}

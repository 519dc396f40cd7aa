use Rattle.std.proofs.Common.{◌≡◌, drop}
use Rattle.std.specs.List.{list_all}
use Rattle.rmt_config.specs.declared.form.names.part_list.Part.{Part}
use Rattle.rmt_config.specs.NamesForm.{is_of_kind}
use Rattle.rmt_config.proofs.form.names.made.are_of_kind.Given as goal

abbrev pub invariant-loop-part : goal.invariant-loop-part
invariant-loop-part l =
    list_all (λ (p : Part). is_of_kind l.kind p.slot.now.memory) (drop l.part-index l.parts) ≡ list_all (λ (p : Part). is_of_kind l.kind p.slot.now.memory) l.parts

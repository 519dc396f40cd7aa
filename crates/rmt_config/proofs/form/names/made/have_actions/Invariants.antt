use Rattle.std.proofs.Common.{◌≡◌, ◌==◌, ◌&&◌, drop, length}
use Rattle.std.specs.Prelude.{nat_le, sum}
use Rattle.std.specs.List.{list_all}
use Rattle.rmt_ast.specs.declared.names.ActionName.{ActionName}
use Rattle.rmt_config.specs.declared.form.names.part_list.Part.{Part}
use Rattle.rmt_config.proofs.form.names.made.have_actions.Given as goal

abbrev pub invariant-loop-part : goal.invariant-loop-part
invariant-loop-part l =
    list_all (λ (p : Part). (length l.actions == p.slot.now.actions) && list_all (λ (a : ActionName). nat_le (sum a.params) p.slot.now.held) l.actions) (drop l.part-index l.parts)
    ≡ list_all (λ (p : Part). (length l.actions == p.slot.now.actions) && list_all (λ (a : ActionName). nat_le (sum a.params) p.slot.now.held) l.actions) l.parts

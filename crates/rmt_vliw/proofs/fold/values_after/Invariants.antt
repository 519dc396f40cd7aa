use Rattle.std.proofs.Common.{◌≡◌, [], drop}
use Rattle.std.specs.Prelude.{fold}
use Rattle.rmt_vliw.specs.Known.{known_after}
use Rattle.rmt_vliw.proofs.fold.values_after.Given as goal

abbrev pub invariant-loop-next : goal.invariant-loop-next
invariant-loop-next l = fold known_after l.values.items (drop l.next-index l.assigns) ≡ fold known_after [] l.assigns

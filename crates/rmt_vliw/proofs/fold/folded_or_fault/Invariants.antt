use Rattle.std.proofs.Common.{◌≡◌, drop}
use Rattle.rmt_phv.specs.Packing.{map_ok}
use Rattle.std.proofs.Common.{◌++◌}
use Rattle.rmt_vliw.specs.Types.{Assign}
use Rattle.std.specs.Prelude.{List}
use Rattle.rmt_vliw.specs.Known.{told_values}
use Rattle.rmt_vliw.proofs.fold.folded_or_fault.Given as goal

-- those so far, and what the others give, are all
abbrev pub invariant-loop-value : goal.invariant-loop-value
invariant-loop-value l = map_ok (λ (rest : List Assign). l.assigns ++ rest) (told_values (drop l.value-index l.values)) ≡ told_values l.values

-- The parameters of foldings of a program's actions.
use Rattle.std.proofs.Common.{◌≡◌, ℕ, ◌≤◌, ◌∙◌, map, ap, sym, arith}
use Rattle.std.specs.Prelude.{Contains, Option, option_map, sum, unwrap_or}
use Rattle.rmt_filling.specs.Types.{Program, Action, Table}
use Rattle.rmt_vliw.specs.declared.folded.Folded.{Folded}
use Rattle.rmt_pack.specs.Placements.{data_bits, param_bits}
use Rattle.rmt_vliw.specs.Folding.{IsFolding}
use Rattle.rmt_vliw.proofs.MeaningLaws.{action_of, folded_is}
use Rattle.rmt_bits.proofs.MostLaws.{items-le}
use Rattle.rmt_bits.proofs.AllLaws.{All-unmap}

-- the data of a table have room for the parameters of each listed action
pub folding_data : (p : Program) (t : Table) (a : ℕ) (folded : Folded) → IsFolding p a folded → Contains t.actions a → sum folded.params ≤ data_bits p t
folding_data p t a folded folding (i, lt, is) =
    let found = action_of p a folded folding in
    let same : param_bits p a ≡ sum folded.params =
    ap (λ (o : Option Action). unwrap_or (option_map (λ (x : Action). sum x.params) o) 0) found.1 ∙ sym (ap sum (folded_is found.0 folded found.2).0) in
    let most = All-unmap (λ m. m ≤ data_bits p t) (param_bits p) t.actions (items-le (λ x. x) 0 (map (param_bits p) t.actions)) i a lt in
    omega (arith, most, ap (param_bits p) is, same)

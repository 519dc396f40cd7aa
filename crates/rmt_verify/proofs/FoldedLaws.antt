-- An action folds to one value, or is refused.
use Rattle.std.proofs.Common.{◌≡◌, ℕ, ◌<◌, ◌∙◌, List, Ok, Err, get_or, length, refl, sym, ap, arith}
use Rattle.std.specs.Prelude.{All, Result, Some, slice_get}
use Rattle.std.proofs.lemmas.Option.{same_Some}
use Rattle.rmt_refine.specs.Types.{Action, Program}
use Rattle.rmt_vliw.specs.declared.fault.ActionDeep.{ActionDeep}
use Rattle.rmt_vliw.specs.declared.folded.Folded.{Folded}
use Rattle.rmt_vliw.specs.Folding.{AreFoldings, IsFolding, folded_of, folded_or_fault}
use Rattle.rmt_vliw.proofs.MeaningLaws.{action_of, folding_at}

-- an action folds to one value
pub folding_once : (p : Program) (a : ℕ) (f g : Folded) → IsFolding p a f → IsFolding p a g → f ≡ g
folding_once p a f g one two =
    let first = action_of p a f one in
    let second = action_of p a g two in
    let same : first.0 ≡ second.0 = same_Some first.0 second.0 (sym first.1 ∙ second.1) in
    let e : Ok f ≡ Ok g = sym first.2 ∙ ap folded_of same ∙ second.2 in
    cc

-- an action that is refused doesn't fold
pub not_deep : (p : Program) (n : ℕ) (deep : ActionDeep) (a : Action) → slice_get p.actions n ≡ Some a → ◌≡◌ {A = Result Folded ActionDeep} (Err deep) (folded_or_fault n (folded_of a))
    → (folded : Folded) → IsFolding p n folded → ⊥
not_deep p n deep a at refused folded folding =
    let found = action_of p n folded folding in
    let same : found.0 ≡ a = same_Some found.0 a (sym found.1 ∙ at) in
    let e : ◌≡◌ {A = Result Folded ActionDeep} (Err deep) (Ok folded) = refused ∙ ap (λ (x : Action). folded_or_fault n (folded_of x)) (sym same) ∙ ap (folded_or_fault n) found.2 in
    cc

-- what stands at an action's number is what it folds to
pub folding_there : (p : Program) (folded : List Folded) → AreFoldings p folded → (a : ℕ) (own : Folded) → a < length p.actions → own ≡ get_or folded a own → IsFolding p a own
folding_there p folded are a own lt is = let many = are.all_there in folding_at p folded folded are refl a own (omega (arith, lt, many)) is

-- and so is what stands at the number of an action of a list
pub folding_listed : (p : Program) (folded : List Folded) → AreFoldings p folded → (actions : List ℕ) → All (λ a. a < length p.actions) actions → (i : ℕ) → i < length actions
    → (own : Folded) → own ≡ get_or folded (get_or actions i 0) own → IsFolding p (get_or actions i 0) own
folding_listed p folded are actions each i inside own is = folding_there p folded are (get_or actions i 0) own (each i 0 inside) is

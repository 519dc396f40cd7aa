-- The actions of a program, folded one after another.
use Rattle.std.proofs.Common.{◌≡◌, ℕ, ◌+◌, ◌<◌, List, length, get_or, drop, Ok, Err, Some, refl, sym, ap, ◌∙◌}
use Rattle.std.specs.Prelude.{Result}
use Rattle.std.proofs.lemmas.List.{at_drop_more}
use Rattle.rmt_build.specs.Types.{Action}
use Rattle.rmt_vliw.specs.declared.folded.Folded.{Folded}
use Rattle.rmt_vliw.specs.declared.fault.ActionDeep.{ActionDeep}
use Rattle.rmt_vliw.specs.declared.fault.ActionDeep.TheVariants.{At}
use Rattle.rmt_vliw.specs.Folding.{folded_of, folded_or_fault}
use Rattle.rmt_build.specs.Folds.{deep_then, first_deep}

-- a refusal is one of each result
pub err_same : {X Y E : Type 0} (a b : E) → ◌≡◌ {A = Result X E} (Err a) (Err b) → ◌≡◌ {A = Result Y E} (Err a) (Err b)
err_same a b e = let same : a ≡ b = cc in ap Err same

-- the next action folds
pub folds_next : (actions : List Action) (i : ℕ) (d : Action) (folded : Folded) → i < length actions → folded_or_fault i (folded_of (get_or actions i d)) ≡ Ok folded
    → first_deep (i + 1) (drop (i + 1) actions) ≡ first_deep i (drop i actions)
folds_next actions i d folded lt is = sym (at_drop_more (first_deep i) actions i d lt ∙ by_result (folded_of (get_or actions i d)) is)
  where
    by_result : (r : Result Folded ℕ) → folded_or_fault i r ≡ Ok folded → deep_then i r (first_deep (i + 1) (drop (i + 1) actions)) ≡ first_deep (i + 1) (drop (i + 1) actions)
    by_result (Ok f) same = refl
    by_result (Err field) same = absurd (cc)

-- the next action is too deep
pub deep_next : (actions : List Action) (i : ℕ) (d : Action) (deep : ActionDeep) → i < length actions → folded_or_fault i (folded_of (get_or actions i d)) ≡ Err deep
    → first_deep i (drop i actions) ≡ Some deep
deep_next actions i d deep lt is = at_drop_more (first_deep i) actions i d lt ∙ by_result (folded_of (get_or actions i d)) is
  where
    by_result : (r : Result Folded ℕ) → folded_or_fault i r ≡ Err deep → deep_then i r (first_deep (i + 1) (drop (i + 1) actions)) ≡ Some deep
    by_result (Ok f) same = absurd (cc)
    by_result (Err field) same = let e : At i field ≡ deep = cc in ap Some e

use Rattle.std.proofs.Common.{◌≡◌, ◌<◌, ◌∙◌, ℕ, List, [], Ok, Err, Some, length, refl, sym, ap, subst}
use Rattle.std.specs.Prelude.{slice_get, slice_index_or, fold, IsSomeAnd, Option, Result}
use Rattle.std.proofs.lemmas.Option.{slice_get_read, same_Some}
use Rattle.std.proofs.lemmas.Result.{err_from_is_err_and}
use Rattle.rmt_vliw.specs.Types.{Action, Assign}
use Rattle.rmt_vliw.specs.declared.value.Value.{Value}
use Rattle.rmt_vliw.specs.declared.folded.Folded.{Folded}
use Rattle.rmt_vliw.specs.declared.fault.ActionDeep.{ActionDeep}
use Rattle.rmt_vliw.specs.declared.fault.ActionDeep.TheVariants.{NoMemory}
use Rattle.rmt_vliw.specs.Folding.{folded_of, folded_or_fault}
use Rattle.rmt_vliw.specs.Known.{known_after, told_values, told_of}
use Rattle.rmt_vliw.proofs.FoldLaws.{folded_err, folded_ok}
use Rattle.rmt_vliw.proofs.MeaningLaws.{means}
use Rattle.rmt_vliw.proofs.fold.fold_action.Goals as goal

-- the action of that number
found : (actions seen : List Action) (n : ℕ) (acts : Action) → seen ≡ actions → n < length actions → acts ≡ slice_index_or seen n acts → slice_get actions n ≡ Some acts
found actions seen n acts same lt is = slice_get_read actions (length actions) n acts refl lt (is ∙ ap (λ xs. slice_index_or xs n acts) same)

-- what the code has of the values is what is known after all assignments
known_values : (acts : Action) (assigns : List Assign) (items seen : List Value) → assigns ≡ acts.assigns → items ≡ fold known_after [] assigns → seen ≡ items
    → told_values seen ≡ told_values (fold known_after [] acts.assigns)
known_values acts assigns items seen a b d = ap told_values (d ∙ b ∙ ap (fold known_after []) a)

same_err : (x y : ActionDeep) → ◌≡◌ {A = Result (List Assign) ActionDeep} (Err x) (Err y) → ◌≡◌ {A = Result Folded ActionDeep} (Err x) (Err y)
same_err x y e = let same : x ≡ y = cc in ap Err same

pub returns-in_err-values-2-clause-folded : goal.returns-in_err-values-2-clause-folded
returns-in_err-values-2-clause-folded c a at not_memory =
    let p = err_from_is_err_and c.from_residual-in_err-values-2.result c.from_residual-in_err-values-2.ensures.1 in
    let x = c.in_err-values-2.field-0.0 in
    let acts = c.index-as_slice-action.result in
    let values = known_values acts c.as_slice-2.result.now c.in_ok-values.values.items c.deref.result.now c.as_slice-2.ensures c.in_ok-values.ensures c.deref.ensures.value in
    let returned : c.from_residual-in_err-values-2.result ≡ Err x = p.1 ∙ ap Err p.2 in
    let was = c.in_err-values-2.ensures (λ e. not_memory (returned ∙ same_err x NoMemory e)) in
    let same : acts ≡ a = same_Some acts a (sym (found c.args.program.now.actions c.as_slice.result.now c.args.action acts c.as_slice.ensures c.requires.action c.index-as_slice-action.is) ∙ at) in
    returned ∙ sym (folded_err c.args.action acts x (ap (told_of c.args.action) (sym values) ∙ sym was)) ∙ ap (λ (b : Action). folded_or_fault c.args.action (folded_of b)) same

-- what it returns is the folding of the action of that number
folds : (p_actions seen : List Action) (n : ℕ) (acts : Action) (params : List ℕ) (values : List Assign) → seen ≡ p_actions → n < length p_actions → acts ≡ slice_index_or seen n acts
    → params ≡ acts.params → told_of n (told_values (fold known_after [] acts.assigns)) ≡ Ok values
    → (slice_get p_actions n ≡ Some acts) × (folded_of acts ≡ Ok (record { params = params; values = values }))
folds p_actions seen n acts params values same lt is copied told_is =
    (found p_actions seen n acts same lt is, folded_ok n acts values told_is ∙ ap (λ (ps : List ℕ). Ok (record { params = ps; values = values })) (sym copied))

pub returns-clause-is_folding : goal.returns-clause-is_folding
returns-clause-is_folding c =
    let acts = c.index-as_slice-action.result in
    let values = known_values acts c.as_slice-2.result.now c.in_ok-values.values.items c.deref.result.now c.as_slice-2.ensures c.in_ok-values.ensures c.deref.ensures.value in
    let is = folds c.args.program.now.actions c.as_slice.result.now c.args.action acts c.in_ok-params.params c.in_ok-values-2.values c.as_slice.ensures c.requires.action c.index-as_slice-action.is
    c.in_ok-params.ensures (ap (told_of c.args.action) (sym values) ∙ sym (c.in_ok-values-2.ensures (λ e. cc))) in
    let folded : Folded = record { params = c.in_ok-params.params; values = c.in_ok-values-2.values } in
    subst (λ (o : Option Action). IsSomeAnd o (λ (b : Action). folded_of b ≡ Ok folded)) (sym is.0) is.1

pub returns-clause-folded : goal.returns-clause-folded
returns-clause-folded c a at not_memory =
    let acts = c.index-as_slice-action.result in
    let values = known_values acts c.as_slice-2.result.now c.in_ok-values.values.items c.deref.result.now c.as_slice-2.ensures c.in_ok-values.ensures c.deref.ensures.value in
    let is = folds c.args.program.now.actions c.as_slice.result.now c.args.action acts c.in_ok-params.params c.in_ok-values-2.values c.as_slice.ensures c.requires.action c.index-as_slice-action.is
    c.in_ok-params.ensures (ap (told_of c.args.action) (sym values) ∙ sym (c.in_ok-values-2.ensures (λ e. cc))) in
    let same : acts ≡ a = same_Some acts a (sym is.0 ∙ at) in
    sym (ap (folded_or_fault c.args.action) (ap folded_of (sym same) ∙ is.1))

pub returns-clause-means : goal.returns-clause-means
returns-clause-means c = means c.args.program.now c.args.action (record { params = c.in_ok-params.params; values = c.in_ok-values-2.values }) c.requires.program (returns-clause-is_folding c)

use Rattle.std.proofs.Common.{◌≡◌, ◌<◌, ◌∙◌, ◌∷◌, [], Ok, Err, length, sym, ap, subst, length-append, arith}
use Rattle.std.proofs.lemmas.Option.{get_or_from_slice_get}
use Rattle.rmt_bits.proofs.ListLaws.{slice_get-item}
use Rattle.rmt_ast.specs.WellFormed.{AllNumbered}
use Rattle.rmt_vliw.specs.Folding.{IsFolding, folded_of, folded_or_fault}
use Rattle.rmt_vliw.specs.declared.fault.ActionDeep.TheVariants.{NoMemory}
use Rattle.rmt_build.proofs.FoldLaws.{deep_next, err_same, folds_next}
use Rattle.rmt_build.proofs.front.fold_all.Goals as goal
use Rattle.rmt_ast.proofs.WellFormedLemmas.{AllNumbered-push}

pub returns-in-Err-clause-refused : goal.returns-in-Err-clause-refused
returns-in-Err-clause-refused c = λ differ.
    (let actions = c.args.program.now.actions in
    let i = c.loop-action.action in
    let within : i < length actions = omega (arith, c.loop-action-test.true, c.len-action-end.ensures) in
    let found = slice_get-item actions i within in
    let is : folded_or_fault i (folded_of found.0) ≡ Err c.in-Err.deep = sym (c.in-Err.ensures.folded found.0 found.1 (λ e. differ (err_same c.in-Err.deep NoMemory e))) in
    sym c.loop-action.invariant.rest
    ∙ deep_next actions i found.0 c.in-Err.deep within (ap (λ a. folded_or_fault i (folded_of a)) (get_or_from_slice_get actions i found.0 found.0 found.1) ∙ is))

pub loop-action-preserved : goal.loop-action-preserved
loop-action-preserved c =
    let p = c.args.program.now in
    let actions = p.actions in
    let i = c.loop-action.action in
    let own = c.in-Ok.own in
    let inv = c.loop-action.invariant in
    let pushed = c.in_ok-push-in-Ok.ensures.ok in
    let within : i < length actions = omega (arith, c.loop-action-test.true, c.len-action-end.ensures) in
    let found = slice_get-item actions i within in
    let is : folded_or_fault i (folded_of found.0) ≡ Ok own = sym (c.in-Ok.ensures.folded found.0 found.1 (λ e. cc)) in
    record {
      count = omega (arith, ap length pushed, length-append c.loop-action.folded (own ∷ []), inv.count);
      each = subst (AllNumbered (IsFolding p)) (sym pushed)
          (AllNumbered-push (IsFolding p) c.loop-action.folded own inv.each (subst (λ m. IsFolding p m own) (sym inv.count) c.in-Ok.ensures.is_folding));
      rest = folds_next actions i found.0 own within (ap (λ a. folded_or_fault i (folded_of a)) (get_or_from_slice_get actions i found.0 found.0 found.1) ∙ is) ∙ inv.rest;
    }

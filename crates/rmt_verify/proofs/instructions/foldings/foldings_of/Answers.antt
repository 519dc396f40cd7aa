use Rattle.std.proofs.Common.{◌<◌, ◌∷◌, [], length, sym, ap, subst, length-append, arith}
use Rattle.rmt_ast.proofs.WellFormedLemmas.{AllNumbered-push}
use Rattle.rmt_ast.specs.WellFormed.{AllNumbered}
use Rattle.rmt_bits.proofs.ListLaws.{slice_get-item}
use Rattle.rmt_vliw.specs.Folding.{IsFolding}
use Rattle.rmt_verify.proofs.FoldedLaws.{not_deep}
use Rattle.rmt_verify.proofs.instructions.foldings.foldings_of.Goals as goal

pub loop-action-preserved : goal.loop-action-preserved
loop-action-preserved c =
    let p = c.args.program.now in
    let own = c.in-Ok.own in
    let inv = c.loop-action.invariant in
    let pushed = c.in_ok-push-in-Ok.ensures.ok in
    record {
      count = omega (arith, ap length pushed, length-append c.loop-action.folded (own ∷ []), inv.count);
      each = subst (AllNumbered (IsFolding p)) (sym pushed)
          (AllNumbered-push (IsFolding p) c.loop-action.folded own inv.each (subst (λ m. IsFolding p m own) (sym inv.count) c.in-Ok.ensures.is_folding));
    }

pub returns-in-Err-At : goal.returns-in-Err-At
returns-in-Err-At c = λ all.
    (let p = c.args.program.now in
    let i = c.loop-action.action in
    let within : i < length p.actions = omega (arith, c.loop-action-test.true, c.len-action-end.ensures) in
    let found = slice_get-item p.actions i within in
    let f = all i within in
    not_deep p i c.in-Err-At.field-0 found.0 found.1 (c.in-Err-At.ensures.folded found.0 found.1 (λ e. (let is = c.in-Err-At.field-0-is in absurd cc))) f.0 f.1)

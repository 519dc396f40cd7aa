use Rattle.std.proofs.Common.{◌+◌, ◌<◌, get_or, length, refl, arith}
use Rattle.std.proofs.lemmas.Option.{slice_get_within}
use Rattle.rmt_verify.proofs.CodedLaws.{actions_fail, actions_more, code_at_rises}
use Rattle.rmt_verify.proofs.FoldedLaws.{folding_listed}
use Rattle.rmt_verify.proofs.instructions.tables.actions_hold.Goals as goal

pub is_of_action-requires-clause-folded : goal.is_of_action-requires-clause-folded
is_of_action-requires-clause-folded c =
    let p = c.args.from.now.coding.now.program.now in
    let i = c.loop-at.at in
    let inside : i < length c.args.actions.now = omega (arith, c.loop-at-test.true) in
    (get_or c.args.actions.now i 0, folding_listed p c.args.from.now.coding.now.folded.now c.requires.coding.folded c.args.actions.now c.requires.actions i inside c.index-folded-action.result c.index-folded-action.is)

pub is_of_action-requires-clause-rise : goal.is_of_action-requires-clause-rise
is_of_action-requires-clause-rise c = code_at_rises c.args.from.now.stage.now (c.args.from.now.first + c.loop-at.at) c.code_at-ops.result.now c.requires.rises c.code_at-ops.ensures

pub returns-then-not-branch : goal.returns-then-not-branch
returns-then-not-branch c =
    let p = c.args.from.now.coding.now.program.now in
    let i = c.loop-at.at in
    let inside : i < length c.args.actions.now = omega (arith, c.loop-at-test.true) in
    let folding = folding_listed p c.args.from.now.coding.now.folded.now c.requires.coding.folded c.args.actions.now c.requires.actions i inside c.index-folded-action.result c.index-folded-action.is in (
      λ no. absurd cc,
      λ all. absurd (actions_fail p c.args.from.now.coding.now.places.now c.args.actions.now c.args.from.now.stage.now c.args.from.now.first i c.index-folded-action.result c.code_at-ops.result.now c.in_ok-is_of_action.field-0 inside folding c.code_at-ops.ensures c.in_ok-is_of_action.ensures (cc) all),
    )

pub loop-at-preserved : goal.loop-at-preserved
loop-at-preserved c =
    let p = c.args.from.now.coding.now.program.now in
    let i = c.loop-at.at in
    let inside : i < length c.args.actions.now = omega (arith, c.loop-at-test.true) in
    let folding = folding_listed p c.args.from.now.coding.now.folded.now c.requires.coding.folded c.args.actions.now c.requires.actions i inside c.index-folded-action.result c.index-folded-action.is in
    actions_more p c.args.from.now.coding.now.places.now c.args.actions.now c.args.from.now.stage.now c.args.from.now.first i c.index-folded-action.result c.code_at-ops.result.now c.in_ok-is_of_action.field-0 inside folding c.code_at-ops.ensures c.in_ok-is_of_action.ensures
    (cc) c.loop-at.invariant

pub returns : goal.returns
returns c = (
  λ yes i action at.
      (let lt = slice_get_within c.args.actions.now i action at in
      c.loop-at.invariant i action (omega (arith, lt, c.loop-at-test.false)) at),
  λ all. refl,
)

use Rattle.std.proofs.Common.{◌≡◌, ℕ, ◌+◌, ◌<◌, ◌≤◌, ◌∙◌, List, Some, length, sym, ap, subst, arith}
use Rattle.std.specs.Prelude.{All, IsTrue, ◌↔◌, slice_get}
use Rattle.std.proofs.lemmas.Result.{IfOk-weaker}
use Rattle.rmt_config.specs.Life.{code_at}
use Rattle.rmt_vliw.proofs.InstructionLaws.{takes_folded, takes_within}
use Rattle.rmt_vliw.specs.Coded.{IsCodeOf, TableCoded}
use Rattle.rmt_verify.proofs.CodedLaws.{code_at_rises, table_answer}
use Rattle.rmt_verify.proofs.FoldedLaws.{folding_there}
use Rattle.rmt_verify.proofs.instructions.tables.table_holds.Goals as goal

pub actions_hold-requires-clause-actions : goal.actions_hold-requires-clause-actions
actions_hold-requires-clause-actions c = subst (All (λ a. a < length c.args.from.now.coding.now.program.now.actions)) (sym c.as_slice-actions.ensures) c.requires.table.actions

pub actions_hold-requires-clause-few : goal.actions_hold-requires-clause-few
actions_hold-requires-clause-few c = subst (λ (xs : List ℕ). length xs ≤ 14) (sym c.as_slice-actions.ensures) c.requires.table.few_actions

pub returns-then-not-branch : goal.returns-then-not-branch
returns-then-not-branch c =
    let p = c.args.from.now.coding.now.program.now in
    let listed =
    subst (λ (xs : List ℕ). IsTrue c.in_ok-actions_hold.field-0 ↔ ((i action : ℕ) → slice_get xs i ≡ Some action → IsCodeOf p c.args.from.now.coding.now.places.now action (code_at c.args.from.now.stage.now (c.args.from.now.first + i)))) c.as_slice-actions.ensures
    c.in_ok-actions_hold.ensures in
    (λ no. absurd cc, λ coded. absurd (let yes = listed.1 coded.actions in cc))

pub bounds-folded-table : goal.bounds-folded-table
bounds-folded-table c =
    let below = takes_within c.args.from.now.coding.now.program.now c.args.table.now.default c.args.table.now.args c.requires.table.default in
    let many = c.requires.coding.folded.all_there in
    omega (arith, below, many)

pub is_of_default-requires-clause-folded : goal.is_of_default-requires-clause-folded
is_of_default-requires-clause-folded c =
    let p = c.args.from.now.coding.now.program.now in
    let t = c.args.table.now in
    (t.default, folding_there p c.args.from.now.coding.now.folded.now c.requires.coding.folded t.default c.index-folded-table.result (takes_within p t.default t.args c.requires.table.default) c.index-folded-table.is)

pub is_of_default-requires-clause-args : goal.is_of_default-requires-clause-args
is_of_default-requires-clause-args c =
    let p = c.args.from.now.coding.now.program.now in
    let t = c.args.table.now in
    takes_folded p t.default t.args c.index-folded-table.result c.requires.table.default
    (folding_there p c.args.from.now.coding.now.folded.now c.requires.coding.folded t.default c.index-folded-table.result (takes_within p t.default t.args c.requires.table.default) c.index-folded-table.is)

pub is_of_default-requires-clause-rise : goal.is_of_default-requires-clause-rise
is_of_default-requires-clause-rise c = code_at_rises c.args.from.now.stage.now _ c.code_at-ops.result.now c.requires.rises c.code_at-ops.ensures

pub returns : goal.returns
returns c =
    let p = c.args.from.now.coding.now.program.now in
    let places = c.args.from.now.coding.now.places.now in
    let t = c.args.table.now in
    let stage = c.args.from.now.stage.now in
    let first = c.args.from.now.first in
    let own = c.index-folded-table.result in
    let folding = folding_there p c.args.from.now.coding.now.folded.now c.requires.coding.folded t.default own (takes_within p t.default t.args c.requires.table.default) c.index-folded-table.is in
    let listed =
    subst (λ (xs : List ℕ). IsTrue c.in_ok-actions_hold.field-0 ↔ ((i action : ℕ) → slice_get xs i ≡ Some action → IsCodeOf p places action (code_at stage (first + i)))) c.as_slice-actions.ensures
    c.in_ok-actions_hold.ensures in
    let is : c.code_at-ops.result.now ≡ code_at stage (first + length t.actions) =
    c.code_at-ops.ensures ∙ ap (λ (xs : List ℕ). code_at stage (first + length xs)) c.as_slice-actions.ensures in
    IfOk-weaker c.is_of_default.result _ (λ b. IsTrue b ↔ TableCoded p places t first stage)
    (λ b made. table_answer p places t first stage own c.code_at-ops.result.now (listed.0 cc) folding is b made) c.is_of_default.ensures

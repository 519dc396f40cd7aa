use Rattle.std.proofs.Common.{◌≡◌, ℕ, ◌<◌, ◌++◌, ◌∷◌, [], ◌∙◌, List, get_or, length, take, true, false, refl, sym, ap, subst, append_assoc, arith}
use Rattle.std.proofs.lemmas.List.{get_or_default, take_all}
use Rattle.std.proofs.lemmas.List.Elements.{All-push}
use Rattle.rmt_config.specs.CodeForm.{vliw_is_formed}
use Rattle.rmt_pack.specs.Placements.{data_bits}
use Rattle.rmt_filling.specs.Types.{Vliw}
use Rattle.rmt_vliw.specs.Folding.{IsFolding}
use Rattle.rmt_vliw.proofs.InstructionLaws.{takes_folded, takes_within}
use Rattle.rmt_vliw.specs.Coded.{IsCodeOf}
use Rattle.rmt_filling.specs.TableCode.{DoActions}
use Rattle.rmt_vliw.proofs.MeaningLaws.{folding_at}
use Rattle.rmt_filling.proofs.FoldingLaws.{folding_data}
use Rattle.rmt_filling.proofs.ListLaws.{zip_more}
use Rattle.rmt_filling.proofs.table_code.push_table.Goals as goal

pub loop-action-preserved : goal.loop-action-preserved
loop-action-preserved c =
    let p = c.args.program.now in
    let places = c.args.plan.now.places in
    let actions = c.args.table.now.actions in
    let i = c.loop-action.action-index in
    let a = get_or c.as_slice-action-items.result.now i 0 in
    let v = c.in_ok-instruction.field-0 in
    let folded = c.index-folded-action.result in
    let inv = c.loop-action.invariant in
    let listed : c.as_slice-action-items.result.now ≡ actions = c.as_slice-action-items.ensures in
    let within : i < length actions = subst (λ (xs : List ℕ). i < length xs) listed c.loop-action-test.true in
    let below : a < length c.args.program.now.actions = subst (λ (xs : List ℕ). get_or xs i 0 < length p.actions) (sym listed) (c.requires.table.actions i 0 within) in
    let many = c.requires.folded.all_there in
    let size = ap length c.as_slice-folded.ensures in
    let folding : IsFolding p a folded =
    folding_at p c.args.plan.now.folded c.as_slice-folded.result.now c.requires.folded c.as_slice-folded.ensures a folded (omega (arith, below, many, size)) c.index-folded-action.is in
    let coded : IsCodeOf p places a v.ops = record { folded = folded; folding = folding; instruction = c.in_ok-instruction.ensures.pieces } in (
      inv.0 ++ v ∷ [],
      c.in_ok-push.ensures.ok ∙ (ap (λ xs. xs ++ v ∷ []) inv.1 ∙ append_assoc c.args.code.now inv.0 (v ∷ [])),
      zip_more (λ b (x : Vliw). IsCodeOf p places b x.ops) actions inv.0 (inv.0 ++ v ∷ []) i 0 v within refl inv.2
          (subst (λ (xs : List ℕ). IsCodeOf p places (get_or xs i 0) v.ops) listed coded),
      All-push (λ (x : Vliw). vliw_is_formed (record { held = data_bits p c.args.table.now; is_default = false }) x ≡ true) inv.0 v inv.3
          (c.in_ok-instruction.ensures.formed (data_bits p c.args.table.now) (folding_data p c.args.table.now a folded folding (i, within, ap (λ xs. get_or xs i a) (sym listed) ∙ get_or_default c.as_slice-action-items.result.now i a 0 c.loop-action-test.true))),
    )

pub bounds-folded-table : goal.bounds-folded-table
bounds-folded-table c =
    let below = takes_within c.args.program.now c.args.table.now.default c.args.table.now.args c.requires.table.default in
    omega (arith, below, c.requires.folded.all_there, ap length c.as_slice-folded.ensures)

pub default_instruction-requires-clause-folded : goal.default_instruction-requires-clause-folded
default_instruction-requires-clause-folded c =
    let below = takes_within c.args.program.now c.args.table.now.default c.args.table.now.args c.requires.table.default in
    let size = ap length c.as_slice-folded.ensures in (
      c.args.table.now.default,
      folding_at c.args.program.now c.args.plan.now.folded c.as_slice-folded.result.now c.requires.folded c.as_slice-folded.ensures c.args.table.now.default c.index-folded-table.result
          (omega (arith, below, c.requires.folded.all_there, size)) c.index-folded-table.is,
    )

pub default_instruction-requires-clause-args : goal.default_instruction-requires-clause-args
default_instruction-requires-clause-args c =
    let below = takes_within c.args.program.now c.args.table.now.default c.args.table.now.args c.requires.table.default in
    takes_folded c.args.program.now c.args.table.now.default c.args.table.now.args c.index-folded-table.result c.requires.table.default
    (folding_at c.args.program.now c.args.plan.now.folded c.as_slice-folded.result.now c.requires.folded c.as_slice-folded.ensures c.args.table.now.default c.index-folded-table.result
    (omega (arith, below, c.requires.folded.all_there, ap length c.as_slice-folded.ensures)) c.index-folded-table.is)

pub returns : goal.returns
returns c =
    let p = c.args.program.now in
    let t = c.args.table.now in
    let v = c.in_ok-default_instruction.field-0 in
    let folded = c.index-folded-table.result in
    let inv = c.loop-action.invariant in
    let below = takes_within p t.default t.args c.requires.table.default in
    let many = c.requires.folded.all_there in
    let size = ap length c.as_slice-folded.ensures in
    let folding : IsFolding p t.default folded =
    folding_at p c.args.plan.now.folded c.as_slice-folded.result.now c.requires.folded c.as_slice-folded.ensures t.default folded (omega (arith, below, many, size)) c.index-folded-table.is in
    let listed = ap length c.as_slice-action-items.ensures in
    let all : take c.loop-action.action-index t.actions ≡ t.actions = take_all c.loop-action.action-index t.actions (omega (arith, listed, c.loop-action-test.false)) in (
      inv.0 ++ v ∷ [],
      c.in_ok-push-2.ensures.ok ∙ (ap (λ xs. xs ++ v ∷ []) inv.1 ∙ append_assoc c.args.code.now inv.0 (v ∷ [])),
      record {
        listed = inv.0;
        last = v;
        in_order = refl;
        actions = subst (λ (xs : List ℕ). DoActions p c.args.plan.now.places xs inv.0) all inv.2;
        formed = inv.3;
        formed_last = c.in_ok-default_instruction.ensures.formed (data_bits p t);
        default = record { folded = folded; folding = folding; instruction = c.in_ok-default_instruction.ensures.pieces };
      },
    )

use Rattle.std.proofs.Common.{◌≡◌, List, true, sym, subst, rules}
use Rattle.std.specs.Prelude.{All, IsTrue, MatchOption, Option, ◌↔◌}
use Rattle.std.specs.List.{list_all}
use Rattle.std.proofs.lemmas.Result.{IfOk-weaker}
use Rattle.rmt_config.specs.StageForm.{stage_is_formed}
use Rattle.rmt_refine.specs.Code.{CodeCarried}
use Rattle.rmt_refine.specs.Types.{Stage}
use Rattle.rmt_vliw.specs.declared.folded.Folded.{Folded}
use Rattle.rmt_vliw.specs.Coded.{ActionsFold}
use Rattle.rmt_vliw.proofs.MeaningLaws.{actions_fold}
use Rattle.rmt_verify.specs.Instructions.{IsCoded}
use Rattle.rmt_verify.specs.StageCode.{AreFoldings, StageCoded}
use Rattle.rmt_verify.proofs.StageCodeLaws.{stages_coded, tables_coded}
use Rattle.rmt_verify.proofs.CodeLaws.{code_carried}
use Rattle.rmt_verify.proofs.CodedLaws.{stages_formed}
use Rattle.rmt_verify.proofs.instructions.code_holds.Goals as goal

pub all_code_holds-requires-clause-coding : goal.all_code_holds-requires-clause-coding
all_code_holds-requires-clause-coding c = record { program = c.requires.placed.program; folded = search rules; places = c.requires.placed.places }

pub all_code_holds-requires-clause-formed : goal.all_code_holds-requires-clause-formed
all_code_holds-requires-clause-formed c =
    subst (λ (ss : List Stage). list_all stage_is_formed ss ≡ true) (sym c.as_slice-in-Some.ensures) (stages_formed c.args.config.now c.requires.placed.formed)

pub returns-in-Some-clause-exact : goal.returns-in-Some-clause-exact
returns-in-Some-clause-exact c =
    let p = c.args.program.now in
    let places = c.args.places.now in
    let config = c.args.config.now in
    let are : AreFoldings p c.in-Some.folded = subst (λ (o : Option (List Folded)). MatchOption o (ActionsFold p → ⊥) (AreFoldings p)) c.in-Some.is c.in_ok-folded.ensures in
    IfOk-weaker c.all_code_holds.result (λ holds. IsTrue holds ↔ All (StageCoded p places) c.as_slice-in-Some.result.now) (λ holds. IsTrue holds ↔ IsCoded p places config)
    (λ b e.
    (let own = subst (λ (ss : List Stage). IsTrue b ↔ All (StageCoded p places) ss) c.as_slice-in-Some.ensures e in (
      λ holds. record { fold = actions_fold p c.in-Some.folded are; tables = tables_coded p places config (own.0 holds) },
      λ coded. own.1 (stages_coded p places config coded.tables),
    ))) c.all_code_holds.ensures

pub returns-in-Some-clause-carries : goal.returns-in-Some-clause-carries
returns-in-Some-clause-carries c =
    let p = c.args.program.now in
    let places = c.args.places.now in
    let config = c.args.config.now in
    IfOk-weaker c.all_code_holds.result (λ holds. IsTrue holds ↔ All (StageCoded p places) c.as_slice-in-Some.result.now) (λ holds. IsTrue holds → CodeCarried p places config)
    (λ b e holds.
    (let own = subst (λ (ss : List Stage). IsTrue b ↔ All (StageCoded p places) ss) c.as_slice-in-Some.ensures e in
    code_carried p places c.requires.placed.program c.requires.placed.places config (tables_coded p places config (own.0 holds)))) c.all_code_holds.ensures

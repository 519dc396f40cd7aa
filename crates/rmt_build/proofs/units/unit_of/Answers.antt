use Rattle.std.proofs.Common.{◌≡◌, ℕ, ◌+◌, ◌∙◌, List, [], ◌∷◌, ap, Some, None, get_or, sym}
use Rattle.std.specs.Prelude.{slice_get}
use Rattle.std.proofs.lemmas.Option.{slice_get-get_or}
use Rattle.rmt_build.specs.Types.{Node, Unit}
use Rattle.rmt_ast.specs.declared.program.What.TheVariants.{Apply, Gate}
use Rattle.rmt_build.specs.Plans.{taken_upto}
use Rattle.rmt_ast.specs.declared.entry.Entry.{Entry}
use Rattle.rmt_build.specs.BuiltStage.{HaveParts}
use Rattle.rmt_filling.proofs.ListLaws.{if_ok, on_ok}
use Rattle.rmt_build.proofs.PlanLaws.{gate_taken}
use Rattle.rmt_build.proofs.units.unit_of.Goals as goal

pub returns-in-Gate-clause-taken : goal.returns-in-Gate-clause-taken
returns-in-Gate-clause-taken c =
    let p = c.args.planned.now.program.now in
    let parts = c.args.planned.now.plan.now.placement.parts in
    let n = c.args.node in
    let zero : Node = record { guard = None; what = Apply 0 } in
    let node : Node = get_or p.nodes n zero in
    let at : slice_get p.nodes n ≡ Some node = slice_get-get_or p.nodes n zero c.requires.node in
    let does : node.what ≡ Gate c.in-Gate.field c.in-Gate.test = sym (ap (λ xs. (get_or xs n zero).what) c.as_slice.ensures) ∙ c.in-Gate.is in
    on_ok c.gate_of.result (c.args.taken.now ≡ taken_upto p parts c.args.planned.now.stage (n + 1)) (c.requires.taken ∙ gate_taken p parts c.args.planned.now.stage n node c.in-Gate.field c.in-Gate.test at does)

pub returns-in-Gate-clause-parts : goal.returns-in-Gate-clause-parts
returns-in-Gate-clause-parts c =
    let p = c.args.planned.now.program.now in
    let plan = c.args.planned.now.plan.now in
    let lists = c.args.planned.now.entries.now in
    let k = c.args.planned.now.stage in
    if_ok c.gate_of.result (λ (u : Unit). (ls : List (List Entry)) (j : ℕ) → HaveParts p ls plan j (u ∷ [])) (λ (u : Unit). HaveParts p lists plan k (u ∷ []))
    (λ u holds. holds lists k) c.gate_of.ensures.parts

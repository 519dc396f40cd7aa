use Rattle.std.proofs.Common.{sym, subst}
use Rattle.std.specs.Prelude.{IfSome, IsTrue, Option, ◌↔◌}
use Rattle.std.proofs.lemmas.Result.{IfOk-weaker}
use Rattle.rmt_refine.specs.Types.{Table, Unit}
use Rattle.rmt_vliw.specs.Coded.{TableCoded}
use Rattle.rmt_verify.specs.StageCode.{UnitCoded}
use Rattle.rmt_verify.proofs.StageCodeLaws.{applied_table}
use Rattle.rmt_verify.proofs.instructions.tables.unit_holds.Goals as goal

pub table_holds-requires-clause-table : goal.table_holds-requires-clause-table
table_holds-requires-clause-table c = applied_table c.args.from.now.coding.now.program.now c.in-Slot.slot.node c.in-Some.table.now c.requires.coding.program (sym c.in-Some.ensures)

pub returns-in-Some : goal.returns-in-Some
returns-in-Some c =
    let p = c.args.from.now.coding.now.program.now in
    let places = c.args.from.now.coding.now.places.now in
    let stage = c.args.from.now.stage.now in
    let first = c.args.from.now.first in
    IfOk-weaker c.table_holds.result (λ b. IsTrue b ↔ TableCoded p places c.in-Some.table.now first stage) (λ b. IsTrue b ↔ UnitCoded p places stage first c.args.unit.now)
    (λ b e.
    subst (λ (u : Unit). IsTrue b ↔ UnitCoded p places stage first u) (sym c.in-Slot.is)
    (subst (λ (o : Option Table). IsTrue b ↔ IfSome o (λ (t : Table). TableCoded p places t first stage)) c.in-Some.ensures e)) c.table_holds.ensures

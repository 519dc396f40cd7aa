use Rattle.std.proofs.Common.{◌∙◌, sym, true≢false, arith}
use Rattle.std.proofs.lemmas.Result.{IfOk-weaker}
use Rattle.rmt_verify.proofs.cells.table.cell_holds.Goals as goal

pub overflow_cast-cell : goal.overflow_cast-cell
overflow_cast-cell c = let low = c.requires.known.its_part.low in record { fits = omega (arith, low) }

pub returns-then-not-is_told : goal.returns-then-not-is_told
returns-then-not-is_told c = λ cells told. (
  λ no. absurd (true≢false (sym no)),
  λ held. absurd (let yes = (c.is_told.ensures cells told).1 held.told in true≢false (sym yes ∙ c.if-not-is_told.true)),
)

pub returns-in-Some : goal.returns-in-Some
returns-in-Some c = IfOk-weaker c.holds_entry.result _ _ (λ holds told cells are. told cells ((c.is_told.ensures cells are).0 c.if-not-is_told.false)) c.holds_entry.ensures

use Rattle.std.proofs.Common.{◌∙◌, sym}
use Rattle.std.proofs.lemmas.Bool.{eqb-true}
use Rattle.rmt_update.proofs.SameNumbers.{front-other, tail-same}
use Rattle.rmt_update.proofs.book.same.is_number.Goals as goal

pub returns-then-is_zero : goal.returns-then-is_zero
returns-then-is_zero c =
    c.eq.ensures ∙ tail-same c.args.bytes.now c.args.short.now c.are_bytes.ensures c.are_bytes-2.ensures c.requires (eqb-true _ 0 (sym c.is_zero.ensures ∙ c.if-is_zero.true))

pub returns-else-is_zero : goal.returns-else-is_zero
returns-else-is_zero c =
    c.if-is_zero.false ∙ front-other c.args.bytes.now c.args.short.now c.are_bytes.ensures c.are_bytes-2.ensures c.requires (sym c.is_zero.ensures ∙ c.if-is_zero.false)

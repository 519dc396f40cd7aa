use Rattle.std.proofs.Common.{get_or, sym}
use Rattle.std.proofs.lemmas.List.{get_or_default}
use Rattle.rmt_update.proofs.SameNumbers.{not-zero}
use Rattle.rmt_update.proofs.book.same.is_zero.Goals as goal

pub returns-then-byte-ne0 : goal.returns-then-byte-ne0
returns-then-byte-ne0 c = sym (not-zero c.args.bytes.now c.loop-byte.byte-index _ c.loop-byte-test.true (sym (get_or_default c.args.bytes.now c.loop-byte.byte-index (get_or c.args.bytes.now c.loop-byte.byte-index 0) 0 c.loop-byte-test.true)) c.loop-byte.invariant c.if-byte-ne0.true)

use Rattle.std.proofs.Common.{◌^◌, ◌<◌, arith}
use Rattle.rmt_bits.specs.Words.{word_size}
use Rattle.rmt_bits.proofs.BitLaws.{deposit-lt}
use Rattle.rmt_bits.proofs.WordLaws.{word-lt}
use Rattle.rmt_ptcam.proofs.parse.extract.put.Goals as goal

pub overflow_cast-new : goal.overflow_cast-new
overflow_cast-new c =
    let h = deposit-lt c.from.result c.args.lane.low c.args.lane.len c.args.bits (word_size c.args.lane.word) c.requires.lies (rw c.from.ensures c.get-old.ensures.within) c.requires.within in
    let fits : c.deposit-new.result < 2 ^ word_size c.args.lane.word = rw c.deposit-new.ensures h in
    let small : c.deposit-new.result < 2 ^ 32 = word-lt c.deposit-new.result c.args.lane.word fits in
    omega arith

pub set-requires-clause-within : goal.set-requires-clause-within
set-requires-clause-within c =
    let h = deposit-lt c.from.result c.args.lane.low c.args.lane.len c.args.bits (word_size c.args.lane.word) c.requires.lies (rw c.from.ensures c.get-old.ensures.within) c.requires.within in
    rw c.deposit-new.ensures h

use Rattle.rmt_bits.specs.Words.{word_size}
use Rattle.rmt_bits.proofs.BitLaws.{deposit-lt}
use Rattle.rmt_chip.proofs.lanes.put.Goals as goal

pub set-requires-clause-within : goal.set-requires-clause-within
set-requires-clause-within c =
    let lane = c.args.lane in
    let h = deposit-lt c.get-old.result lane.low lane.len c.args.bits (word_size lane.word) c.requires.exists.within c.get-old.ensures.within c.requires.within in
    rw c.word_deposit-new.ensures h

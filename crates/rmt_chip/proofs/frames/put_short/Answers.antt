use Rattle.rmt_chip.proofs.frames.put_short.Goals as goal

pub returns : goal.returns
returns c = λ count held stands. c.in-Ok.ensures.stands count held stands

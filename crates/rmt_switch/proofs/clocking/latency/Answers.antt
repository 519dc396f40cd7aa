use Rattle.rmt_switch.proofs.clocking.latency.Goals as goal

pub returns : goal.returns
returns c = λ k packets cycle stands. c.latency.ensures k _ stands

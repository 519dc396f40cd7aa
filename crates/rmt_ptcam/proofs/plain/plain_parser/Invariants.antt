use Rattle.rmt_ptcam.proofs.PlainLaws.{AreBuilt}
use Rattle.rmt_ptcam.proofs.plain.plain_parser.Given as goal

-- what stands, and what the headers that are left give, are the whole parser
abbrev pub invariant-loop-number : goal.invariant-loop-number
invariant-loop-number l = AreBuilt l.program l.places l.number l.parser.states l.parser.entries l.parser.tails

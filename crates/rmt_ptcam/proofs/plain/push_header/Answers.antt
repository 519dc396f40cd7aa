use Rattle.std.proofs.Common.{arith}
use Rattle.rmt_ptcam.proofs.plain.push_header.Goals as goal

pub state_of-requires-clause-short : goal.state_of-requires-clause-short
state_of-requires-clause-short c = let this = c.requires.header in omega (arith, this.whole_bytes, this.is_not_long)

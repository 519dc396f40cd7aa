use Rattle.std.proofs.Common.{◌/◌, ◌^◌}
use Rattle.std.proofs.lemmas.Nat.{and_mask}
use Rattle.rmt_bits.proofs.bits.slice.Goals as goal

pub returns : goal.returns
returns c = rw (c.ones.ensures, c.moved_down.ensures) (and_mask (c.args.v / 2 ^ c.args.low) c.args.len)

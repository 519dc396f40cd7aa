use Rattle.std.proofs.Common.{◌≡◌, ◌++◌, drop}
use Rattle.rmt_plain.specs.Grouping.{masked}
use Rattle.rmt_plain.proofs.matching.mask_key.Given as goal

abbrev pub invariant-loop-i : goal.invariant-loop-i
invariant-loop-i l = l.wanted.items ++ masked (drop l.i l.masks) (drop l.i l.key) l.state ≡ masked l.masks l.key l.state

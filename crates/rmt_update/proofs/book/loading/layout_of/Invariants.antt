use Rattle.std.proofs.Common.{◌≡◌, take}
use Rattle.rmt_update.specs.Loads.{layout_in}
use Rattle.rmt_update.proofs.book.loading.layout_of.Given as goal

-- the ways of the parts so far
abbrev pub invariant-loop-part : goal.invariant-loop-part
invariant-loop-part l = l.layout ≡ layout_in (take l.part-index l.parts)

use Rattle.std.proofs.Common.{take}
use Rattle.rmt_lists.specs.Stands.{AreHeld}
use Rattle.rmt_lists.proofs.start.held_of.Given as goal

-- the lists so far are held
abbrev pub invariant-loop-list : goal.invariant-loop-list
invariant-loop-list l = AreHeld l.held.items (take l.list-index l.lists)

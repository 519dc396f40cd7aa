use Rattle.std.proofs.Common.{None, refl}
use Rattle.rmt_memory.proofs.CellWriteLaws.{after-write, empty-held, empty-row}
use Rattle.rmt_memory.proofs.memory.SlotMemory.empty_cell.Goals as goal

pub returns-clause-holds : goal.returns-clause-holds
returns-clause-holds c = λ content number held.
    let w = c.args.write.now in
    let s = c.args.slot.now in
    after-write w s content number c.args.self.now _ held refl refl refl refl c.requires.cell c.clear_head.ensures.stay
    (λ words sight. None) c.hide_key.ensures (empty-held w s _ _ c.requires.none c.clear_head.ensures.head)
    (λ v fit sight. empty-row w s _ sight c.requires.none)

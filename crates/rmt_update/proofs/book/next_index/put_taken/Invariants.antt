use Rattle.std.proofs.Common.{◌≡◌, ◌++◌, map, take}
use Rattle.rmt_update.specs.declared.book.placing.Coming.{Coming}
use Rattle.rmt_update.proofs.book.next_index.put_taken.Given as goal

-- the cells so far
abbrev pub invariant-loop-coming : goal.invariant-loop-coming
invariant-loop-coming l = l.recent.items ≡ l.fn.recent.items ++ map (λ (x : Coming). x.spot) (take l.coming-index l.come)

use Rattle.std.proofs.Common.{◌≡◌, ℕ, List, true, take, drop, get_or, subst, below_more}
use Rattle.rmt_config.specs.Cells.{is_occupied}
use Rattle.rmt_memory.specs.Marking.{IsMarked}
use Rattle.rmt_memory.specs.Searching.{run_of}
use Rattle.rmt_memory.proofs.marks.marks_of.Goals as goal

pub loop-at-preserved : goal.loop-at-preserved
loop-at-preserved c =
    let cells = c.args.cells.now in
    let stored = c.args.stored in
    let new = c.mark_cell.new.marks.words.items in
    below_more (λ n. is_occupied (get_or (run_of cells n) 0 0) ≡ true → IsMarked new (take stored (drop 1 (run_of cells n)))) c.loop-at.at
    (λ n lt occupied. c.mark_cell.ensures.others (take stored (drop 1 (run_of cells n))) (c.loop-at.invariant n lt occupied))
    (subst (λ (bs : List ℕ). is_occupied (get_or bs 0 0) ≡ true → IsMarked new (take stored (drop 1 bs))) c.run_at.ensures.value c.mark_cell.ensures.own)

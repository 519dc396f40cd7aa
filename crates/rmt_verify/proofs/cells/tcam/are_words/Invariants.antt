use Rattle.std.proofs.Common.{◌≡◌, map, take}
use Rattle.rmt_verify.specs.Wanted.{word_in}
use Rattle.rmt_verify.proofs.cells.tcam.are_words.Given as goal

-- the words so far
abbrev pub invariant-loop-at : goal.invariant-loop-at
invariant-loop-at l = map (word_in l.rows l.row) (take l.at l.blocks) ≡ take l.at l.words

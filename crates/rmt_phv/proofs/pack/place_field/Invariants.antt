use Rattle.std.proofs.Common.{◌≡◌, ◌++◌, List}
use Rattle.rmt_ast.specs.declared.program.Program.{Program}
use Rattle.rmt_phv.specs.Packing.{Piece, lanes_for, pieces, pieces_at}
use Rattle.rmt_phv.specs.WordsSoFar.{AreFilled, IsNext}
use Rattle.rmt_phv.proofs.Packed.{then}
use Rattle.rmt_phv.proofs.pack.place_field.Given as goal

-- the pieces of the lanes so far stand, and these lanes and those of what is left are all of the field's
abbrev pub invariant-loop-left : goal.invariant-loop-left
invariant-loop-left l = record {
  stand : (p : Program) (taken : List Piece) → IsNext p l.field taken l.writers l.fn.words.words → AreFilled p (taken ++ pieces_at l.field l.own) l.words.words;
  so_far : (p : Program) (taken : List Piece) → IsNext p l.field taken l.writers l.fn.words.words
      → lanes_for p l.field taken (pieces l.width) ≡ then l.own (lanes_for p l.field (taken ++ pieces_at l.field l.own) (pieces l.left));
}

abbrev pub decreases-loop-left : goal.decreases-loop-left
decreases-loop-left l = l.left

use Rattle.std.proofs.Common.{◌≡◌, drop, length}
use Rattle.rmt_phv.specs.Packing.{packing, places_from}
use Rattle.rmt_phv.specs.WordsSoFar.{AreFilled}
use Rattle.rmt_phv.proofs.Packed.{then, pieces_of}
use Rattle.rmt_phv.proofs.pack.place_fields.Given as goal

-- the pieces of the places so far stand, and these places and those of the fields left are all
abbrev pub invariant-loop-number : goal.invariant-loop-number
invariant-loop-number l = record {
  count : length l.places ≡ l.number;
  stand : AreFilled l.program (pieces_of 0 l.places) l.words.words;
  so_far : packing l.program ≡ then l.places (places_from l.program l.number (pieces_of 0 l.places) (drop l.number l.program.fields));
}

use Rattle.std.proofs.Common.{◌≡◌, drop}
use Rattle.rmt_items.specs.Readers.{each}
use Rattle.rmt_items.specs.Reading.{vliw_at}
use Rattle.rmt_bits.proofs.ReaderLoops.{with_front}
use Rattle.rmt_items.proofs.reading.vliw.code_at.Given as goal

abbrev pub invariant-loop-place : goal.invariant-loop-place
invariant-loop-place l =
    with_front l.code.items (each vliw_at (drop l.place-index l.places) l.rest) ≡ each vliw_at l.places l.bytes

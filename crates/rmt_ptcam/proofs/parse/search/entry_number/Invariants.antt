use Rattle.std.proofs.Common.{◌≡◌, ◌<◌, ℕ, false}
use Rattle.std.specs.Prelude.{◌&&◌, ◌==◌, bit_and, slice_index_or}
use Rattle.rmt_ptcam.specs.Types.{ParserEntry}
use Rattle.rmt_ptcam.proofs.parse.search.entry_number.Given as goal

abbrev pub invariant-loop-number : goal.invariant-loop-number
invariant-loop-number l =
    (k : ℕ) (d : ParserEntry) → k < l.number →
    let e : ParserEntry = slice_index_or l.parser.entries k d in ((e.state == l.state) && (bit_and l.value e.mask == e.value)) ≡ false

use Rattle.std.proofs.Common.{◌≡◌, ◌+◌, ◌-◌, ◌*◌, ◌/◌, ◌%◌, ◌^◌, List, ℕ, ◌∙◌, arith}
use Rattle.rmt_bits.specs.Bits.{slice}
use Rattle.rmt_book.specs.Words.{joined}
use Rattle.rmt_book.proofs.WordLaws.{byte-of-slice, bytes-more}
use Rattle.rmt_book.proofs.words.bytes_at.Goals as goal

pub loop-at-preserved : goal.loop-at-preserved
loop-at-preserved c =
    let j = joined c.args.size c.args.words.now in
    let count = (c.args.len + 7) / 8 in
    let up = 8 * (count - 1 - c.loop-at.at) in
    let byte : c.bits_at.result ≡ slice j c.args.low c.args.len / 2 ^ up % 256 =
    c.bits_at.ensures ∙ byte-of-slice j c.args.low c.args.len up c.min-left.result (omega arith) (omega arith) in
    ◌∙◌ {A = List ℕ} c.in_ok-push.ensures.items
    (bytes-more c.loop-at.bytes.items (slice j c.args.low c.args.len) count c.loop-at.at c.bits_at.result c.loop-at-test.true c.loop-at.invariant byte)

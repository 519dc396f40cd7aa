use Rattle.std.proofs.Common.{◌≡◌, ◌+◌, ◌-◌, ◌*◌, ◌/◌, ◌%◌, ◌^◌, ◌≤◌, ◌++◌, ap, ◌∙◌, arith}
use Rattle.rmt_bits.specs.Bits.{slice, bytes_of}
use Rattle.rmt_config.specs.Cells.{sram_row, unit_row}
use Rattle.rmt_config.specs.BlockCounts.{divided_up}
use Rattle.rmt_config.proofs.SpelledBytes.{bytes-piece, slice-part}
use Rattle.rmt_config.proofs.form.names.key_bytes.push_bits.Goals as goal

pub loop-left-preserved : goal.loop-left-preserved
loop-left-preserved c =
    let x = unit_row 112 (sram_row c.args.unit.now.rows.now) c.args.unit.now.row c.args.unit.now.blocks.now in
    let low = c.args.low in
    let len = c.args.len in
    let left = c.loop-left.left in
    let count = c.min-count.result in
    let more = left - count in
    let is = c.min-count.ensures in
    let some = c.loop-left-test.true in
    let within = c.loop-left.invariant.within in
    let split : left ≡ more + count = omega (arith, is) in
    let up : 8 * more ≤ len = omega (arith, is, some, within) in
    let done : divided_up len 8 - left + count ≡ divided_up len 8 - more = omega (arith, is, within) in
    let piece : c.bits_at-bits.result ≡ slice x low len / 2 ^ (8 * more) % 2 ^ (8 * count) =
    c.bits_at-bits.ensures ∙ slice-part x low len (8 * more) (8 * count) c.min-some.result up c.min-some.ensures in
    record {
      within = omega (arith, within);
      added =
          bytes-piece c.args.into.now.items c.loop-left.into.items c.push_bytes.new.into.items (slice x low len) (divided_up len 8 - left) left more count c.bits_at-bits.result
          c.loop-left.invariant.added split piece c.in_ok-push_bytes.ensures
          ∙ ap (λ n. c.args.into.now.items ++ bytes_of n (slice x low len / 2 ^ (8 * more))) done;
    }

use Rattle.std.proofs.Common.{◌≡◌, ◌+◌, ◌*◌, ◌/◌, ◌%◌, ◌^◌, get_or, length, ap, ◌∙◌, arith}
use Rattle.std.proofs.lemmas.Nat.{div_below}
use Rattle.rmt_book.proofs.WordLaws.{bits-kept, bits-more}
use Rattle.rmt_book.proofs.words.bits_at.Goals as goal

pub loop-done-preserved : goal.loop-done-preserved
loop-done-preserved c =
    let l = c.loop-done in
    let size = c.args.size in
    let at = c.args.low + l.done in
    let kept : c.slice-bits.result * 2 ^ l.done % 2 ^ 128 ≡ c.slice-bits.result * 2 ^ l.done =
    bits-kept (get_or c.args.words.now (at / size) 0) (at % size) c.min-count.result l.done c.slice-bits.result c.slice-bits.ensures (omega arith) (omega arith) in
    record {
      some_left = omega arith;
      so_far = ap (λ n. l.value + n) kept
          ∙ bits-more size c.args.low l.done c.min-count.result l.value c.slice-bits.result at c.args.words.now c.requires.small (omega arith) (omega arith) (div_below at size (length c.args.words.now) c.requires.some (omega arith)) l.invariant.so_far c.slice-bits.ensures;
    }

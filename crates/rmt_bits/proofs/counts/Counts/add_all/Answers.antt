use Rattle.std.proofs.Common.{ℕ, List, [], take, get_or, sym, ap, ◌∙◌, arith}
use Rattle.std.proofs.lemmas.List.{take_more}
use Rattle.rmt_bits.specs.Counts.{counts}
use Rattle.rmt_bits.specs.Counting.{with_count}
use Rattle.rmt_bits.proofs.OrderLaws.{zeros_push}
use Rattle.rmt_bits.proofs.counts.Counts.add_all.Goals as goal

pub loop-number-preserved : goal.loop-number-preserved
loop-number-preserved c =
    let numbers = c.args.numbers.now in
    let i = c.loop-number.number-index in
    let n = get_or numbers i 0 in
    record {
      room = omega (arith, c.loop-number.invariant.room, c.add.ensures.room, c.add.ensures.once);
      counts_are =
          c.add.ensures.counts ∙ ap (with_count n) c.loop-number.invariant.counts_are ∙ zeros_push (take i numbers) n
          ∙ ap (λ (ns : List ℕ). counts ns []) (sym (take_more numbers i 0 c.loop-number-test.true));
    }

use Rattle.std.proofs.Common.{◌++◌, ◌∷◌, ℕ, List, [], take, get_or, append-nil, append_assoc, sym, ap, ◌∙◌, arith}
use Rattle.std.proofs.lemmas.List.{take_more}
use Rattle.rmt_bits.specs.Counts.{counts}
use Rattle.rmt_bits.specs.Counting.{with_count}
use Rattle.rmt_plain.proofs.CounterLaws.{counts_push, there_more}
use Rattle.rmt_plain.proofs.counters.add_counters.Goals as goal

pub loop-number-init : goal.loop-number-init
loop-number-init c = record {
  room = omega (arith, c.requires);
  counts_are = λ before hits were there. were ∙ ap (λ (ns : List ℕ). counts ns hits) (sym (append-nil before));
}

pub loop-number-preserved : goal.loop-number-preserved
loop-number-preserved c =
    let i = c.loop-number.number-index in
    let numbers = c.args.numbers.now in
    let n = get_or numbers i 0 in
    record {
      room = omega (arith, c.loop-number.invariant.room, c.add.ensures.room, c.add.ensures.once);
      counts_are = λ before hits were there.
          c.add.ensures.counts
          ∙ ap (with_count n) (c.loop-number.invariant.counts_are before hits were there)
          ∙ counts_push (before ++ take i numbers) hits n (there_more before (take i numbers) hits n (there i 0 c.loop-number-test.true))
          ∙ ap (λ (ns : List ℕ). counts ns hits) (append_assoc before (take i numbers) (n ∷ []) ∙ ap (λ (ns : List ℕ). before ++ ns) (sym (take_more numbers i 0 c.loop-number-test.true)));
    }

use Rattle.std.proofs.Common.{◌≡◌, ◌+◌, ◌++◌, List, [], length, drop, get_or, ap, sym, ◌∙◌, length-append, arith}
use Rattle.std.proofs.lemmas.List.{drop_more, get_or_read}
use Rattle.rmt_bits.specs.declared.answer.Count.{Count}
use Rattle.rmt_bits.specs.Counting.{joined}
use Rattle.rmt_bits.proofs.RunLaws.{drop_past}
use Rattle.rmt_bits.proofs.counts.runs.run_from.Goals as goal

pub loop-run-preserved : goal.loop-run-preserved
loop-run-preserved c =
    let runs = c.args.runs.now in
    let i = c.loop-run.run-index in
    let run = c.as_slice-counts.result.now in
    let rest = joined (drop (i + 1) runs) in
    let same : run ≡ get_or runs i [] = c.as_slice-counts.ensures ∙ get_or_read runs i c.run-item.result c.loop-run-test.true c.run-item.is [] in
    let is : joined (drop i runs) ≡ run ++ rest = ap joined (drop_more runs i [] c.loop-run-test.true) ∙ ap (λ (cs : List Count). cs ++ rest) (sym same) in
    let size : length (joined (drop i runs)) ≡ length run + length rest = ap (λ (cs : List Count). length cs) is ∙ length-append run rest in
    record {
      rest = c.loop-run.invariant.rest ∙ ap (λ (cs : List Count). drop c.loop-run.left cs) is ∙ drop_past run rest c.loop-run.left c.if-left-counts.false;
      left_is = omega (arith, size, c.loop-run.invariant.left_is, c.if-left-counts.false);
    }

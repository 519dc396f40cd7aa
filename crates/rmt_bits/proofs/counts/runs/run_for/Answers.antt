use Rattle.std.proofs.Common.{◌≡◌, ◌+◌, ◌-◌, ◌/◌, ◌<◌, List, [], length, get_or, sym, subst, arith}
use Rattle.std.proofs.lemmas.List.{get_or_read}
use Rattle.rmt_bits.specs.declared.answer.Count.{Count}
use Rattle.rmt_bits.proofs.RunLaws.{above_run, below_run, run-some}
use Rattle.rmt_bits.proofs.counts.runs.run_for.Goals as goal
use Rattle.rmt_bits.proofs.counts.runs.run_for.Goals.{After-first, After-index-runs-middle}

abbrev no_count : Count
no_count = record { entry = 0; packets = 0; bytes = 0 }

-- the run in the middle has a counter, the first of which has the number that is looked at
some : (c : After-index-runs-middle) → 0 < length (get_or c.args.runs.now (c.loop-high.low + (c.loop-high.high - c.loop-high.low) / 2) [])
some c = run-some c.args.runs.now (c.loop-high.low + (c.loop-high.high - c.loop-high.low) / 2) (omega arith) (omega arith) c.requires.filled

first_is : (c : After-first) → c.first.result ≡ (get_or (get_or c.args.runs.now (c.loop-high.low + (c.loop-high.high - c.loop-high.low) / 2) []) 0 no_count).entry
first_is c =
    subst (λ (run : List Count). c.first.result ≡ (get_or run 0 no_count).entry)
    (get_or_read c.args.runs.now (c.loop-high.low + (c.loop-high.high - c.loop-high.low) / 2) c.index-runs-middle.result (omega arith) c.index-runs-middle.is []) (c.first.ensures no_count)

pub first-requires : goal.first-requires
first-requires c =
    let middle = c.loop-high.low + (c.loop-high.high - c.loop-high.low) / 2 in
    subst (λ (run : List Count). 0 < length run) (sym (get_or_read c.args.runs.now middle c.index-runs-middle.result (omega arith) c.index-runs-middle.is []))
    (some (goal.at.first-requires c).After-index-runs-middle)

pub loop-high-preserved-then-number-first : goal.loop-high-preserved-then-number-first
loop-high-preserved-then-number-first c =
    let here = goal.at.loop-high-preserved-then-number-first c in
    let middle = c.loop-high.low + (c.loop-high.high - c.loop-high.low) / 2 in
    record {
      some = omega arith;
      inside = omega arith;
      below = c.loop-high.invariant.below;
      above = above_run c.args.runs.now middle c.args.number no_count (omega arith) c.requires.rising (some here.After-index-runs-middle) (omega (arith, first_is here.After-first));
    }

pub loop-high-preserved : goal.loop-high-preserved
loop-high-preserved c =
    let here = goal.at.loop-high-preserved c in
    let middle = c.loop-high.low + (c.loop-high.high - c.loop-high.low) / 2 in
    record {
      some = omega arith;
      inside = c.loop-high.invariant.inside;
      below = below_run c.args.runs.now middle c.args.number no_count (omega arith) c.requires.rising (some here.After-index-runs-middle) (omega (arith, first_is here.After-first));
      above = c.loop-high.invariant.above;
    }

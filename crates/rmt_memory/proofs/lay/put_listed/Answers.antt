use Rattle.std.proofs.Common.{◌∷◌, ◌++◌, List, ℕ, get_or, take, ap, ◌∙◌}
use Rattle.rmt_memory.specs.Searching.{run_of}
use Rattle.rmt_memory.proofs.PutLaws.{one-run}
use Rattle.rmt_memory.proofs.lay.put_listed.Goals as goal

pub loop-at-preserved : goal.loop-at-preserved
loop-at-preserved c =
    let at = c.loop-at.at in
    let heads = c.args.heads.now in
    let keys = c.args.keys.now in
    let held = c.args.held.now in
    let tail = c.args.tail in
    let number = take tail c.number_bytes-number.result in
    one-run tail c.args.numbers.now heads keys held at c.args.cells.now c.loop-at.cells c.set_run.new.runs c.loop-at-test.true c.requires.inside c.loop-at.invariant
    (record {
      stay = c.set_run.ensures.stay;
      run = c.set_run.ensures.run
          ∙ ap (λ (bs : List ℕ). get_or bs 0 0 ∷ (c.run_at-in-loop-at.result.now ++ (c.run_at-in-loop-at-2.result.now ++ number))) c.run_at.ensures.value
          ∙ ap (λ (bs : List ℕ). get_or (run_of heads at) 0 0 ∷ (bs ++ (c.run_at-in-loop-at-2.result.now ++ number))) c.run_at-in-loop-at.ensures.value
          ∙ ap (λ (bs : List ℕ). get_or (run_of heads at) 0 0 ∷ (run_of keys at ++ (bs ++ number))) c.run_at-in-loop-at-2.ensures.value
          ∙ ap (λ (bs : List ℕ). get_or (run_of heads at) 0 0 ∷ (run_of keys at ++ (run_of held at ++ take tail bs))) c.number_bytes-number.ensures.bytes;
    })

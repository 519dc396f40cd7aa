use Rattle.std.proofs.Common.{[], arith}
use Rattle.rmt_ptcam.specs.declared.parse.step.Step.TheVariants as steps
use Rattle.rmt_ptcam.specs.Parsing.{standing}
use Rattle.rmt_ptcam.proofs.ParseLaws.{run_gives, run_end}
use Rattle.rmt_ptcam.proofs.parse.run.Goals as goal

pub returns-in-Short : goal.returns-in-Short
returns-in-Short c = run_gives c.args.parser.now c.args.frame.now c.loop-k.state c.loop-k._k (standing c.loop-k.vector c.loop-k.tails c.loop-k.cursor) steps.Short [] [] (omega arith) c.loop-k.invariant.rest c.in-Short.ensures.step

pub returns-in-Reject : goal.returns-in-Reject
returns-in-Reject c = run_gives c.args.parser.now c.args.frame.now c.loop-k.state c.loop-k._k (standing c.loop-k.vector c.loop-k.tails c.loop-k.cursor) steps.Reject [] [] (omega arith) c.loop-k.invariant.rest c.in-Reject.ensures.step

pub returns-in-Accept : goal.returns-in-Accept
returns-in-Accept c =
    run_gives c.args.parser.now c.args.frame.now c.loop-k.state c.loop-k._k (standing c.loop-k.vector c.loop-k.tails c.loop-k.cursor) (steps.Accept _) _ _ (omega arith) c.loop-k.invariant.rest
    c.in-Accept.ensures.step

pub loop-k-preserved : goal.loop-k-preserved
loop-k-preserved c = record {
  within = c.in-Go.ensures.within;
  rest =
      run_gives c.args.parser.now c.args.frame.now c.loop-k.state c.loop-k._k (standing c.loop-k.vector c.loop-k.tails c.loop-k.cursor) (steps.Go _ _) _ _ (omega arith) c.loop-k.invariant.rest
      c.in-Go.ensures.step;
}

pub returns : goal.returns
returns c = run_end c.args.parser.now c.args.frame.now c.loop-k.state c.loop-k._k (standing c.loop-k.vector c.loop-k.tails c.loop-k.cursor) (omega arith) c.loop-k.invariant.rest

use Rattle.rmt_syntax.proofs.Words.{◌≤◌, length, arith, rules, Ok}
use Rattle.rmt_syntax.proofs.Deciding.{gives}
use Rattle.rmt_syntax.proofs.BeforeLaws.{starts, tree_is, arrives}
use Rattle.rmt_syntax.proofs.parser.syntax.Goals as goal
use Rattle.rmt_syntax.proofs.parser.syntax.Goals.{After-finish}

pub loop-at-init : goal.loop-at-init
loop-at-init c =
    let e = c.new-reader.ensures in arrives c.new-reader.result e.goals e.marks e.depth (starts c.args.tokens.now.items c.requires)

at_end : (c : After-finish) → length c.args.tokens.now.items ≤ c.loop-at.at
at_end c = omega (arith, c.len-at-end.ensures, c.loop-at-test.false, c.args.tokens.now.ok.0)

pub returns-clause-answer : goal.returns-clause-answer
returns-clause-answer c =
    tree_is c.finish.result (at_end c) c.loop-at.invariant
    (c.finish.ensures (c.loop-at.invariant.ended (at_end c)))

pub returns-clause-only : goal.returns-clause-only
returns-clause-only c other o = gives c.args.tokens.now.items (Ok c.finish.result) other c.requires (returns-clause-answer c) o

pub returns-in_err-read_token-clause-only : goal.returns-in_err-read_token-clause-only
returns-in_err-read_token-clause-only c other o = gives c.args.tokens.now.items c.from_residual.result other c.requires (search rules) o

use Rattle.std.proofs.Common.{sym, ◌∙◌}
use Rattle.rmt_config.proofs.NameRuleLaws.{known_more, stands_once, stands_twice}
use Rattle.rmt_config.proofs.form.names.differ.differ.Goals as goal

pub returns-then-not-branch : goal.returns-then-not-branch
returns-then-not-branch c =
    let loop = c.loop-name in
    stands_twice c.args.names.now loop.name-index _ c.loop-name-test.true loop.known.keys loop.invariant.same (sym c.in_ok-insert.ensures.added ∙ c.if-not-branch.true)

pub loop-name-preserved : goal.loop-name-preserved
loop-name-preserved c =
    let loop = c.loop-name in
    record {
      apart = stands_once c.args.names.now loop.name-index _ c.loop-name-test.true loop.known.keys loop.invariant.same
          (sym c.in_ok-insert.ensures.added ∙ c.if-not-branch.false) loop.invariant.apart;
      same = known_more c.args.names.now loop.name-index _ c.loop-name-test.true loop.known.keys loop.invariant.same c.insert.new.self.keys c.in_ok-insert.ensures.keys;
    }

use Rattle.std.proofs.Common.{◌∙◌}
use Rattle.rmt_config.proofs.TableLaws.{guard_passed}
use Rattle.rmt_config.proofs.form.tables.Nodes.guard_stands.Goals as goal

pub returns-then-guard-node-clause-value : goal.returns-then-guard-node-clause-value
returns-then-guard-node-clause-value c = λ before behind x k e.
    rw (c.in-Some.is, ← e)
    (c.has_passed.ensures.value ∙ guard_passed c.args.self.now before behind x k c.in-Some.guard c.has_passed.ensures.byte (λ same. c.if-guard-node.true (same ∙ e)))

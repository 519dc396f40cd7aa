use Rattle.std.proofs.Common.{◌==◌, ℕ, Some, None, ap, ◌∙◌}
use Rattle.rmt_verify.proofs.UnitLaws.{last_is}
use Rattle.rmt_verify.proofs.units.slot.is_last.Goals as goal

pub returns-in-None : goal.returns-in-None
returns-in-None c =
    ap (λ (k : ℕ). c.args.at.now.stage == k) (last_is c.args.at.now.parts.now c.args.node None (c.in-None.ensures ∙ c.requires.spans_are c.args.node))

pub returns-in-Some : goal.returns-in-Some
returns-in-Some c =
    ap (λ (k : ℕ). c.args.at.now.stage == k) (last_is c.args.at.now.parts.now c.args.node (Some c.in-Some.span) (c.in-Some.ensures ∙ c.requires.spans_are c.args.node))

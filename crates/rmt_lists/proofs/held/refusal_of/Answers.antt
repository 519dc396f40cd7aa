use Rattle.std.proofs.Common.{◌∙◌, arith, sym}
use Rattle.rmt_lists.proofs.StandLaws.{refused_6, refused_7, refused_9, refused_not}
use Rattle.rmt_lists.proofs.held.refusal_of.Goals as goal

pub returns-then-is_repeated-clause-refusal : goal.returns-then-is_repeated-clause-refusal
returns-then-is_repeated-clause-refusal c es k h own =
    refused_6 c.args.terms.0 c.args.terms.1 c.args.most c.args.taken k es (sym (c.is_repeated.ensures es k h own) ∙ c.if-is_repeated.true)

pub returns-then-size-held-clause-refusal : goal.returns-then-size-held-clause-refusal
returns-then-size-held-clause-refusal c es k h own =
    refused_7 c.args.terms.0 c.args.terms.1 c.args.most c.args.taken k es (sym (c.is_repeated.ensures es k h own) ∙ c.if-is_repeated.false) (omega (arith, h.count, c.if-size-held.true))

pub returns-then-most-taken-clause-refusal : goal.returns-then-most-taken-clause-refusal
returns-then-most-taken-clause-refusal c es k h own =
    refused_9 c.args.terms.0 c.args.terms.1 c.args.most c.args.taken k es (sym (c.is_repeated.ensures es k h own) ∙ c.if-is_repeated.false) (omega (arith, h.count, c.if-size-held.false)) (omega (arith, c.if-most-taken.true))

pub returns-clause-refusal : goal.returns-clause-refusal
returns-clause-refusal c es k h own =
    refused_not c.args.terms.0 c.args.terms.1 c.args.most c.args.taken k es (sym (c.is_repeated.ensures es k h own) ∙ c.if-is_repeated.false) (omega (arith, h.count, c.if-size-held.false)) (omega (arith, c.if-most-taken.false))

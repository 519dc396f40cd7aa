use Rattle.std.proofs.Common.{◌^◌, ◌<◌, ℕ, sym, subst, rules}
use Rattle.rmt_config.proofs.HeldLaws.{computed-lt}
use Rattle.rmt_chip.proofs.compute.computed.Goals as goal

pub returns-clause-value : goal.returns-clause-value
returns-clause-value c = search rules

pub returns-clause-within : goal.returns-clause-within
returns-clause-within c =
    subst (λ (n : ℕ). n < 2 ^ c.args.len) (sym (returns-clause-value c)) (computed-lt c.args.kind c.args.len c.args.left c.args.right c.requires.left_fits c.requires.right_fits)

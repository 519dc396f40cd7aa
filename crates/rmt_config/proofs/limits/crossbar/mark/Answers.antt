use Rattle.std.proofs.Common.{◌++◌, sym, subst}
use Rattle.rmt_config.specs.LimitSteps.{Marks, words_over}
use Rattle.rmt_config.proofs.limits.crossbar.mark.Goals as goal

pub returns-in-Exact : goal.returns-in-Exact
returns-in-Exact c ns m = subst (λ x. Marks (ns ++ words_over x c.args.unit.now) c.mark_exact.new.marks) (sym c.in-Exact.is) (c.mark_exact.ensures ns m)

pub returns-in-Ternary : goal.returns-in-Ternary
returns-in-Ternary c ns m = subst (λ x. Marks (ns ++ words_over x c.args.unit.now) c.mark_ternary.new.marks) (sym c.in-Ternary.is) (c.mark_ternary.ensures ns m)

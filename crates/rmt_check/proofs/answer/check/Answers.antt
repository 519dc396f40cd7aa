use Rattle.std.proofs.Common.{sym, subst}
use Rattle.rmt_check.specs.Parts.{Source}
use Rattle.rmt_check.specs.Sizes.{AreNested}
use Rattle.rmt_check.proofs.Parents.{nested}
use Rattle.rmt_check.proofs.answer.check.Goals as goal

pub check_source-requires : goal.check_source-requires
check_source-requires c = subst (λ (s : Source). AreNested s) (sym c.in_ok-source.ensures.source) (nested c.args.tree.now)

use Rattle.std.proofs.Common.{subst, sym}
use Rattle.rmt_core.specs.Making.{TellsWhy}
use Rattle.rmt_core.proofs.NoFitLaws.{same_Err}
use Rattle.rmt_core.proofs.making.fit.Goals as goal

pub returns-in-Err-clause-refused : goal.returns-in-Err-clause-refused
returns-in-Err-clause-refused c = λ line e.
    let told = same_Err _ _ e in
    subst (TellsWhy c.args.placer c.args.program.now c.args.entries.now) (sym (c.refusal_of.ensures.line line told))
    (c.in-Err.ensures.refused (c.refusal_of.ensures.no_memory line told))

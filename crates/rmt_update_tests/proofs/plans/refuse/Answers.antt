use Rattle.std.proofs.Common.{sym, ◌∙◌}
use Rattle.std.proofs.lemmas.Bool.{false≢true}
use Rattle.rmt_update_tests.proofs.plans.refuse.Goals as goal
use Rattle.rmt_update_tests.proofs.plans.refuse.Goals.{in-Ok, in-Err-LoadFull, in-Err-NoMemory}

-- where the commit is refused, the book stands for what it stood for
pub returns : goal.returns
returns c =
    elim c.match-commit.branch [
      | in-Ok w ↦ λ t. absurd (false≢true (sym w.result-is ∙ t))
      | in-Err-LoadFull w ↦ λ t. w.in-Err-LoadFull.ensures.kept
      | in-Err-NoMemory w ↦ λ t. absurd (false≢true (sym w.result-is ∙ t))
    ]

-- The changes take effect.
use Rattle.std.proofs.Common.{refl, ◌∙◌}
use Rattle.rmt_ast.specs.Changes.{at_first}
use Rattle.rmt_ast.specs.Events.{lists_from, met_from}
use Rattle.rmt_lists.specs.Running.{commit_of}
use Rattle.rmt_drive.specs.PlainRunning.{committed_by}
use Rattle.rmt_drive.proofs.PlainRunLaws.{goes_commit}
use Rattle.rmt_drive.proofs.plain_run.line.take_commit.Goals as goal

pub commit-requires : goal.commit-requires
commit-requires c = let h = c.requires in record { stands = (h.2.run, h.5.stands) }

pub returns-in-Ok-commit-clause-ok : goal.returns-in-Ok-commit-clause-ok
returns-in-Ok-commit-clause-ok c = λ p lists said before now h.
    let later = commit_of said.run in
    let stands = c.in-Ok.ensures.committed said.run h.stands in
    goes_commit p lists said c.args.run.now _ before now c.in-Ok-copy.entries h (c.in-Ok-copy.ensures ∙ c.current.ensures later stands)
    (λ good follow. c.in-Ok-commit.ensures.ok p (lists_from (at_first lists) said.events) (committed_by lists said).lists (met_from (at_first lists) said.events) h.takes good follow) stands refl refl

use Rattle.rmt_refine.proofs.ShortLaws.{commits_short}
use Rattle.rmt_refine.proofs.laws.short_commits.Goals as goal

pub returns : goal.returns
returns c = commits_short

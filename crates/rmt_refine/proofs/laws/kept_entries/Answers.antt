use Rattle.rmt_refine.proofs.KeptLaws.{entries_kept}
use Rattle.rmt_refine.proofs.laws.kept_entries.Goals as goal

pub returns : goal.returns
returns c = entries_kept

use Rattle.rmt_cuckoo.proofs.LoadLaws.{not_both}
use Rattle.rmt_cuckoo.proofs.loader.never_both.Goals as goal

pub returns : goal.returns
returns c = not_both

use Rattle.rmt_config.proofs.LimitLemmas.{none_counted}
use Rattle.rmt_config.proofs.limits.listing.no_counts.Goals as goal

pub returns : goal.returns
returns c = none_counted

-- How many words of each size a configuration names.
use Rattle.rmt_config.specs.declared.config.Config.{Config}
use Rattle.rmt_report.specs.declared.named.WordCounts.{WordCounts}
use Rattle.rmt_report.specs.NamedWords.{words_of_size}

-- each word that is named is counted once
abbrev pub counts_of : Config → WordCounts
counts_of c = record { bytes = words_of_size 8 c; halves = words_of_size 16 c; wholes = words_of_size 32 c }

use Rattle.std.proofs.Common.{◌≡◌, ◌++◌, take}
use Rattle.std.specs.List.{flat_map}
use Rattle.rmt_pcap.specs.Written.{record_text}
use Rattle.rmt_pcap.proofs.writing.put_all.Given as goal

abbrev pub invariant-loop-item : goal.invariant-loop-item
invariant-loop-item l = l.out.items ≡ l.head ++ flat_map (record_text l.big) (take l.item-index l.item-items)

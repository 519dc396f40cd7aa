use Rattle.std.proofs.Common.{◌≡◌, ◌-◌, ◌*◌, ◌≤◌, length, drop}
use Rattle.rmt_pcap.specs.Captures.{said_from}
use Rattle.rmt_pcap.proofs.RecordLaws.{behind}
use Rattle.rmt_pcap.proofs.reading.read_records.Given as goal

abbrev pub invariant-loop-at : goal.invariant-loop-at
invariant-loop-at l = (16 * l.skipped ≤ l.at) × (24 ≤ l.at) × (l.at ≤ length l.bytes) ×
    (behind l.records l.skipped (said_from l.big l.at 0 (drop l.at l.bytes)) ≡ said_from l.big 24 0 (drop 24 l.bytes))

abbrev pub decreases-loop-at : goal.decreases-loop-at
decreases-loop-at l = length l.bytes - l.at

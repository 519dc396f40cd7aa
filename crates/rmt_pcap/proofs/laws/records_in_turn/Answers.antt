use Rattle.rmt_pcap.proofs.RecordLaws.{said_first}
use Rattle.rmt_pcap.proofs.laws.records_in_turn.Goals as goal

pub returns : goal.returns
returns c = said_first

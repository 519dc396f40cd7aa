use Rattle.rmt_pcap.proofs.RoundTrip.{read_back}
use Rattle.rmt_pcap.proofs.laws.written_is_read_back.Goals as goal

pub returns : goal.returns
returns c = read_back

-- Steps of a reading.
use Rattle.std.specs.Prelude.{ℕ, Bool, if◌then◌else◌, List, Option, Some, None}
use Rattle.rmt_pcap.specs.Captures.{captured_len, is_whole}

-- the captured length of the record that stands first, where it is whole
abbrev pub whole_len : Bool → List ℕ → Option ℕ
whole_len big bytes = if is_whole big bytes then Some (captured_len big bytes) else None

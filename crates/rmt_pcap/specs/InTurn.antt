-- What the records of a file say, one after another.
use Rattle.std.specs.Prelude.{◌≡◌, ℕ, ◌+◌, ◌<◌, Bool, if◌then◌else◌, List, [], length, drop}
use Rattle.rmt_pcap.specs.Captures.{before, captured_len, is_whole, said_from}

-- bytes say the whole record that stands first and then what the bytes behind it say; where there is none, one is skipped
abbrev pub SaidInTurn : Type 0
SaidInTurn = (big : Bool) (at : ℕ) (bytes : List ℕ) → 0 < length bytes → said_from big at 0 bytes ≡
    (if is_whole big bytes
    then before at bytes (captured_len big bytes) (said_from big (at + (16 + captured_len big bytes)) 0 (drop (16 + captured_len big bytes) bytes))
    else record { records = []; skipped = 1 })

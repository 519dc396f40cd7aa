-- The steps of a reader of lines.
use Rattle.std.specs.Prelude.{ℕ, Bool, true, false, List, [], ◌++◌, ◌+◌, ◌==◌, ◌&&◌, ◌||◌, if◌then◌else◌, length, slice_index}
use Rattle.std.specs.List.{list_all}
use Rattle.rmt_packets.specs.Pieces.{LineState, front_of}

-- where its line is ended, the next one begins
abbrev pub begun : LineState → LineState
begun s = if s.is_ended then record s { front = []; is_blank = true; number = s.number + 1; is_ended = false; is_ready = false } else record s { is_ready = false }

-- its line grows by bytes without a line feed
abbrev pub grown : LineState → List ℕ → LineState
grown s part = record s { front = front_of (s.front ++ part); is_blank = s.is_blank && list_all (λ b. b == 32) part; taken = s.taken + length part }

-- its line is passed over
abbrev pub passes_over : LineState → Bool
passes_over s = s.is_blank || slice_index s.front 0 == 35

-- its line is ended: a packet line is held, and behind another one the next begins
abbrev pub fed : LineState → LineState
fed s = if passes_over s then record s { front = []; is_blank = true; number = s.number + 1; taken = s.taken + 1 } else record s { is_ended = true; is_ready = true; taken = s.taken + 1 }

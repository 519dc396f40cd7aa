-- Lines that are read from a text in pieces: a text that is too long.
use Rattle.std.specs.Prelude.{◌≡◌, ◌<◌, ℕ, List, length, take}
use Rattle.rmt_packets.specs.Pieces.{ended_lines}

-- the text goes on behind its limit, and these are the lines that end within it
pub record PassesLimit (limit : ℕ) (text : List ℕ) (gave : List (ℕ × List ℕ)) : Type 0 where
  pub long : limit < length text
  pub within : ended_lines (take limit text) ≡ gave

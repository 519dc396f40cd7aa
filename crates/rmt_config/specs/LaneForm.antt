-- The rules of form of lanes, ports and headers.
use Rattle.std.specs.Prelude.{ℕ, ◌+◌, ◌*◌, List, length, map, sum, Bool, ◌&&◌, ◌==◌, nat_lt, nat_le}
use Rattle.std.specs.List.{list_all}
use Rattle.rmt_bits.specs.Words.{word_size}
use Rattle.rmt_bits.specs.declared.lane.Lane.{Lane}
use Rattle.rmt_config.specs.Types.{Config, OutHeader}

-- 1 to 32 bits of a word that there is
abbrev pub lane_is_formed : Lane → Bool
lane_is_formed lane =
    nat_lt lane.word 224 && nat_le 1 lane.len && nat_le lane.len 32 && nat_le (lane.low + lane.len) (word_size lane.word)

abbrev pub is_lane_of : ℕ → Lane → Bool
is_lane_of len lane = lane_is_formed lane && (lane.len == len)

-- how many bits lanes have together
abbrev pub bits_of_lanes : List Lane → ℕ
bits_of_lanes lanes = sum (map (λ (lane : Lane). lane.len) lanes)

-- the seed is a byte, the ports have 9 bits, and the drop bit is one
abbrev pub ports_are_formed : Config → Bool
ports_are_formed c = nat_lt c.seed 256 && is_lane_of 9 c.in_port && is_lane_of 9 c.out_port && is_lane_of 1 c.drop

-- a header of 1 to 64 bytes, whose lanes together have its bits
abbrev pub header_is_formed : OutHeader → Bool
header_is_formed h =
    is_lane_of 1 h.valid && nat_le 1 h.bytes && nat_le h.bytes 64
    && nat_lt (length h.pieces) 256 && list_all lane_is_formed h.pieces && (bits_of_lanes h.pieces == 8 * h.bytes)

abbrev pub headers_are_formed : List OutHeader → Bool
headers_are_formed headers = nat_le (length headers) 64 && list_all header_is_formed headers

-- The rules of form of the parser: states with their lookups, entries, and tails of entries.
use Rattle.std.specs.Prelude.{ℕ, ◌+◌, ◌*◌, ◌-◌, ◌^◌, ◌%◌, List, length, map, Bool, true, ◌&&◌, ◌==◌, nat_lt, nat_le, bit_and, option_map, unwrap_or, slice_get}
use Rattle.std.specs.List.{list_all}
use Rattle.rmt_config.specs.Types.{ParserConfig, ParserState, ParserEntry, Next, Extract}
use Rattle.rmt_config.specs.declared.config.Next.TheVariants.{Accept, Reject, State}
use Rattle.rmt_config.specs.declared.config.Extract.TheVariants.{Bits, One}
use Rattle.rmt_config.specs.Order.{rises_from, never_falls_from}
use Rattle.rmt_config.specs.LaneForm.{lane_is_formed, is_lane_of}
use Rattle.rmt_config.specs.TailForm.{tails_are_formed}

-- the lookup offsets of a state rise, each below 128
abbrev pub state_is_formed : ParserState → Bool
state_is_formed s = rises_from 0 s.lookups && list_all (λ offset. nat_lt offset 128) s.lookups

abbrev pub states_are_formed : List ParserState → Bool
states_are_formed states = nat_le 1 (length states) && nat_lt (length states) 65536 && list_all state_is_formed states

-- a packet's bits lie in the bytes that the entry needs
abbrev pub extract_is_formed : ℕ → Extract → Bool
extract_is_formed need (Bits from lane) = nat_lt from 65536 && lane_is_formed lane && nat_le (from + lane.len) (8 * need)
extract_is_formed need (One lane) = is_lane_of 1 lane

-- a state that is gone to is one of them, behind the entry's own, and its number is a byte
abbrev pub next_is_formed : ℕ → ℕ → Next → Bool
next_is_formed states state Accept = true
next_is_formed states state Reject = true
next_is_formed states state (State s) = nat_lt s states && nat_lt s 256 && nat_lt state s

-- the number of lookups of a state
abbrev pub lookups_of : List ParserState → ℕ → ℕ
lookups_of states state = unwrap_or (option_map (λ (s : ParserState). length s.lookups) (slice_get states state)) 0

-- the value has no bit outside the mask, and the mask none of an absent lookup byte; the first byte is the highest of four
abbrev pub match_is_formed : ℕ → ParserEntry → Bool
match_is_formed lookups e =
    nat_lt e.mask (2 ^ 32) && (bit_and e.value e.mask == e.value) && (e.mask % 2 ^ (8 * (4 - lookups)) == 0)

abbrev pub entry_is_formed : List ParserState → ParserEntry → Bool
entry_is_formed states e =
    nat_lt e.state (length states) && nat_lt e.state 256 && match_is_formed (lookups_of states e.state) e
    && nat_lt e.need 256 && nat_le e.advance e.need && next_is_formed (length states) e.state e.next
    && nat_lt (length e.extracts) 256 && list_all (extract_is_formed e.need) e.extracts

-- entries stand by state
abbrev pub entries_are_formed : ParserConfig → Bool
entries_are_formed p =
    nat_lt (length p.entries) 65536 && list_all (entry_is_formed p.states) p.entries
    && never_falls_from 0 (map (λ (e : ParserEntry). e.state) p.entries)

abbrev pub parser_is_formed : ParserConfig → Bool
parser_is_formed p = states_are_formed p.states && entries_are_formed p && tails_are_formed p

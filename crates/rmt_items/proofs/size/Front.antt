-- The ports, the headers and the parser of a configuration are spelled with few bytes.
use Rattle.std.proofs.Common.{◌≤◌, ◌++◌, length, get_or, length-append, arith}
use Rattle.std.specs.List.{flat_map}
use Rattle.std.proofs.lemmas.List.Elements.{All-weaker}
use Rattle.rmt_items.specs.Types.{OutHeader, ParserConfig, ParserState, ParserEntry, Next, Extract}
use Rattle.rmt_config.specs.declared.config.Next.TheVariants.{Accept, Reject, State}
use Rattle.rmt_config.specs.declared.config.Extract.TheVariants.{Bits, One}
use Rattle.rmt_config.specs.Spelling.{CountsFitEntry, CountsFitHeader, CountsFitParser, CountsFitState, spelled_entry, spelled_extract, spelled_header, spelled_lane, spelled_list8, spelled_next, spelled_parser, spelled_state, two_bytes}
use Rattle.rmt_items.proofs.size.Lists.{flat_map_short}

-- ---- headers

pub header_short : (h : OutHeader) → CountsFitHeader h → length (spelled_header h) ≤ 770
header_short h few =
    let pieces = flat_map_short spelled_lane 3 255 h.pieces (omega (arith, few)) (λ k d lt. omega arith) in
    omega (arith, pieces)

-- ---- the parser

state_short : (s : ParserState) → CountsFitState s → length (spelled_state s) ≤ 256
state_short s few = omega (arith, few)

next_short : (next : Next) → length (spelled_next next) ≤ 2
next_short Accept = omega arith
next_short Reject = omega arith
next_short (State s) = omega arith

extract_short : (x : Extract) → length (spelled_extract x) ≤ 6
extract_short (Bits from lane) = omega arith
extract_short (One lane) = omega arith

entry_short : (e : ParserEntry) → CountsFitEntry e → length (spelled_entry e) ≤ 1544
entry_short e few =
    let extracts = flat_map_short spelled_extract 6 255 e.extracts (omega (arith, few)) (λ k d lt. extract_short (get_or e.extracts k d)) in
    let next = next_short e.next in
    let rest = length-append (spelled_next e.next) (spelled_list8 spelled_extract e.extracts) in
    omega (arith, extracts, next, rest)

pub parser_short : (p : ParserConfig) → CountsFitParser p → length p.states ≤ 256 → length p.entries ≤ 256 → length (spelled_parser p) ≤ 460804
parser_short p fit states entries =
    let first = flat_map_short spelled_state 256 256 p.states states (All-weaker CountsFitState (λ s. length (spelled_state s) ≤ 256) state_short p.states fit.each_state) in
    let second = flat_map_short spelled_entry 1544 256 p.entries entries (All-weaker CountsFitEntry (λ e. length (spelled_entry e) ≤ 1544) entry_short p.entries fit.each_entry) in
    let all = length-append (two_bytes (length p.states) ++ flat_map spelled_state p.states) (two_bytes (length p.entries) ++ flat_map spelled_entry p.entries) in
    omega (arith, first, second, all)

-- The tails of a parser are spelled with few bytes.
use Rattle.std.proofs.Common.{◌≡◌, ◌<◌, ◌≤◌, ◌&&◌, true, ltb, List, [], ◌∷◌, length, map, slice_get, length-append, arith}
use Rattle.std.specs.List.{flat_map, list_all}
use Rattle.std.proofs.lemmas.Bool.{and_parts, ltb-true}
use Rattle.rmt_config.specs.declared.config.TailOf.{TailOf}
use Rattle.rmt_items.specs.Types.{Config, ParserConfig}
use Rattle.rmt_config.specs.Form.{Formed}
use Rattle.rmt_config.specs.Order.{rises_from}
use Rattle.rmt_config.specs.ParserForm.{entries_are_formed, parser_is_formed, states_are_formed}
use Rattle.rmt_config.specs.TailForm.{is_tail_of, tails_are_formed}
use Rattle.rmt_config.specs.ImageSpelling.{spelled_tail, spelled_tails}
use Rattle.rmt_config.specs.Spelling.{two_bytes}
use Rattle.rmt_items.proofs.size.Lists.{flat_map_short}

tails_short : (ts : List TailOf) → length ts < 65536 → length (spelled_tails ts) ≤ 524288
tails_short [] few = omega arith
tails_short (t ∷ ts) few =
    let all = flat_map_short spelled_tail 8 65535 (t ∷ ts) (omega (arith, few)) (λ k d lt. omega arith) in
    let front = length-append (two_bytes (length (t ∷ ts))) (flat_map spelled_tail (t ∷ ts)) in
    omega (arith, all, front)

-- the rules of form say how many there may be
few_tails : (p : ParserConfig) → parser_is_formed p ≡ true → length p.tails < 65536
few_tails p formed =
    let tails = and_parts (states_are_formed p.states && entries_are_formed p) (tails_are_formed p) formed in
    let rising = rises_from 0 (map (λ (t : TailOf). t.entry) p.tails) in
    let front = and_parts (rising && ltb (length p.tails) 65536) (list_all (λ (t : TailOf). is_tail_of t (slice_get p.entries t.entry)) p.tails) tails.1 in
    ltb-true (length p.tails) 65536 (and_parts rising (ltb (length p.tails) 65536) front.0).1

-- the parser of a configuration keeps its rules
parser_formed : (c : Config) → Formed c → parser_is_formed c.parser ≡ true
parser_formed c formed =
    let whole = and_parts _ _ formed.items in
    (and_parts _ _ (and_parts _ _ whole.0).0).1

pub all_tails_short : (c : Config) → Formed c → length (spelled_tails c.parser.tails) ≤ 524288
all_tails_short c formed = tails_short c.parser.tails (few_tails c.parser (parser_formed c formed))

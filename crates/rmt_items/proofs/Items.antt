-- The lanes, headers and parser of an image: each is read as it is spelled.
use Rattle.std.proofs.Common.{◌≡◌, ℕ, zero, suc, ◌+◌, ◌-◌, ◌*◌, ◌%◌, ◌^◌, ◌<◌, ◌≤◌, Bool, true, false, ◌&&◌, ltb, leb, eqb, List, [], ◌∷◌, ◌++◌, length, map, refl, sym, ap, arith, inl, inr, ◌⊎◌}
use Rattle.std.specs.List.{flat_map, list_all}
use Rattle.std.specs.Prelude.{bit_and}
use Rattle.std.proofs.lemmas.Bool.{ltb-true, eqb-true, leb-true, le-leb, and_parts, and_from}
use Rattle.std.proofs.lemmas.Nat.{and_le_r}
use Rattle.rmt_bits.specs.Words.{word_size}
use Rattle.rmt_bits.specs.declared.lane.Lane.{Lane}
use Rattle.rmt_items.specs.Types.{OutHeader, ParserConfig, ParserState, ParserEntry, Next, Extract, TailOf}
use Rattle.rmt_config.specs.declared.config.Next.TheVariants as next
use Rattle.rmt_config.specs.declared.config.Extract.TheVariants.{Bits, One}
use Rattle.rmt_config.specs.Order.{rises_from, never_falls_from}
use Rattle.rmt_config.specs.LaneForm.{lane_is_formed, is_lane_of, header_is_formed, headers_are_formed}
use Rattle.rmt_config.specs.ParserForm.{state_is_formed, states_are_formed, extract_is_formed, next_is_formed, lookups_of, match_is_formed, entry_is_formed, parser_is_formed}
use Rattle.rmt_config.specs.Spelling.{two_bytes, four_bytes, spelled_list8, spelled_list16, spelled_flag, spelled_lane, spelled_header, spelled_state, spelled_next, spelled_extract, spelled_entry, spelled_parser}
use Rattle.rmt_items.specs.declared.reading.parser.EntryHead.{EntryHead}
use Rattle.rmt_items.specs.Readers.{kept, byte_at, is_flag, is_one, flag_at, at_most, at_least}
use Rattle.rmt_items.specs.Reading.{word_at, lane_of_parts, lane_from_at, lane_at, has_bits, lane_of_at, header_of_parts, header_size_fits, is_covered, header_at, headers_at, offset_at, one_more, state_of_parts, state_at, states_at, entry_state_at, match_fits, match_at, need_fits, need_at, later_state_at, accepts, rejects, next_at, bits_of_parts, lies_in, bits_at, extract_at, head_of_parts, entry_head_at, entry_of_parts, entry_at, state_of, parser_of_parts, parser_at}
use Rattle.rmt_bits.proofs.TestLaws.{split2, split3, split4, split6, split8}
use Rattle.rmt_items.proofs.Codec.{Codec, codec_as, codec_for, codec_kept, codec_behind, codec_made, codec_made_known, codec_give, choices_none, choices_when, codec_chosen, AllAlong, codec_items, codec_listed, byte_codec, two_codec, fours_codec, codec_list, alone}

-- ---- numbers

flag_same : (a : ℕ) → is_flag a ≡ true → a ≡ spelled_flag (is_one a)
flag_same zero h = refl
flag_same (suc zero) h = refl
flag_same (suc (suc a)) h = absurd (omega (arith, leb-true (suc (suc a)) 1 h))

flag_back : (b : Bool) → (a : ℕ) × (is_one a ≡ b) × (a ∷ [] ≡ spelled_flag b ∷ []) × (Unit {0} × (is_flag a ≡ true))
flag_back true = (1, refl, refl, (tt, refl))
flag_back false = (0, refl, refl, (tt, refl))

pub flag_codec : Codec flag_at (λ b. spelled_flag b ∷ []) (λ _. Unit {0}) (λ _. Unit {0})
unfolding flag_at
flag_codec = codec_made is_one (codec_kept is_flag byte_codec) (λ b. spelled_flag b ∷ []) (λ _. Unit {0}) (λ a r. ap (λ (n : ℕ). n ∷ []) (flag_same a r.1)) (λ b q. flag_back b)

-- a byte that passes a test
pub codec_byte : (test : ℕ → Bool) → Codec (kept test byte_at) (λ n. n ∷ []) (λ n. test n ≡ true) (λ n. test n ≡ true)
codec_byte test = codec_as (codec_kept test byte_codec) (λ n. n ∷ []) (λ n. test n ≡ true) (λ n. test n ≡ true) (λ _. refl) (λ n p. (tt, p)) (λ n r. r.1)

-- ---- lanes and headers

pub word_codec : (least : ℕ) → Codec (word_at least) (λ n. n ∷ []) (λ n. (ltb n 224 && leb least n) ≡ true) (λ _. Unit {0})
unfolding word_at
word_codec least = codec_for (codec_byte (λ n. ltb n 224 && leb least n)) (λ n. (ltb n 224 && leb least n) ≡ true) (λ n p. p)

pub lane_from_codec : (least : ℕ) → Codec (lane_from_at least) spelled_lane (λ l. (lane_is_formed l ≡ true) × (leb least l.word ≡ true)) (λ _. Unit {0})
unfolding lane_from_at
lane_from_codec least =
    codec_for (codec_kept lane_is_formed
    (codec_made lane_of_parts (codec_behind (word_codec least) (λ _. codec_behind byte_codec (λ _. byte_codec))) spelled_lane
    (λ l. (ltb l.word 224 && leb least l.word) ≡ true) (λ a r. refl) (λ l q. ((l.word, (l.low, l.len)), refl, refl, (q, (tt, tt))))))
    (λ l. (lane_is_formed l ≡ true) × (leb least l.word ≡ true))
    (λ l q. (and_from (ltb l.word 224) (leb least l.word) (split4 q.0).0 q.1, q.0))

-- what is tested of a lane
pub lane_tests : (l : Lane) → lane_is_formed l ≡ true → (ltb l.word 224 ≡ true) × (leb 1 l.len ≡ true) × (leb l.len 32 ≡ true) × (leb (l.low + l.len) (word_size l.word) ≡ true)
lane_tests l e = split4 e

pub lane_codec : Codec lane_at spelled_lane (λ l. lane_is_formed l ≡ true) (λ _. Unit {0})
unfolding lane_at
lane_codec = codec_for (lane_from_codec 0) (λ l. lane_is_formed l ≡ true) (λ l q. (q, le-leb 0 l.word (omega arith)))

pub lane_of_codec : (len : ℕ) → Codec (lane_of_at len) spelled_lane (λ l. is_lane_of len l ≡ true) (λ _. Unit {0})
unfolding lane_of_at
lane_of_codec len = codec_for (codec_kept (has_bits len) lane_codec) (λ l. is_lane_of len l ≡ true) (λ l q. split2 q)

abbrev HeaderParts : OutHeader → Type 0
HeaderParts h = (is_lane_of 1 h.valid ≡ true) × ((header_size_fits h.bytes ≡ true) × (list_all lane_is_formed h.pieces ≡ true))

header_parts : (h : OutHeader) → header_is_formed h ≡ true → HeaderParts h × (is_covered h ≡ true)
header_parts h e = let p = split6 e in ((p.0, (and_from _ _ p.1 p.2, p.4)), p.5)

pub header_codec : Codec header_at spelled_header (λ h. header_is_formed h ≡ true) (λ _. Unit {0})
unfolding header_at
header_codec =
    codec_for (codec_kept is_covered
    (codec_made header_of_parts (codec_behind (lane_of_codec 1) (λ _. codec_behind (codec_byte header_size_fits) (λ _. codec_listed byte_codec (codec_list lane_is_formed lane_codec)))) spelled_header
    HeaderParts (λ a r. refl) (λ h q. ((h.valid, (h.bytes, h.pieces)), refl, refl, (q.0, (q.1.0, (tt, q.1.1)))))))
    (λ h. header_is_formed h ≡ true) header_parts

pub headers_codec : Codec headers_at (spelled_list8 spelled_header) (λ hs. headers_are_formed hs ≡ true) (λ _. Unit {0})
unfolding headers_at
headers_codec =
    codec_for (codec_listed (codec_byte (at_most 64)) (codec_list header_is_formed header_codec)) (λ hs. headers_are_formed hs ≡ true) (λ hs q. split2 q)

-- ---- states

offset_codec : (least : ℕ) → Codec (offset_at least) (λ n. n ∷ []) (λ n. (ltb n 128 ≡ true) × (leb least n ≡ true)) (λ _. Unit {0})
unfolding offset_at
offset_codec least =
    codec_for (codec_byte (λ n. ltb n 128 && leb least n)) (λ n. (ltb n 128 ≡ true) × (leb least n ≡ true)) (λ n p. and_from (ltb n 128) (leb least n) p.0 p.1)

offsets_along : (least : ℕ) (ns : List ℕ) → list_all (λ n. ltb n 128) ns ≡ true → rises_from least ns ≡ true → AllAlong (λ least n. (ltb n 128 ≡ true) × (leb least n ≡ true)) one_more least ns
offsets_along least [] each order = tt
offsets_along least (n ∷ ns) each order =
    let p = and_parts (ltb n 128) (list_all (λ n. ltb n 128) ns) each in
    let q = and_parts (leb least n) (rises_from (n + 1) ns) order in
    ((p.0, q.0), offsets_along (n + 1) ns p.1 q.1)

state_codec : Codec state_at spelled_state (λ s. state_is_formed s ≡ true) (λ _. Unit {0})
unfolding state_at
state_codec =
    codec_made state_of_parts (codec_listed byte_codec (codec_items one_more 0 offset_codec)) spelled_state (λ s. state_is_formed s ≡ true)
    (λ a r. ap (λ (ns : List ℕ). length a ∷ ns) (alone a))
    (λ s q. let p = split2 q in (s.lookups, refl, ap (λ (ns : List ℕ). length s.lookups ∷ ns) (alone s.lookups), (tt, offsets_along 0 s.lookups p.1 p.0)))

pub states_codec : Codec states_at (spelled_list16 spelled_state) (λ ss. states_are_formed ss ≡ true) (λ _. Unit {0})
unfolding states_at
states_codec =
    codec_for (codec_listed (codec_kept (at_least 1) two_codec) (codec_list state_is_formed state_codec)) (λ ss. states_are_formed ss ≡ true)
    (λ ss q. let p = split3 q in ((ltb-true (length ss) 65536 p.1, p.0), p.2))

-- ---- what an entry does

later_codec : (states state : ℕ) → Codec (later_state_at states state) (λ n. n ∷ []) (λ n. (ltb n states && ltb state n) ≡ true) (λ _. Unit {0})
unfolding later_state_at
later_codec states state = codec_for (codec_byte (λ n. ltb n states && ltb state n)) (λ n. (ltb n states && ltb state n) ≡ true) (λ n p. p)

-- what is gone to by a choice byte from k on
abbrev NextFrom : ℕ → ℕ → ℕ → Next → Type 0
NextFrom states state k next.Accept = k ≡ 0
NextFrom states state k next.Reject = k ≤ 1
NextFrom states state k (next.State s) = (ltb s states && ltb state s) ≡ true

next_0 : (states state : ℕ) (x : Next) → NextFrom states state 0 x → ((a : Unit {0}) × (accepts a ≡ x) × (a ≡ tt)) ⊎ NextFrom states state 1 x
next_0 states state next.Accept p = inl (tt, refl, refl)
next_0 states state next.Reject p = inr (omega arith)
next_0 states state (next.State s) p = inr p

next_1 : (states state : ℕ) (x : Next) → NextFrom states state 1 x → ((a : Unit {0}) × (rejects a ≡ x) × (a ≡ tt)) ⊎ NextFrom states state 2 x
next_1 states state next.Accept p = absurd (omega (arith, p))
next_1 states state next.Reject p = inl (tt, refl, refl)
next_1 states state (next.State s) p = inr p

next_2 : (states state : ℕ) (x : Next) → NextFrom states state 2 x → ((a : ℕ) × (next.State a ≡ x) × ((ltb a states && ltb state a) ≡ true)) ⊎ ⊥
next_2 states state next.Accept p = absurd (omega (arith, p))
next_2 states state next.Reject p = absurd (omega (arith, p))
next_2 states state (next.State s) p = inl (s, refl, p)

next_from : (states state : ℕ) (x : Next) → next_is_formed states state x ≡ true → NextFrom states state 0 x
next_from states state next.Accept p = refl
next_from states state next.Reject p = omega arith
next_from states state (next.State s) p = let q = split3 p in and_from (ltb s states) (ltb state s) q.0 q.2

pub next_codec : (states state : ℕ) → Codec (next_at states state) spelled_next (λ x. next_is_formed states state x ≡ true) (λ _. Unit {0})
unfolding next_at
next_codec states state =
    codec_for
    (codec_chosen
    (choices_when 0 accepts (codec_give tt (λ _. []) refl)
    (choices_when 1 rejects (codec_give tt (λ _. []) refl)
    (choices_when 2 next.State (later_codec states state) (choices_none spelled_next 3) (λ a. refl) (NextFrom states state 2) (next_2 states state))
    (λ a. refl) (NextFrom states state 1) (next_1 states state))
    (λ a. refl) (NextFrom states state 0) (next_0 states state)))
    (λ x. next_is_formed states state x ≡ true) (next_from states state)

bits_codec : (need : ℕ) → Codec (bits_at need) (λ x. two_bytes x.0 ++ spelled_lane x.1) (λ x. ((x.0 < 2 ^ 16) × (lane_is_formed x.1 ≡ true)) × (lies_in need x ≡ true)) (λ _. Unit {0})
unfolding bits_at
bits_codec need = codec_for (codec_kept (lies_in need) (codec_behind two_codec (λ _. lane_codec))) _ (λ x q. q)

abbrev ExtractFrom : ℕ → ℕ → Extract → Type 0
ExtractFrom need k (Bits from lane) = (k ≡ 0) × ((ltb from 65536 && lane_is_formed lane && leb (from + lane.len) (8 * need)) ≡ true)
ExtractFrom need k (One lane) = is_lane_of 1 lane ≡ true

extract_0 : (need : ℕ) (x : Extract) → ExtractFrom need 0 x → ((a : ℕ × Lane) × (bits_of_parts a ≡ x) × (((a.0 < 2 ^ 16) × (lane_is_formed a.1 ≡ true)) × (lies_in need a ≡ true))) ⊎ ExtractFrom need 1 x
extract_0 need (Bits from lane) p = let q = split3 p.1 in inl ((from, lane), refl, ((ltb-true from 65536 q.0, q.1), q.2))
extract_0 need (One lane) p = inr p

extract_1 : (need : ℕ) (x : Extract) → ExtractFrom need 1 x → ((a : Lane) × (One a ≡ x) × (is_lane_of 1 a ≡ true)) ⊎ ⊥
extract_1 need (Bits from lane) p = absurd (omega (arith, p.0))
extract_1 need (One lane) p = inl (lane, refl, p)

extract_from : (need : ℕ) (x : Extract) → extract_is_formed need x ≡ true → ExtractFrom need 0 x
extract_from need (Bits from lane) p = (refl, p)
extract_from need (One lane) p = p

pub extract_codec : (need : ℕ) → Codec (extract_at need) spelled_extract (λ x. extract_is_formed need x ≡ true) (λ _. Unit {0})
unfolding extract_at
extract_codec need =
    codec_for
    (codec_chosen
    (choices_when 0 bits_of_parts (bits_codec need)
    (choices_when 1 One (lane_of_codec 1) (choices_none spelled_extract 2) (λ a. refl) (ExtractFrom need 1) (extract_1 need))
    (λ a. refl) (ExtractFrom need 0) (extract_0 need)))
    (λ x. extract_is_formed need x ≡ true) (extract_from need)

-- ---- entries

entry_state_codec : (states least : ℕ) → Codec (entry_state_at states least) (λ n. n ∷ []) (λ n. (ltb n states && leb least n) ≡ true) (λ _. Unit {0})
unfolding entry_state_at
entry_state_codec states least = codec_for (codec_byte (λ n. ltb n states && leb least n)) (λ n. (ltb n states && leb least n) ≡ true) (λ n p. p)

abbrev MatchParts : ℕ → ℕ × ℕ → Type 0
MatchParts lookups x = ((x.0 < 2 ^ 32) × (x.1 < 2 ^ 32)) × (match_fits lookups x ≡ true)

match_codec : (lookups : ℕ) → Codec (match_at lookups) (λ x. four_bytes x.0 ++ four_bytes x.1) (MatchParts lookups) (λ _. Unit {0})
unfolding match_at
match_codec lookups = codec_for (codec_kept (match_fits lookups) fours_codec) (MatchParts lookups) (λ x q. q)

need_codec : Codec need_at (λ x. x.0 ∷ x.1 ∷ []) (λ x. need_fits x ≡ true) (λ _. Unit {0})
unfolding need_at
need_codec = codec_for (codec_kept need_fits (codec_behind byte_codec (λ _. byte_codec))) (λ x. need_fits x ≡ true) (λ x q. ((tt, tt), q))

abbrev head_text : EntryHead → List ℕ
head_text h = (h.state ∷ []) ++ ((four_bytes h.value ++ four_bytes h.mask) ++ (h.need ∷ h.advance ∷ []))

abbrev HeadKeeps : List ParserState → ℕ → EntryHead → Type 0
HeadKeeps states least h =
    ((ltb h.state (length states) && leb least h.state) ≡ true)
    × (MatchParts (lookups_of states h.state) (h.value, h.mask) × (need_fits (h.need, h.advance) ≡ true))

head_codec : (states : List ParserState) (least : ℕ) → Codec (entry_head_at states least) head_text (HeadKeeps states least) (λ _. Unit {0})
unfolding entry_head_at
head_codec states least =
    codec_made head_of_parts (codec_behind (entry_state_codec (length states) least) (λ state. codec_behind (match_codec (lookups_of states state)) (λ _. need_codec)))
    head_text (HeadKeeps states least) (λ a r. refl) (λ h q. ((h.state, ((h.value, h.mask), (h.need, h.advance))), refl, refl, q))

-- what an entry keeps that stands behind one of that state
abbrev pub EntryKeeps : List ParserState → ℕ → ParserEntry → Type 0
EntryKeeps states least e = (entry_is_formed states e ≡ true) × (leb least e.state ≡ true)

abbrev head_of : ParserEntry → EntryHead
head_of e = record { state = e.state; value = e.value; mask = e.mask; need = e.need; advance = e.advance }

abbrev entry_parts : ParserEntry → EntryHead × (Next × List Extract)
entry_parts e = (head_of e, (e.next, e.extracts))

entry_back : (states : List ParserState) (least : ℕ) (e : ParserEntry) → EntryKeeps states least e
    → HeadKeeps states least (head_of e) × ((next_is_formed (length states) e.state e.next ≡ true) × (Unit {0} × (list_all (extract_is_formed e.need) e.extracts ≡ true)))
entry_back states least e keeps =
    let p : (ltb e.state (length states) ≡ true) × (ltb e.state 256 ≡ true) × (match_is_formed (lookups_of states e.state) e ≡ true) × (ltb e.need 256 ≡ true)
    × (leb e.advance e.need ≡ true) × (next_is_formed (length states) e.state e.next ≡ true) × (ltb (length e.extracts) 256 ≡ true) × (list_all (extract_is_formed e.need) e.extracts ≡ true) =
    split8 keeps.0 in
    let m : (ltb e.mask (2 ^ 32) ≡ true) × (eqb (bit_and e.value e.mask) e.value ≡ true) × (eqb (e.mask % 2 ^ (8 * (4 - lookups_of states e.state))) 0 ≡ true) = split3 p.2 in
    let mask : e.mask < 2 ^ 32 = ltb-true e.mask (2 ^ 32) m.0 in
    let value : e.value < 2 ^ 32 = omega (arith, mask, eqb-true (bit_and e.value e.mask) e.value m.1, and_le_r e.value e.mask) in
    ((and_from (ltb e.state (length states)) (leb least e.state) p.0 keeps.1, (((value, mask), and_from _ _ m.1 m.2), p.4)), (p.5, (tt, p.7)))

entry_text : (a : EntryHead × (Next × List Extract)) → head_text a.0 ++ (spelled_next a.1.0 ++ ((length a.1.1 ∷ []) ++ flat_map spelled_extract a.1.1)) ≡ spelled_entry (entry_of_parts a)
entry_text a = refl

pub entry_codec : (states : List ParserState) (least : ℕ) → Codec (entry_at states least) spelled_entry (EntryKeeps states least) (λ _. Unit {0})
unfolding entry_at
entry_codec states least =
    codec_made entry_of_parts
    (codec_behind (head_codec states least) (λ (h : EntryHead). codec_behind (next_codec (length states) h.state) (λ _. codec_listed byte_codec (codec_list (extract_is_formed h.need) (extract_codec h.need)))))
    spelled_entry (EntryKeeps states least) (λ a r. entry_text a) (λ e keeps. (entry_parts e, refl, entry_text (entry_parts e), entry_back states least e keeps))

entries_along : (states : List ParserState) (least : ℕ) (es : List ParserEntry) → list_all (entry_is_formed states) es ≡ true → never_falls_from least (map state_of es) ≡ true → AllAlong (EntryKeeps states) state_of least es
entries_along states least [] each order = tt
entries_along states least (e ∷ es) each order =
    let p = and_parts (entry_is_formed states e) (list_all (entry_is_formed states) es) each in
    let q = and_parts (leb least e.state) (never_falls_from e.state (map state_of es)) order in
    ((p.0, q.0), entries_along states e.state es p.1 q.1)

-- a parser without tails is its states and entries
parser_whole : (p : ParserConfig) → p.tails ≡ [] → parser_of_parts (p.states, p.entries) ≡ p
parser_whole p none = ap (λ (tails : List TailOf). record p { tails = tails }) (sym none)

-- a parser whose tails are read behind it
pub parser_codec : Codec parser_at spelled_parser (λ p. (parser_is_formed p ≡ true) × (p.tails ≡ [])) (λ p. p.tails ≡ [])
unfolding parser_at
parser_codec =
    codec_made_known parser_of_parts
    (codec_behind states_codec (λ (states : List ParserState). codec_listed two_codec (codec_items state_of 0 (entry_codec states))))
    spelled_parser (λ p. (parser_is_formed p ≡ true) × (p.tails ≡ [])) (λ p. p.tails ≡ []) (λ a r. (refl, refl))
    (λ p keeps.
    let q = split3 keeps.0 in
    let r : (ltb (length p.entries) 65536 ≡ true) × (list_all (entry_is_formed p.states) p.entries ≡ true) × (never_falls_from 0 (map state_of p.entries) ≡ true) = split3 q.1 in
    ((p.states, p.entries), parser_whole p keeps.1, refl, (q.0, (ltb-true (length p.entries) 65536 r.0, entries_along p.states 0 p.entries r.1 r.2))))

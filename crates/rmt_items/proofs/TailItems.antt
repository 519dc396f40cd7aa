-- The tails of an image's parser: each is read as it is spelled.
use Rattle.std.proofs.Common.{◌≡◌, ℕ, ◌+◌, ◌*◌, ◌^◌, ◌<◌, true, ◌&&◌, ltb, leb, eqb, List, [], ◌∷◌, ◌++◌, length, map, Option, Some, None, refl, ap, ◌∙◌, arith}
use Rattle.std.specs.Prelude.{All, option_map, slice_get, unwrap_or}
use Rattle.std.specs.List.{list_all}
use Rattle.std.proofs.lemmas.Bool.{ltb-true, leb-true, and_parts, and_from}
use Rattle.std.proofs.lemmas.Option.{slice_get_within}
use Rattle.rmt_bits.proofs.AllLaws.{All-from_test, All-slice_get}
use Rattle.rmt_bits.proofs.TestLaws.{split3, split5, split7}
use Rattle.rmt_items.specs.Types.{Config, ParserState, ParserEntry, TailOf}
use Rattle.rmt_config.specs.Order.{rises_from}
use Rattle.rmt_config.specs.LaneForm.{ports_are_formed, headers_are_formed}
use Rattle.rmt_config.specs.StageForm.{stages_are_formed}
use Rattle.rmt_config.specs.ParserForm.{states_are_formed, entry_is_formed, entries_are_formed, parser_is_formed}
use Rattle.rmt_config.specs.Form.{items_are_formed}
use Rattle.rmt_config.specs.TailForm.{has_length_field, has_greatest_length, is_tail_of, tails_are_formed, tails_have_headers}
use Rattle.rmt_config.specs.Spelling.{two_bytes, spelled_list16}
use Rattle.rmt_config.specs.ImageSpelling.{spelled_tail}
use Rattle.rmt_items.specs.Readers.{at_least, below}
use Rattle.rmt_items.specs.ReadingTails.{may_have_tail, need_of, tail_entry_at, field_fits, field_at, lengths_fit, lengths_at, tail_of_parts, tail_at, next_entry, tails_at}
use Rattle.rmt_items.proofs.Codec.{Codec, codec_as, codec_for, codec_kept, codec_behind, codec_made, AllAlong, codec_items, codec_listed, byte_codec, two_codec}
use Rattle.rmt_items.proofs.Items.{codec_byte}

-- ---- a tail

abbrev EntryKeeps : List ParserEntry → ℕ → ℕ → Type 0
EntryKeeps entries least n = (n < 2 ^ 16) × ((leb least n && may_have_tail (slice_get entries n)) ≡ true)

entry_codec : (entries : List ParserEntry) (least : ℕ) → Codec (tail_entry_at entries least) two_bytes (EntryKeeps entries least) (λ _. Unit {0})
unfolding tail_entry_at
entry_codec entries least = codec_for (codec_kept (λ n. leb least n && may_have_tail (slice_get entries n)) two_codec) (EntryKeeps entries least) (λ n p. p)

abbrev FieldKeeps : ℕ → ℕ × ℕ → Type 0
FieldKeeps need x = (x.0 < 2 ^ 16) × (field_fits need x ≡ true)

field_codec : (need : ℕ) → Codec (field_at need) (λ x. two_bytes x.0 ++ x.1 ∷ []) (FieldKeeps need) (λ _. Unit {0})
unfolding field_at
field_codec need = codec_for (codec_kept (field_fits need) (codec_behind two_codec (λ _. byte_codec))) (FieldKeeps need) (λ x p. ((p.0, tt), p.1))

abbrev LengthsKeep : ℕ → ℕ × ℕ → Type 0
LengthsKeep len x = (at_least 1 x.0 ≡ true) × (lengths_fit len x ≡ true)

lengths_codec : (len : ℕ) → Codec (lengths_at len) (λ x. x.0 ∷ x.1 ∷ []) (LengthsKeep len) (λ _. Unit {0})
unfolding lengths_at
lengths_codec len = codec_for (codec_kept (lengths_fit len) (codec_behind (codec_byte (at_least 1)) (λ _. byte_codec))) (LengthsKeep len) (λ x p. ((p.0, tt), p.1))

abbrev pub TailKeeps : List ParserEntry → ℕ → ℕ → TailOf → Type 0
TailKeeps entries headers least t =
    EntryKeeps entries least t.entry
    × ((below headers t.header ≡ true) × (FieldKeeps (need_of entries t.entry) (t.from, t.len) × LengthsKeep t.len (t.unit, t.base)))

tail_codec : (entries : List ParserEntry) (headers least : ℕ) → Codec (tail_at entries headers least) spelled_tail (TailKeeps entries headers least) (λ _. Unit {0})
unfolding tail_at
tail_codec entries headers least =
    codec_made tail_of_parts
    (codec_behind (entry_codec entries least)
    (λ entry. codec_behind (codec_byte (below headers)) (λ _. codec_behind (field_codec (need_of entries entry)) (λ (field : ℕ × ℕ). lengths_codec field.1))))
    spelled_tail (TailKeeps entries headers least) (λ a r. refl) (λ t keeps. ((t.entry, (t.header, ((t.from, t.len), (t.unit, t.base)))), refl, refl, keeps))

-- ---- tails

-- tails that are read from their spelling, of some of these entries and of some of that many headers
abbrev pub TailsKeep : List ParserEntry → ℕ → List TailOf → Type 0
TailsKeep entries headers ts = ((length ts < 2 ^ 16) × (at_least 1 (length ts) ≡ true)) × AllAlong (TailKeeps entries headers) next_entry 0 ts

pub tails_codec : (entries : List ParserEntry) (headers : ℕ) → Codec (tails_at entries headers) (spelled_list16 spelled_tail) (TailsKeep entries headers) (λ ts. at_least 1 (length ts) ≡ true)
unfolding tails_at
tails_codec entries headers =
    codec_as (codec_listed (codec_kept (at_least 1) two_codec) (codec_items next_entry 0 (tail_codec entries headers))) (spelled_list16 spelled_tail)
    (TailsKeep entries headers) (λ ts. at_least 1 (length ts) ≡ true) (λ _. refl) (λ ts keep. keep) (λ ts r. r.0.1)

-- ---- tails of a configuration that keeps the rules of form

-- what is told of a tail by the entry that has its number
tail_keeps : (entries : List ParserEntry) (headers least : ℕ) (t : TailOf) → length entries < 65536 → All (λ (e : ParserEntry). e.need < 256) entries
    → (o : Option ParserEntry) → slice_get entries t.entry ≡ o → is_tail_of t o ≡ true → ltb t.header headers ≡ true → leb least t.entry ≡ true → TailKeeps entries headers least t
tail_keeps entries headers least t few needs None is formed there order = absurd cc
tail_keeps entries headers least t few needs (Some e) is formed there order =
    let p : (ltb t.header 64 ≡ true) × (has_length_field e t ≡ true) × (leb 1 t.unit ≡ true) × (ltb t.unit 256 ≡ true) × (ltb t.base 256 ≡ true) × (has_greatest_length t ≡ true) × (eqb e.advance e.need ≡ true) =
    split7 formed in
    let within : t.entry < 2 ^ 16 = omega (arith, few, slice_get_within entries t.entry e is) in
    let need : e.need < 256 = All-slice_get (λ (x : ParserEntry). x.need < 256) entries t.entry e needs is in
    let field : (leb 1 t.len ≡ true) × (leb t.len 8 ≡ true) × (leb (t.from + t.len) (8 * e.need) ≡ true) = split3 p.1 in
    let from : t.from < 2 ^ 16 = omega (arith, need, leb-true (t.from + t.len) (8 * e.need) field.2) in
    let here : may_have_tail (slice_get entries t.entry) ≡ true = ap may_have_tail is ∙ p.6 in
    let fits : field_fits (need_of entries t.entry) (t.from, t.len) ≡ true = ap (λ (x : Option ParserEntry). field_fits (unwrap_or (option_map (λ (y : ParserEntry). y.need) x) 0) (t.from, t.len)) is ∙ p.1 in
    ((within, and_from (leb least t.entry) (may_have_tail (slice_get entries t.entry)) order here), (there, ((from, fits), (p.2, p.5))))

abbrev entry_of : TailOf → ℕ
entry_of t = t.entry

tails_along : (entries : List ParserEntry) (headers least : ℕ) (ts : List TailOf) → length entries < 65536 → All (λ (e : ParserEntry). e.need < 256) entries
    → rises_from least (map entry_of ts) ≡ true → list_all (λ (t : TailOf). is_tail_of t (slice_get entries t.entry)) ts ≡ true → list_all (λ (t : TailOf). ltb t.header headers) ts ≡ true
    → AllAlong (TailKeeps entries headers) next_entry least ts
tails_along entries headers least [] few needs order each there = tt
tails_along entries headers least (t ∷ ts) few needs order each there =
    let o = and_parts (leb least t.entry) (rises_from (t.entry + 1) (map entry_of ts)) order in
    let e = and_parts (is_tail_of t (slice_get entries t.entry)) (list_all (λ (x : TailOf). is_tail_of x (slice_get entries x.entry)) ts) each in
    let h = and_parts (ltb t.header headers) (list_all (λ (x : TailOf). ltb x.header headers) ts) there in
    (tail_keeps entries headers least t few needs (slice_get entries t.entry) refl e.0 h.0 o.0, tails_along entries headers (t.entry + 1) ts few needs o.1 e.1 h.1)

need_small : (states : List ParserState) (e : ParserEntry) → entry_is_formed states e ≡ true → e.need < 256
need_small states e formed =
    ltb-true e.need 256 (and_parts _ _ (and_parts _ _ (and_parts _ _ (and_parts _ _ (and_parts _ _ formed).0).0).0).0).1

-- tails of a configuration whose parser and tails keep the rules, where there is one
pub tails_keep : (c : Config) → parser_is_formed c.parser ≡ true → tails_have_headers c ≡ true → at_least 1 (length c.parser.tails) ≡ true → TailsKeep c.parser.entries (length c.headers) c.parser.tails
tails_keep c formed there some =
    let p = split3 formed in
    let entries : (ltb (length c.parser.entries) 65536 ≡ true) × (list_all (entry_is_formed c.parser.states) c.parser.entries ≡ true) × _ = split3 p.1 in
    let t : (rises_from 0 (map entry_of c.parser.tails) ≡ true) × (ltb (length c.parser.tails) 65536 ≡ true) × (list_all (λ (t : TailOf). is_tail_of t (slice_get c.parser.entries t.entry)) c.parser.tails ≡ true) = split3 p.2 in
    let needs = All-from_test (λ (e : ParserEntry). e.need < 256) (entry_is_formed c.parser.states) (need_small c.parser.states) c.parser.entries entries.1 in (
      (ltb-true (length c.parser.tails) 65536 t.1, some),
      tails_along c.parser.entries (length c.headers) 0 c.parser.tails (ltb-true (length c.parser.entries) 65536 entries.0) needs t.0 t.2 there,
    )

-- the count of tails of a configuration that keeps the rules of its items fits its place
pub few_tails : (c : Config) → items_are_formed c ≡ true → length c.parser.tails < 2 ^ 16
few_tails c items =
    let p : (ports_are_formed c ≡ true) × (headers_are_formed c.headers ≡ true) × (parser_is_formed c.parser ≡ true) × (tails_have_headers c ≡ true) × (stages_are_formed c.stages ≡ true) = split5 items in
    let q : (states_are_formed c.parser.states ≡ true) × (entries_are_formed c.parser ≡ true) × (tails_are_formed c.parser ≡ true) = split3 p.2 in
    let t : (rises_from 0 (map entry_of c.parser.tails) ≡ true) × (ltb (length c.parser.tails) 65536 ≡ true) × (list_all (λ (t : TailOf). is_tail_of t (slice_get c.parser.entries t.entry)) c.parser.tails ≡ true) = split3 q.2 in
    ltb-true (length c.parser.tails) 65536 t.1

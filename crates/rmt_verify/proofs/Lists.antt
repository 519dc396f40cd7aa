-- The items of a map and the whole: each is read as it is spelled.
use Rattle.std.proofs.Common.{◌≡◌, ℕ, ◌+◌, ◌^◌, ◌<◌, ◌≤◌, true, List, ◌++◌, refl, append_assoc, arith, leb, ltb, rules}
use Rattle.std.proofs.lemmas.Bool.{ltb-true, leb-true}
use Rattle.rmt_bits.specs.Words.{word_size}
use Rattle.rmt_bits.proofs.TestLaws.{split4}
use Rattle.rmt_bits.proofs.WordLaws.{word_size-le}
use Rattle.rmt_config.specs.LaneForm.{lane_is_formed}
use Rattle.rmt_config.specs.Spelling.{two_bytes, spelled_list8, spelled_list16, spelled_list32, spelled_lane}
use Rattle.rmt_verify.specs.Types.{Lane}
use Rattle.rmt_verify.specs.declared.fault.MapFault.TheVariants.{Form}
use Rattle.rmt_verify.specs.Reading.{lane_of_parts, lane_at, lanes_at, join_of_parts, join_at, part_of_parts, part_at, start_at, cell_of_parts, cell_at, file_of_parts, lists_at}
use Rattle.rmt_verify.specs.Spelling.{AreLanes, CellFits, JoinFits, MapFits, PartFits, spelled_cell, spelled_join, spelled_lanes, spelled_lists, spelled_part}
use Rattle.rmt_bits.proofs.CodecLaws.{codec_as, codec_kept, codec_behind, codec_all, codec_listed}
use Rattle.rmt_verify.proofs.Codec.{Codec, codec_made, byte_codec, two_codec, four_codec}

-- ---- lanes

abbrev ThreeBytes : Lane → Type 0
ThreeBytes l = (l.word < 2 ^ 8) × ((l.low < 2 ^ 8) × (l.len < 2 ^ 8))

lane_bytes : (l : Lane) → lane_is_formed l ≡ true → ThreeBytes l
lane_bytes l e =
    let p : (ltb l.word 224 ≡ true) × (leb 1 l.len ≡ true) × (leb l.len 32 ≡ true) × (leb (l.low + l.len) (word_size l.word) ≡ true) = split4 e in
    let inside : l.low + l.len ≤ word_size l.word = leb-true (l.low + l.len) (word_size l.word) p.3 in
    (omega (arith, ltb-true l.word 224 p.0), (omega (arith, inside, word_size-le l.word), omega (arith, leb-true l.len 32 p.2)))

lane_codec : Codec lane_at spelled_lane (λ l. lane_is_formed l ≡ true)
unfolding lane_at
lane_codec =
    codec_as
    (codec_kept Form lane_is_formed
    (codec_made lane_of_parts (codec_behind byte_codec (λ _. codec_behind byte_codec (λ _. byte_codec))) spelled_lane ThreeBytes (λ a p. (refl, p)) (λ l p. ((l.word, (l.low, l.len)), refl, p))))
    spelled_lane (λ l. lane_is_formed l ≡ true) (λ l. lane_is_formed l ≡ true) (λ _. refl) (λ l e. (lane_bytes l e, e)) (λ l p. p.1)

lanes_codec : Codec lanes_at spelled_lanes AreLanes
unfolding lanes_at
lanes_codec =
    codec_as (codec_listed byte_codec (codec_all lane_codec)) spelled_lanes AreLanes AreLanes (λ _. refl) (λ ls a. (a.few, a.each)) (λ ls p. record { few = p.0; each = p.1 })

-- ---- joins, parts, starts and cells

join_codec : Codec join_at spelled_join JoinFits
unfolding join_at
join_codec =
    codec_made join_of_parts (codec_behind byte_codec (λ _. two_codec)) spelled_join JoinFits
    (λ a p. (refl, record { state = p.0; entry = p.1 })) (λ j f. ((j.state, j.entry), refl, (f.state, f.entry)))

part_codec : Codec part_at spelled_part PartFits
unfolding part_at
part_codec =
    codec_made part_of_parts (codec_behind byte_codec (λ _. codec_behind byte_codec (λ _. two_codec))) spelled_part PartFits
    (λ a p. (refl, record { node = p.0; stage = p.1.0; quanta = p.1.1 })) (λ x f. ((x.node, (x.stage, x.quanta)), refl, (f.node, (f.stage, f.quanta))))

start_codec : Codec start_at two_bytes (λ n. n < 2 ^ 16)
unfolding start_at
start_codec = two_codec

cell_codec : Codec cell_at spelled_cell CellFits
unfolding cell_at
cell_codec =
    codec_made cell_of_parts (codec_behind four_codec (λ _. codec_behind byte_codec (λ _. four_codec))) spelled_cell CellFits
    (λ a p. (refl, record { entry = p.0; stage = p.1.0; cell = p.1.1 })) (λ c f. ((c.entry, (c.stage, c.cell)), refl, (f.entry, (f.stage, f.cell))))

-- ---- all of them

text_five : (a b c d e : List ℕ) → a ++ (b ++ (c ++ (d ++ e))) ≡ a ++ b ++ c ++ d ++ e
text_five a b c d e = simp append_assoc

pub lists_codec : Codec lists_at spelled_lists MapFits
unfolding lists_at
lists_codec =
    codec_made file_of_parts
    (codec_behind (codec_listed four_codec (codec_all lanes_codec))
    (λ _. codec_behind (codec_listed two_codec (codec_all join_codec))
    (λ _. codec_behind (codec_listed two_codec (codec_all part_codec)) (λ _. codec_behind (codec_listed byte_codec (codec_all start_codec)) (λ _. codec_listed four_codec (codec_all cell_codec))))))
    spelled_lists MapFits
    (λ a p. (
      text_five (spelled_list32 spelled_lanes a.0) (spelled_list16 spelled_join a.1.0) (spelled_list16 spelled_part a.1.1.0) (spelled_list8 two_bytes a.1.1.1.0) (spelled_list32 spelled_cell a.1.1.1.1),
      search rules,
    ))
    (λ m f. (
      (m.map.places, (m.joins, (m.map.placement.parts, (m.map.starts, m.map.cells)))),
      refl,
      ((f.fields, f.each_field), ((f.joins, f.each_join), ((f.parts, f.each_part), ((f.starts, f.each_start), (f.cells, f.each_cell))))),
    ))

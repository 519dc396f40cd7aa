use Rattle.std.proofs.Common.{◌≡◌, ◌==◌, ℕ, ◌+◌, ◌*◌, ◌/◌, ◌%◌, ◌≤◌, All, List, length, sum, sym, subst, ap, ◌∙◌, arith}
use Rattle.std.specs.List.{AllZip}
use Rattle.rmt_bits.specs.Bits.{number_of, slice}
use Rattle.rmt_bits.specs.declared.lane.Lane.{Lane}
use Rattle.rmt_ast.specs.WellFormed.{Fits}
use Rattle.rmt_config.specs.PrefixRow.{PrefixRows}
use Rattle.rmt_config.proofs.CellLayouts.{up-most}
use Rattle.rmt_config.specs.Cells.{blocks_at, row_record, sram_row, ternary_content}
use Rattle.rmt_config.specs.LaneForm.{bits_of_lanes}
use Rattle.rmt_config.specs.Layouts.{entry_in, local_of, quantum_of}
use Rattle.rmt_config.specs.Rooms.{tests_as_one}
use Rattle.rmt_config.specs.BlockCounts.{divided_up}
use Rattle.rmt_config.specs.declared.config.SramRow.{SramRow}
use Rattle.rmt_config.specs.declared.form.layout.CellLayout.{CellLayout}
use Rattle.rmt_pack.specs.declared.tcam.TcamWord.{TcamWord}
use Rattle.rmt_verify.proofs.ContentLaws.{args_along, blocks_there, code_told, row_cell, row_data, row_head, ternary_all, words_along, words_told}
use Rattle.rmt_verify.proofs.cells.content.ternary_holds.Goals as goal

pub key_bits-bits-requires : goal.key_bits-bits-requires
key_bits-bits-requires c = subst (λ (ls : List Lane). bits_of_lanes ls ≤ 640) (sym c.as_slice.ensures) c.requires.fits.most_bits

pub head_of-requires-clause-head : goal.head_of-requires-clause-head
head_of-requires-clause-head c = subst (λ (l : CellLayout). 8 ≤ l.entry) (sym c.ternary_records-layout.ensures) (omega arith)

pub data_bytes-requires-clause-bits : goal.data_bytes-requires-clause-bits
data_bytes-requires-clause-bits c = subst (λ (l : CellLayout). 8 + c.args.slot.now.held ≤ l.entry) (sym c.ternary_records-layout.ensures) (omega arith)

pub tcam_row-requires : goal.tcam_row-requires
tcam_row-requires c = record { tests = c.requires.wanted.tests; widths = c.requires.wanted.narrow }

pub divided_up-requires : goal.divided_up-requires
divided_up-requires c =
    let bits = c.key_bits-bits.ensures ∙ ap bits_of_lanes c.as_slice.ensures in
    let most = c.requires.fits.most_bits in
    record { some = omega arith; fits = omega (arith, bits, most) }

pub are_words-has_key-requires : goal.are_words-has_key-requires
are_words-has_key-requires c = record {
  rows = subst PrefixRows (sym c.as_slice-3.ensures) c.requires.values;
  row = omega arith;
}

pub are_arguments-has_data-requires : goal.are_arguments-has_data-requires
are_arguments-has_data-requires c =
    let wanted = c.requires.wanted in
    let read = ap (λ (bs : List ℕ). length bs) c.deref.ensures.value in
    let params = ap sum c.as_slice-5.ensures in
    let all = wanted.all in
    let long = c.in_ok-data.ensures.long in
    let most = up-most c.args.slot.now.held 8 (omega arith) in
    let held = c.requires.fits.most_held in
    record {
      args = subst (λ (ps : List ℕ). AllZip Fits ps c.as_slice-6.result.now) (sym c.as_slice-5.ensures) (subst (λ (xs : List ℕ). AllZip Fits c.args.wanted.now.params.now xs) (sym c.as_slice-6.ensures) wanted.args);
      narrow = subst (All (λ w. w ≤ 128)) (sym c.as_slice-5.ensures) wanted.short;
      few = omega (arith, read, long, most, held);
      room = omega (arith, read, params, all, long);
    }

pub head_of-requires-clause-cell : goal.head_of-requires-clause-cell
head_of-requires-clause-cell c =
    let m = c.args.memory.now in
    row_cell c.args.stage.now c.args.slot.now m.quanta m.keys.now m.records.now c.as_slice-2.result.now c.ternary_records-layout.result c.args.wanted.now.cell c.requires.fits c.requires.rows c.as_slice-2.ensures
    c.ternary_records-layout.ensures c.requires.cell

pub data_bytes-requires-clause-cell : goal.data_bytes-requires-clause-cell
data_bytes-requires-clause-cell c =
    let m = c.args.memory.now in
    row_cell c.args.stage.now c.args.slot.now m.quanta m.keys.now m.records.now c.as_slice-2.result.now c.ternary_records-layout.result c.args.wanted.now.cell c.requires.fits c.requires.rows c.as_slice-2.ensures
    c.ternary_records-layout.ensures c.requires.cell

pub piece_at-blocks-requires : goal.piece_at-blocks-requires
piece_at-blocks-requires c =
    let size = c.divided_up.ensures ∙ ap (λ b. divided_up b 40) (c.key_bits-bits.ensures ∙ ap bits_of_lanes c.as_slice.ensures) in
    blocks_there c.args.wanted.now.cell c.args.memory.now.quanta c.divided_up.result (length c.args.memory.now.keys.now) c.requires.cell (c.requires.fits.keys ∙ ap (λ n. c.args.memory.now.quanta * n) (sym size))

pub returns : goal.returns
returns c =
    let stage = c.args.stage.now in
    let slot = c.args.slot.now in
    let e = c.args.wanted.now.entry.now in
    let cell : ℕ = c.args.wanted.now.cell in
    let d : ℕ = c.args.memory.now.quanta in
    let bits : ℕ = bits_of_lanes slot.keys in
    let sram = sram_row stage.srows in
    let ks : List ℕ = c.args.memory.now.keys.now in
    let rs : List ℕ = c.args.memory.now.records.now in
    let ws : List ℕ = c.args.wanted.now.widths.now in
    let ps : List ℕ = c.args.wanted.now.params.now in
    let l : CellLayout = c.ternary_records-layout.result in
    let stands : ℕ = row_record sram rs slot.held cell in
    let words : List TcamWord = c.in_ok-words.words in
    let blocks : List ℕ = blocks_at ks (divided_up bits 40) (cell / 2048) in
    let size : c.divided_up.result ≡ divided_up bits 40 = c.divided_up.ensures ∙ ap (λ b. divided_up b 40) (c.key_bits-bits.ensures ∙ ap bits_of_lanes c.as_slice.ensures) in
    let head_is : c.in_ok-head.head ≡ stands % 256 =
    row_head sram rs d slot.held cell c.in_ok-head.head l c.requires.cell c.ternary_records-layout.ensures
    (c.in_ok-head.ensures ∙ ap (λ (z : List SramRow). entry_in l (sram_row z) rs (quantum_of l cell) (local_of l cell) % 256) c.as_slice-2.ensures) in
    let read : number_of c.deref.result.now ≡ stands / 256 =
    ap number_of c.deref.ensures.value
    ∙ row_data sram rs d slot.held cell (number_of c.in_ok-data.data.items) l c.requires.cell c.ternary_records-layout.ensures
    (c.in_ok-data.ensures.number ∙ ap (λ (z : List SramRow). slice (entry_in l (sram_row z) rs (quantum_of l cell) (local_of l cell)) 8 slot.held) c.as_slice-2.ensures) in
    let unit_is : c.piece_at-blocks.result.now ≡ blocks = c.piece_at-blocks.ensures.value ∙ ap (λ n. blocks_at ks n (cell / 2048)) size in
    let long : length blocks ≡ divided_up (sum ws) 40 = ap (λ (z : List ℕ). length z) (sym unit_is) ∙ c.piece_at-blocks.ensures.size ∙ size ∙ ap (λ b. divided_up b 40) c.requires.bits in
    let same = words_along c.are_words-has_key.result (cell % 2048) c.as_slice-3.result.now stage.trows c.piece_at-blocks.result.now blocks c.as_slice-4.result.now words c.are_words-has_key.ensures c.as_slice-3.ensures unit_is c.as_slice-4.ensures in
    let told = words_told stage.trows (cell % 2048) blocks words (sum ws) (tests_as_one (λ t. t.value) ws e.tests) (tests_as_one (λ t. t.mask) ws e.tests) c.requires.values.within c.requires.rows.tbits long
    c.in_ok-words.ensures.values c.in_ok-words.ensures.masks c.in_ok-words.ensures.value_row c.in_ok-words.ensures.mask_row in
    ternary_all ws ps c.args.wanted.now.code e (ternary_content stage slot ks rs cell) (c.in_ok-head.head / 8 == c.args.wanted.now.code) c.are_words-has_key.result c.are_arguments-has_data.result
    (code_told c.in_ok-head.head stands c.args.wanted.now.code head_is)
    (λ yes. told.0 (same.0 yes), λ both. same.1 (told.1 both))
    (args_along c.are_arguments-has_data.result c.as_slice-5.result.now ps c.as_slice-6.result.now e.args (number_of c.deref.result.now) (stands / 256) c.are_arguments-has_data.ensures c.as_slice-5.ensures c.as_slice-6.ensures read)

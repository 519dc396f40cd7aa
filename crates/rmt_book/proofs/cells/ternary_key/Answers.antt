use Rattle.std.proofs.Common.{ℕ, List, ◌+◌, ◌*◌, ◌/◌, ◌%◌, ◌^◌, ◌<◌, ◌≤◌, length, sym, ap, ◌∙◌, subst, arith}
use Rattle.std.specs.Prelude.{All}
use Rattle.std.proofs.lemmas.List.{length-map}
use Rattle.rmt_bits.proofs.ByteLaws.{length-bytes_of}
use Rattle.rmt_config.specs.declared.config.TcamRow.{TcamRow}
use Rattle.rmt_config.specs.BlockCounts.{divided_up}
use Rattle.rmt_config.specs.Cells.{blocks_at, tcam_row}
use Rattle.rmt_config.proofs.CellLayouts.{up-enough}
use Rattle.rmt_config.proofs.PrefixRowLaws.{values-within}
use Rattle.rmt_book.proofs.KeptLaws.{bytes-few, row-kept, tcam-within, values-small}
use Rattle.rmt_book.proofs.WordLaws.{words-small}
use Rattle.rmt_book.proofs.cells.ternary_key.Goals as goal

pub piece_at-unit-requires : goal.piece_at-unit-requires
piece_at-unit-requires c = subst (λ s. (c.args.at.now.cell / 2048 + 1) * s ≤ length c.args.at.now.keys.now) (sym c.divided_up-side.ensures) c.requires.blocks

pub bytes_at-requires-clause-small : goal.bytes_at-requires-clause-small
bytes_at-requires-clause-small c =
    let rows = c.args.at.now.rows.now in
    subst (λ (ws : List ℕ). All (λ w. w < 2 ^ 40) ws) (sym (c.as_slice-value_words.ensures.value ∙ c.in_ok-compared.ensures.values))
    (words-small 40 (tcam_row (λ (t : TcamRow). t.value) rows) (c.args.at.now.cell % 2048) c.piece_at-unit.result.now (tcam-within (λ t. t.value) rows (values-small rows c.requires.rows.within c.requires.small)))

pub bytes_at-requires-2-clause-small : goal.bytes_at-requires-2-clause-small
bytes_at-requires-2-clause-small c =
    let rows = c.args.at.now.rows.now in
    subst (λ (ws : List ℕ). All (λ w. w < 2 ^ 40) ws) (sym (c.as_slice-mask_words.ensures.value ∙ c.in_ok-compared.ensures.masks))
    (words-small 40 (tcam_row (λ (t : TcamRow). t.mask) rows) (c.args.at.now.cell % 2048) c.piece_at-unit.result.now (tcam-within (λ t. t.mask) rows c.requires.small))

pub bytes_at-requires-clause-within : goal.bytes_at-requires-clause-within
bytes_at-requires-clause-within c =
    let enough = up-enough c.args.at.now.bits 40 (omega arith) in
    let count = ap (λ (ws : List ℕ). length ws) (c.as_slice-value_words.ensures.value ∙ c.in_ok-compared.ensures.values) ∙ length-map c.piece_at-unit.result.now (λ b. tcam_row (λ (t : TcamRow). t.value) c.args.at.now.rows.now b (c.args.at.now.cell % 2048)) ∙ c.piece_at-unit.ensures.size ∙ c.divided_up-side.ensures in
    omega (arith, enough, count)

pub bytes_at-requires-2-clause-within : goal.bytes_at-requires-2-clause-within
bytes_at-requires-2-clause-within c =
    let enough = up-enough c.args.at.now.bits 40 (omega arith) in
    let count = ap (λ (ws : List ℕ). length ws) (c.as_slice-mask_words.ensures.value ∙ c.in_ok-compared.ensures.masks) ∙ length-map c.piece_at-unit.result.now (λ b. tcam_row (λ (t : TcamRow). t.mask) c.args.at.now.rows.now b (c.args.at.now.cell % 2048)) ∙ c.piece_at-unit.ensures.size ∙ c.divided_up-side.ensures in
    omega (arith, enough, count)

pub returns-clause-key : goal.returns-clause-key
returns-clause-key c =
    let rows = c.args.at.now.rows.now in
    let row = c.args.at.now.cell % 2048 in
    let blocks = blocks_at c.args.at.now.keys.now (divided_up c.args.at.now.bits 40) (c.args.at.now.cell / 2048) in
    let same = c.piece_at-unit.ensures.value ∙ ap (λ s. blocks_at c.args.at.now.keys.now s (c.args.at.now.cell / 2048)) c.divided_up-side.ensures in
    let within = values-within rows row blocks c.requires.rows.within in
    row-kept (tcam_row (λ (t : TcamRow). t.value) rows) row blocks c.piece_at-unit.result.now c.as_slice-value_words.result.now c.in_ok-key.key.items c.args.at.now.bits
    (c.as_slice-value_words.ensures.value ∙ c.in_ok-compared.ensures.values) same (omega (arith, within, c.requires.ends)) c.in_ok-key.ensures

pub returns-clause-mask : goal.returns-clause-mask
returns-clause-mask c =
    let rows = c.args.at.now.rows.now in
    let blocks = blocks_at c.args.at.now.keys.now (divided_up c.args.at.now.bits 40) (c.args.at.now.cell / 2048) in
    let same = c.piece_at-unit.ensures.value ∙ ap (λ s. blocks_at c.args.at.now.keys.now s (c.args.at.now.cell / 2048)) c.divided_up-side.ensures in
    row-kept (tcam_row (λ (t : TcamRow). t.mask) rows) (c.args.at.now.cell % 2048) blocks c.piece_at-unit.result.now c.as_slice-mask_words.result.now c.in_ok-mask.mask.items c.args.at.now.bits
    (c.as_slice-mask_words.ensures.value ∙ c.in_ok-compared.ensures.masks) same c.requires.ends c.in_ok-mask.ensures

pub invariant_of-result-clause-key_short : goal.invariant_of-result-clause-key_short
invariant_of-result-clause-key_short c = bytes-few c.args.at.now.bits _ c.in_ok-key.key.items c.in_ok-key.ensures (omega arith)

pub invariant_of-result-clause-mask_short : goal.invariant_of-result-clause-mask_short
invariant_of-result-clause-mask_short c = bytes-few c.args.at.now.bits _ c.in_ok-mask.mask.items c.in_ok-mask.ensures (omega arith)

pub returns-clause-key_size : goal.returns-clause-key_size
returns-clause-key_size c = ap (λ (bs : List ℕ). length bs) c.in_ok-key.ensures ∙ length-bytes_of (divided_up c.args.at.now.bits 8) _

pub returns-clause-mask_size : goal.returns-clause-mask_size
returns-clause-mask_size c = ap (λ (bs : List ℕ). length bs) c.in_ok-mask.ensures ∙ length-bytes_of (divided_up c.args.at.now.bits 8) _

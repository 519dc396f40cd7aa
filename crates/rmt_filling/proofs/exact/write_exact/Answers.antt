use Rattle.std.proofs.Common.{◌≡◌, ℕ, ◌+◌, ◌*◌, ◌^◌, ◌<◌, List, length, ap, sym, subst, ◌∙◌, arith}
use Rattle.std.specs.Prelude.{sum}
use Rattle.rmt_filling.specs.Types.{Test}
use Rattle.rmt_bits.specs.Bits.{bytes_of, number_of}
use Rattle.rmt_config.specs.BlockCounts.{divided_up}
use Rattle.rmt_pack.specs.Cells.{PutsEntry, PutsRecord}
use Rattle.rmt_pack.specs.Rows.{blocks_of}
use Rattle.rmt_config.specs.Rooms.{args_as_one, tests_as_one}
use Rattle.rmt_filling.specs.Holding.{head_for}
use Rattle.rmt_filling.proofs.EntryLaws.{data-small, key-number, tests_value-lt}
use Rattle.rmt_filling.proofs.exact.write_exact.Goals as goal
use Rattle.rmt_bits.proofs.ByteLaws.{length-bytes_of}

pub write_cell-requires-clause-key : goal.write_cell-requires-clause-key
write_cell-requires-clause-key c =
    let k = tests_as_one (λ (t : Test). t.value) c.args.widths.now c.args.placed.now.entry.now.tests in
    ap length (c.as_slice-3.ensures.value ∙ c.in_ok-key.ensures.bytes ∙ ap (λ (us : List Test). bytes_of (divided_up (sum c.args.widths.now) 8) (tests_as_one (λ (u : Test). u.value) c.args.widths.now us)) c.as_slice.ensures) ∙ length-bytes_of (divided_up (sum c.args.widths.now) 8) k ∙ ap (λ n. divided_up n 8) (sym c.requires.key)

pub write_cell-requires-clause-small : goal.write_cell-requires-clause-small
write_cell-requires-clause-small c =
    let ws = c.args.widths.now in
    let ts = c.args.placed.now.entry.now.tests in
    let same : number_of c.as_slice-3.result.now ≡ tests_as_one (λ (t : Test). t.value) ws ts =
    ap number_of (c.as_slice-3.ensures.value ∙ c.in_ok-key.ensures.bytes ∙ ap (λ (us : List Test). bytes_of (divided_up (sum c.args.widths.now) 8) (tests_as_one (λ (u : Test). u.value) c.args.widths.now us)) c.as_slice.ensures) ∙ key-number ws ts c.requires.tests in
    subst (λ n. n < 2 ^ c.args.shape.now.key) (sym same) (subst (λ n. tests_as_one (λ (t : Test). t.value) ws ts < 2 ^ n) (sym c.requires.key) (tests_value-lt ws ts c.requires.tests))

pub write_record-requires-clause-small : goal.write_record-requires-clause-small
write_record-requires-clause-small c =
    let d = args_as_one c.args.placed.now.params.now c.args.placed.now.entry.now.args in
    let once : 2 ^ 0 * d ≡ d = omega arith in
    let same : number_of c.as_slice-4.result.now ≡ d = ap number_of c.as_slice-4.ensures.value ∙ c.in_ok-held.ensures.number ∙ ap (λ (vs : List ℕ). 2 ^ 0 * args_as_one c.args.placed.now.params.now vs) c.as_slice-2.ensures ∙ once in
    subst (λ n. n < 2 ^ c.args.shape.now.held) (sym same) (data-small c.args.placed.now.params.now c.args.placed.now.entry.now.args c.args.shape.now.held c.requires.args c.requires.held)

pub returns : goal.returns
returns c =
    let ws = c.args.widths.now in
    let ts = c.args.placed.now.entry.now.tests in
    let k = tests_as_one (λ (t : Test). t.value) ws ts in
    let d = args_as_one c.args.placed.now.params.now c.args.placed.now.entry.now.args in
    let old = blocks_of c.args.sram.now in
    let mid = blocks_of c.write_cell.new.rows in
    let new = blocks_of c.write_record.new.rows in
    let once : 2 ^ 0 * d ≡ d = omega arith in
    let key : number_of c.as_slice-3.result.now ≡ k = ap number_of (c.as_slice-3.ensures.value ∙ c.in_ok-key.ensures.bytes ∙ ap (λ (us : List Test). bytes_of (divided_up (sum c.args.widths.now) 8) (tests_as_one (λ (u : Test). u.value) c.args.widths.now us)) c.as_slice.ensures) ∙ key-number ws ts c.requires.tests in
    let held : number_of c.as_slice-4.result.now ≡ d = ap number_of c.as_slice-4.ensures.value ∙ c.in_ok-held.ensures.number ∙ ap (λ (vs : List ℕ). 2 ^ 0 * args_as_one c.args.placed.now.params.now vs) c.as_slice-2.ensures ∙ once in
    record {
      mid = mid;
      entry = subst (λ n. PutsEntry old mid c.args.shape.now c.args.cell (head_for c.args.placed.now.code + 256 * n)) key c.write_cell.ensures.bits;
      record_is = subst (PutsRecord mid new c.args.shape.now c.args.cell) held c.write_record.ensures.bits;
    }

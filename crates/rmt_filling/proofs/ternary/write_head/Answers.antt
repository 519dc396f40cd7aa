use Rattle.std.proofs.Common.{◌≡◌, ℕ, ◌+◌, ◌*◌, ◌^◌, ◌<◌, ◌≤◌, ◌-◌, List, ap, sym, subst, ◌∙◌, arith}
use Rattle.std.specs.Prelude.{sum}
use Rattle.rmt_bits.specs.Bits.{number_of}
use Rattle.rmt_pack.specs.Cells.{PutsRecord}
use Rattle.rmt_pack.specs.Rows.{blocks_of}
use Rattle.rmt_config.specs.Rooms.{args_as_one}
use Rattle.rmt_filling.specs.Holding.{head_for}
use Rattle.rmt_filling.proofs.EntryLaws.{above-lt, data-small}
use Rattle.rmt_filling.proofs.ternary.write_head.Goals as goal

pub write_record-requires-clause-small : goal.write_record-requires-clause-small
write_record-requires-clause-small c =
    let d = args_as_one c.args.placed.now.params.now c.args.placed.now.entry.now.args in
    let held = c.args.shape.now.held in
    let same : number_of c.as_slice-2.result.now ≡ head_for c.args.placed.now.code + 256 * d = ap number_of c.as_slice-2.ensures.value ∙ c.in_ok-held.ensures.value ∙ ap (λ (vs : List ℕ). head_for c.args.placed.now.code + 256 * args_as_one c.args.placed.now.params.now vs) c.as_slice.ensures in
    let rest : sum c.args.placed.now.params.now ≤ held - 8 = let le = c.requires.held in omega (arith, le) in
    let back : held - 8 + 8 ≡ held = let le = c.requires.held in omega (arith, le) in
    subst (λ n. n < 2 ^ held) (sym same)
    (subst (λ n. head_for c.args.placed.now.code + 256 * d < 2 ^ n) back (above-lt c.args.placed.now.code d (held - 8) c.requires.code (data-small c.args.placed.now.params.now c.args.placed.now.entry.now.args (held - 8) c.requires.args rest)))

pub returns : goal.returns
returns c =
    let d = args_as_one c.args.placed.now.params.now c.args.placed.now.entry.now.args in
    let same : number_of c.as_slice-2.result.now ≡ head_for c.args.placed.now.code + 256 * d = ap number_of c.as_slice-2.ensures.value ∙ c.in_ok-held.ensures.value ∙ ap (λ (vs : List ℕ). head_for c.args.placed.now.code + 256 * args_as_one c.args.placed.now.params.now vs) c.as_slice.ensures in
    subst (PutsRecord (blocks_of c.args.sram.now) (blocks_of c.write_record.new.rows) c.args.shape.now c.args.cell) same c.write_record.ensures.bits

use Rattle.std.proofs.Common.{◌≢◌, ℕ, ◌<◌, List, take, drop, ap, ◌∙◌, sym, subst}
use Rattle.std.specs.Prelude.{All, AllPairs}
use Rattle.rmt_bits.proofs.AllLaws.{All-right}
use Rattle.rmt_bits.proofs.PairLaws.{AllPairs-right}
use Rattle.rmt_config.specs.BlockCounts.{record_width}
use Rattle.rmt_pack.proofs.record.record_blocks.Goals as goal

pub blocks_from-requires-clause-in_sram : goal.blocks_from-requires-clause-in_sram
blocks_from-requires-clause-in_sram c =
    let s = c.args.shape.now in
    subst (All (λ block. block < 106)) (sym c.as_slice.ensures) (All-right (λ (block : ℕ). block < 106) s.keys s.records c.requires.shape.in_sram)

pub blocks_from-requires-clause-apart : goal.blocks_from-requires-clause-apart
blocks_from-requires-clause-apart c =
    let s = c.args.shape.now in
    subst (AllPairs ◌≢◌) (sym c.as_slice.ensures) (AllPairs-right ◌≢◌ s.keys s.records c.requires.shape.apart)

pub returns-clause-part : goal.returns-clause-part
returns-clause-part c =
    c.blocks_from.ensures.part ∙ ap (λ w. take w (drop c.args.first c.as_slice.result.now)) c.record_width.ensures.value
    ∙ ap (λ (xs : List ℕ). take (record_width c.args.shape.now.held) (drop c.args.first xs)) c.as_slice.ensures

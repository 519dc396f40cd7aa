use Rattle.std.proofs.Common.{◌≡◌, ◌≢◌, ℕ, ◌+◌, ◌-◌, ◌<◌, length, take, drop, subst, arith}
use Rattle.std.specs.Prelude.{All, AllPairs}
use Rattle.rmt_pack.proofs.BlockLaws.{part-length, part-all, part-apart}
use Rattle.rmt_pack.proofs.spots.blocks_from.Goals as goal

pub returns-clause-many : goal.returns-clause-many
returns-clause-many c =
    let e : c.args.many ≡ c.args.first + c.args.many - c.args.first = omega arith in
    subst (λ n. length (take n (drop c.args.first c.args.blocks.now)) ≡ c.args.many) e
    (part-length c.args.many c.args.first c.args.blocks.now c.requires.there)

pub returns-clause-in_sram : goal.returns-clause-in_sram
returns-clause-in_sram c =
    let e : c.args.many ≡ c.args.first + c.args.many - c.args.first = omega arith in
    subst (λ n. All (λ block. block < 106) (take n (drop c.args.first c.args.blocks.now))) e
    (part-all (λ (block : ℕ). block < 106) c.args.many c.args.first c.args.blocks.now c.requires.in_sram)

pub returns-clause-apart : goal.returns-clause-apart
returns-clause-apart c =
    let e : c.args.many ≡ c.args.first + c.args.many - c.args.first = omega arith in
    subst (λ n. AllPairs ◌≢◌ (take n (drop c.args.first c.args.blocks.now))) e
    (part-apart c.args.many c.args.first c.args.blocks.now c.requires.apart)

use Rattle.std.proofs.Common.{true, false}
use Rattle.std.specs.Prelude.{sum}
use Rattle.std.proofs.lemmas.List.{drop_all}
use Rattle.rmt_config.specs.BlockCounts.{divided_up}
use Rattle.rmt_config.proofs.KeyListLaws.{parts-more, parts-none, parts-stop}
use Rattle.rmt_config.proofs.SpelledTable.{exact-at, part-added}
use Rattle.rmt_config.proofs.form.names.exact.parts_keys.Goals as goal

pub part_keys-requires : goal.part_keys-requires
part_keys-requires c = record {
  stands = (exact-at c.args.of.now c.requires.stands c.requires.kind c.loop-part.part-index c.part-item.result c.loop-part-test.true c.part-item.is).stands;
  kind = (exact-at c.args.of.now c.requires.stands c.requires.kind c.loop-part.part-index c.part-item.result c.loop-part-test.true c.part-item.is).kind;
  ways = (exact-at c.args.of.now c.requires.stands c.requires.kind c.loop-part.part-index c.part-item.result c.loop-part-test.true c.part-item.is).ways;
}

pub returns-then-not-branch : goal.returns-then-not-branch
returns-then-not-branch c =
    let of = c.args.of.now in
    let here = part-added of c.requires.stands c.requires.kind c.loop-part.part-index c.part-item.result c.loop-part-test.true c.part-item.is c.args.whole c.loop-part.into.items c.part_keys.new.into.items _ false c.if-not-branch.true c.in_ok-part_keys.ensures in
    c.loop-part.invariant _ false (parts-stop c.args.whole of.config.now (divided_up (sum of.table.now.keys) 8) of.parts.now c.loop-part.part-index c.part-item.result c.loop-part-test.true c.part-item.is _ _ here)

pub loop-part-preserved : goal.loop-part-preserved
loop-part-preserved c new stand h =
    let of = c.args.of.now in
    let here = part-added of c.requires.stands c.requires.kind c.loop-part.part-index c.part-item.result c.loop-part-test.true c.part-item.is c.args.whole c.loop-part.into.items c.part_keys.new.into.items _ true c.if-not-branch.false c.in_ok-part_keys.ensures in
    c.loop-part.invariant new stand (parts-more c.args.whole of.config.now (divided_up (sum of.table.now.keys) 8) of.parts.now c.loop-part.part-index c.part-item.result c.loop-part-test.true c.part-item.is _ _ new stand here h)

pub returns : goal.returns
returns c =
    let of = c.args.of.now in
    let i = c.loop-part.part-index in
    c.loop-part.invariant c.loop-part.into.items true
    (parts-none c.args.whole of.config.now (divided_up (sum of.table.now.keys) 8) of.parts.now i c.loop-part.into.items (drop_all i of.parts.now c.loop-part-test.false))

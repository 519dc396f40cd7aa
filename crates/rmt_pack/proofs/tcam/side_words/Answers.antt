use Rattle.std.proofs.Common.{◌≡◌, ℕ, suc, ◌-◌, ◌<◌, length, drop, subst, arith}
use Rattle.std.specs.Prelude.{sum}
use Rattle.std.proofs.lemmas.List.Elements.{length_all_zip}
use Rattle.rmt_ast.specs.WellFormed.{Fits}
use Rattle.rmt_config.specs.Rooms.{side_by_side}
use Rattle.rmt_pack.specs.Tcam.{Holds}
use Rattle.rmt_pack.proofs.TcamLaws.{gather-next, words_of_all}
use Rattle.rmt_pack.proofs.tcam.side_words.Goals as goal

pub loop-at-preserved : goal.loop-at-preserved
loop-at-preserved c =
    let l = c.loop-at in
    let ws = c.args.widths.now in
    let vs = c.args.values.now in
    let i = l.at - 1 in
    let at : l.at ≡ suc i = omega arith in
    let there : i < length ws = omega (arith, l.invariant.within) in
    let also : i < length vs = omega (arith, length_all_zip Fits ws vs c.requires.fit) in
    record {
      within = omega (arith, l.invariant.within);
      holds = gather-next c.add.new.self ws vs l.at i at there also (c.in_ok-add.ensures.holds (side_by_side (drop l.at ws) (drop l.at vs)) (sum (drop l.at ws)) l.invariant.holds);
    }

pub returns : goal.returns
returns c =
    let l = c.loop-at in
    let ws = c.args.widths.now in
    let vs = c.args.values.now in
    let none : l.at ≡ 0 = omega arith in
    words_of_all c.into_words.result l.gathered (side_by_side ws vs) (sum ws) c.into_words.ensures
    (subst (λ (k : ℕ). Holds l.gathered (side_by_side (drop k ws) (drop k vs)) (sum (drop k ws))) none l.invariant.holds)

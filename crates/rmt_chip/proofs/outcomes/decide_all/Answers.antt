use Rattle.std.proofs.Common.{◌≡◌, ◌<◌, ap, sym, ◌∙◌, subst, List, length, get_or, fold, arith}
use Rattle.std.proofs.lemmas.List.{take_all}
use Rattle.rmt_bits.proofs.ListLaws.{slice_get-item}
use Rattle.rmt_chip.specs.Types.{Unit}
use Rattle.rmt_config.specs.Life.{unit_acts}
use Rattle.rmt_chip.specs.Ran.{HaveDone}
use Rattle.rmt_chip.proofs.DecidingLaws.{before_all, upto_more}
use Rattle.rmt_chip.proofs.outcomes.decide_all.Goals as goal

pub loop-i-preserved : goal.loop-i-preserved
loop-i-preserved c =
    let units = c.args.stage.now.units in
    let same = c.as_slice-units.ensures in
    let i = c.loop-i.i in
    let unit = c.index-units-i.result in
    let inside : i < length units = rw same at c.loop-i-test.true in
    let at : get_or units i unit ≡ unit = sym (c.index-units-i.is ∙ ap (λ (us : List Unit). get_or us i unit) same) in
    let was = c.loop-i.invariant in
    let d = c.decide_unit-base in
    let within : i < length c.args.looked.now = omega arith in
    let one = (slice_get-item c.args.looked.now i within).0 in
    record {
      all_nodes = omega arith;
      room = omega arith;
      spare = d.ensures.spare ∙ was.spare;
      few = omega arith;
      small = omega arith;
      so_far = λ look k words read. upto_more look k words c.args.stage.now c.args.looked.now c.args.bytes c.args.counters.now.counts i c.args.outcomes.now
          c.loop-i.outcomes c.loop-i.running.items c.loop-i.counters.counts c.loop-i.base unit one d.new.outcomes d.new.running.items d.new.counters.counts d.result
          read inside at (λ acts here low done. d.ensures.done look k c.args.stage.now words one c.args.counters.now.counts acts here low done) d.ensures.next (was.so_far look k words read);
    }

pub returns-clause-done : goal.returns-clause-done
returns-clause-done c = λ look k words read.
    let all = take_all c.loop-i.i c.args.stage.now.units (let end = ap (λ (us : List Unit). length us) c.as_slice-units.ensures in omega arith) in
    subst (λ (us : List Unit). HaveDone c.args.stage.now c.args.looked.now c.args.bytes c.args.counters.now.counts (fold (unit_acts look k c.args.stage.now words) (before_all c.args.outcomes.now) us) c.loop-i.outcomes c.loop-i.running.items c.loop-i.counters.counts) all
    (c.loop-i.invariant.so_far look k words read).done

use Rattle.std.proofs.Common.{◌<◌, ap, sym, subst, ℕ, List, length, get_or, arith}
use Rattle.std.specs.Prelude.{slice_index}
use Rattle.rmt_chip.specs.Types.{Unit}
use Rattle.rmt_memory.specs.Looked.{HasRoom, LookedFor}
use Rattle.rmt_memory.specs.Memory.{MemoryFits, UnitHeld}
use Rattle.rmt_chip.specs.Looks.{LooksAt}
use Rattle.rmt_memory.specs.declared.memory.SlotMemory.{SlotMemory}
use Rattle.rmt_chip.proofs.LookLaws.{room_kept, looked_more}
use Rattle.rmt_memory.proofs.StageMemoriesLaws.{item_at}
use Rattle.rmt_chip.proofs.keys.look_all.Goals as goal

pub look_unit-requires-clause-fits : goal.look_unit-requires-clause-fits
look_unit-requires-clause-fits c =
    let unit = c.index-units-at.result in
    let memory = c.index-memories-at.result in
    let (inside, at) = item_at c.args.stage.now.units c.as_slice-units.result.now c.loop-at.at unit c.as_slice-units.ensures c.loop-at-test.true c.index-units-at.is in
    subst (λ (u : Unit). MemoryFits u memory) at
    (subst (λ (m : SlotMemory). MemoryFits (get_or c.args.stage.now.units c.loop-at.at unit) m) (sym c.index-memories-at.is) (c.requires.fit.each c.loop-at.at unit memory inside))

pub loop-at-preserved : goal.loop-at-preserved
loop-at-preserved c =
    let units = c.args.stage.now.units in
    let i = c.loop-at.at in
    let unit = c.index-units-at.result in
    let (inside, at) = item_at units c.as_slice-units.result.now i unit c.as_slice-units.ensures c.loop-at-test.true c.index-units-at.is in
    let memory = c.index-memories-at.result in
    let was = c.loop-at.invariant in
    let new = c.look_unit.new.into in
    let words = λ (w : ℕ). slice_index c.args.vector.now w in
    let room : HasRoom (get_or units i unit) new = subst (λ (u : Unit). HasRoom u new) (sym at) c.look_unit.ensures.room in
    let within : i < length c.loop-at.into = subst (λ (n : ℕ). i < n) (sym was.room.all_units) inside in
    record {
      room = room_kept c.args.stage.now c.loop-at.into i new unit inside room was.room;
      so_far = λ cells look k held seed looks.
          let sight = c.args.sight in
          let here = c.look_unit.ensures.looked cells look k i
          (subst (λ (u : Unit). UnitHeld cells k i u memory) at (subst (λ (m : SlotMemory). UnitHeld cells k i (get_or units i unit) m) (sym c.index-memories-at.is) (held i unit memory inside))) seed
          (subst (λ (u : Unit). LooksAt sight.named sight.version cells look k i u) at (looks i unit inside)) in
          looked_more look k words units c.loop-at.into i new unit inside within (subst (λ (u : Unit). LookedFor look k i words u new) (sym at) here) (was.so_far cells look k held seed looks);
    }

pub returns-clause-looked : goal.returns-clause-looked
returns-clause-looked c = λ cells look k held seed looks.
    let end = ap (λ (us : List Unit). length us) c.as_slice-units.ensures in
    record {
      all_units = c.loop-at.invariant.room.all_units;
      each = λ i u d lt. c.loop-at.invariant.so_far cells look k held seed looks i u d (omega arith);
    }

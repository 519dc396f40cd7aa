-- One changed cell after another.
use Rattle.std.proofs.Common.{◌≡◌, ◌+◌, ◌<◌, ◌≤◌, ◌++◌, List, Some, take, drop, arith, refl, sym, subst}
use Rattle.std.specs.Prelude.{length, map, slice_get}
use Rattle.std.proofs.lemmas.List.{take_all}
use Rattle.std.proofs.lemmas.Option.{slice_get_within}
use Rattle.rmt_bits.proofs.AllLaws.{All-slice_get}
use Rattle.rmt_bits.proofs.ListLaws.{slice_get-seen}
use Rattle.rmt_io.proofs.OutsideLaws.{only_printed_trans}
use Rattle.rmt_config.specs.declared.cell_write.CellWrite.{CellWrite}
use Rattle.rmt_config.specs.declared.config.Config.{Config}
use Rattle.rmt_config.specs.RunInputs.{Input, Writes}
use Rattle.rmt_chip.specs.Inputs.{packets_of}
use Rattle.rmt_chip.specs.Stands.{entered_of, spare_of}
use Rattle.rmt_memory.specs.Writable.{IsTaken}
use Rattle.rmt_drive.specs.ChipText.{lines_of}
use Rattle.rmt_runs.specs.Cuts.{Cut}
use Rattle.rmt_drive.specs.ChipCycles.{Goes}
use Rattle.rmt_drive.proofs.LineLaws.{prints_later}
use Rattle.rmt_drive.proofs.TurnLaws.{few_numbered}
use Rattle.rmt_drive.proofs.WaitLaws.{none_in_writes, packets-append, write_more, writes_parted}
use Rattle.rmt_drive.proofs.running.changing.write_cells.Goals as goal

pub turn-requires-clause-may : goal.turn-requires-clause-may
turn-requires-clause-may g c =
    let i = c.loop-write.invariant in
    let xs = c.args.writes.now in
    let n = c.loop-write.write-index in
    let w = c.write-item.result in
    let s = c.requires.goes in
    let go = i.goes s.0 s.1 s.2 s.3 s.4 in
    let at : slice_get xs n ≡ Some w = slice_get-seen xs xs n w refl c.loop-write-test.true c.write-item.is in
    let taken : IsTaken s.1.stages w = All-slice_get (IsTaken s.1.stages) xs n w s.5 at in
    let lt : n < length xs = slice_get_within xs n w at in (
      subst (λ (d : Config). IsTaken d.stages w) (sym go.stands.config_is) taken,
      omega (arith, lt, c.requires.room, i.spare),
    )

pub turn-requires-clause-answered : goal.turn-requires-clause-answered
turn-requires-clause-answered g c =
    let i = c.loop-write.invariant in
    let s = c.requires.goes in
    let go = i.goes s.0 s.1 s.2 s.3 s.4 in
    let some = take c.loop-write.write-index c.args.writes.now in
    let was : entered_of c.args.chip.now ≡ packets_of s.2 = s.4.stands.entered_is in
    let is : entered_of c.loop-write.chip ≡ packets_of (s.2 ++ map Writes some) = go.stands.entered_is in
    let same = packets-append s.2 (map Writes some) in
    let none = none_in_writes some in
    omega (arith, few_numbered go, was, is, same, none, c.requires.entered)

pub returns-in-Err-clause-cut : goal.returns-in-Err-clause-cut
returns-in-Err-clause-cut g c = λ w k made before h.
    let xs = c.args.writes.now in
    let n = c.loop-write.write-index in
    let x = c.write-item.result in
    let go = c.loop-write.invariant.goes w k made before h in
    let at : slice_get xs n ≡ Some x = slice_get-seen xs xs n x refl c.loop-write-test.true c.write-item.is in (
      map Writes (take (n + 1) xs),
      map Writes (drop (n + 1) xs),
      writes_parted xs (n + 1),
      subst (λ (l : List Input). Cut (lines_of w k l) before (g.O.Sink.state c.turn.new.out) c.in-Err.fault) (write_more made xs n x at) (c.in-Err.ensures.cut w k (made ++ map Writes (take n xs)) before go),
    )

pub returns-in-Err-clause-prints : goal.returns-in-Err-clause-prints
returns-in-Err-clause-prints g c = prints_later c.loop-write.invariant.only_printed c.in-Err.ensures.prints

pub loop-write-preserved : goal.loop-write-preserved
loop-write-preserved g c =
    let i = c.loop-write.invariant in
    let xs = c.args.writes.now in
    let n = c.loop-write.write-index in
    let x = c.write-item.result in
    let at : slice_get xs n ≡ Some x = slice_get-seen xs xs n x refl c.loop-write-test.true c.write-item.is in
    let fall : spare_of c.loop-write.chip ≤ spare_of c.turn.new.chip + 1 = c.turn.ensures.spare in
    record {
      goes = λ w k made before h.
          subst (λ (l : List Input). Goes w k l c.turn.new.run c.turn.new.chip before (g.O.Sink.state c.turn.new.out)) (write_more made xs n x at)
          (c.in-Ok.ensures.ok w k (made ++ map Writes (take n xs)) before (i.goes w k made before h));
      cycles = omega (arith, i.cycles, c.in-Ok.ensures.cycles);
      spare = omega (arith, i.spare, fall);
      only_printed = only_printed_trans i.only_printed c.turn.ensures.prints.only_printed;
    }

pub returns-clause-ok : goal.returns-clause-ok
returns-clause-ok g c = λ w k made before h.
    let xs = c.args.writes.now in
    subst (λ (ws : List CellWrite). Goes w k (made ++ map Writes ws) c.loop-write.run c.loop-write.chip before (g.O.Sink.state c.loop-write.out)) (take_all c.loop-write.write-index xs c.loop-write-test.false)
    (c.loop-write.invariant.goes w k made before h)

use Rattle.std.proofs.Common.{All, ap, arith, length, subst, ◌∙◌}
use Rattle.std.specs.Prelude.{Contains}
use Rattle.std.proofs.lemmas.Slice.Zip.{AllZip-long}
use Rattle.rmt_cuckoo.specs.Loading.{candidates}
use Rattle.rmt_cuckoo.specs.Told.{Explains}
use Rattle.rmt_filling.specs.EntryCells.{IsLoadedAt, StandOnce}
use Rattle.rmt_cuckoo.proofs.LoadLaws.{members_few}
use Rattle.rmt_filling.proofs.keys.load_exact.Goals as goal

pub as_loaded-requires-clause-few : goal.as_loaded-requires-clause-few
as_loaded-requires-clause-few c =
    let long = AllZip-long (λ key cell. Contains (candidates c.args.layout.now c.args.seed key) cell) c.args.keys.now c.in-Ok.cells c.in-Ok.ensures.loaded.stand in
    omega (arith, long, ap length c.as_slice.ensures, c.requires.few_keys)

pub overflow_cast-result : goal.overflow_cast-result
overflow_cast-result c =
    let full = subst (Explains c.args.layout.now c.args.seed c.args.keys.now) c.in-Err-Overfull.field-0-is c.in-Err-Overfull.ensures.fault in
    omega (arith, members_few c.args.layout.now c.args.seed c.args.keys.now c.in-Err-Overfull.members c.in-Err-Overfull.cells full, ap length c.in-Err-Overfull.members-is)

pub returns-in_ok-stands-in-Ok : goal.returns-in_ok-stands-in-Ok
returns-in_ok-stands-in-Ok c =
    let own = c.in_ok-stands-in-Ok.stands in
    let long = AllZip-long (λ key cell. Contains (candidates c.args.layout.now c.args.seed key) cell) c.args.keys.now c.in-Ok.cells c.in-Ok.ensures.loaded.stand in (
      c.in-Ok.cells,
      c.in-Ok.ensures.loaded,
      subst (λ n. StandOnce n own) (ap length c.as_slice.ensures ∙ long) c.in_ok-stands-in-Ok.ensures.once,
      subst (λ ns. All (IsLoadedAt ns) own) c.as_slice.ensures c.in_ok-stands-in-Ok.ensures.cells,
    )

use Rattle.std.proofs.Common.{List, map, sym, subst}
use Rattle.rmt_chip_tests.specs.declared.cells.Kept.{Kept as KeptOf}
use Rattle.rmt_cells.specs.Stands.{Stands}
use Rattle.rmt_chip_tests.proofs.cells.run.Goals as goal

pub all_read-requires : goal.all_read-requires
all_read-requires g c = (
  c.args.count,
  subst (λ (kept : List KeptOf). Stands c.args.count (map (λ (k : KeptOf). record { chain = k.chain; bytes = k.bytes.items }) kept) c.act.new.cells)
      (sym c.as_slice.ensures.value) (c.in_ok-act.ensures c.args.count c.loop-step.invariant),
)

use Rattle.std.proofs.Common.{All, ap, subst, sym, ◌∙◌}
use Rattle.std.specs.Prelude.{sum}
use Rattle.rmt_config.specs.PartsTold.{parts_at}
use Rattle.rmt_verify.specs.TableKnown.{PartKnown}
use Rattle.rmt_verify.proofs.cells.table.table_holds.Goals as goal

pub all_hold-requires : goal.all_hold-requires
all_hold-requires c =
    let at = c.args.at.now in
    let are = ap parts_at c.as_slice.ensures.value ∙ c.in_ok-parts.ensures in
    record {
      known = c.requires.known;
      all = are;
      parts = subst (All (PartKnown at.config.now at.table.now (sum at.widths.now))) (sym are) c.requires.parts;
      told = c.requires.told;
    }

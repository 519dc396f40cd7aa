use Rattle.std.proofs.Common.{◌≤◌, ℕ, List, sym, subst}
use Rattle.std.specs.Prelude.{All}
use Rattle.rmt_book.proofs.NamedLaws.{keys-low}
use Rattle.rmt_book.proofs.told.entry_told.Goals as goal

pub tests_of-requires-clause-widths : goal.tests_of-requires-clause-widths
tests_of-requires-clause-widths c = subst (λ (ws : List ℕ). All (λ w. w ≤ 128) ws) (sym c.as_slice-widths.ensures) (keys-low c.args.table.now c.requires)

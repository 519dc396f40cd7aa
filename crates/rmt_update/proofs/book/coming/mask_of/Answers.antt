use Rattle.std.proofs.Common.{ℕ, ◌≤◌, List, subst, sym}
use Rattle.std.specs.Prelude.{All}
use Rattle.rmt_update.proofs.ComingLaws.{mask-whole}
use Rattle.rmt_book.proofs.NamedLaws.{keys-low}
use Rattle.rmt_update.proofs.book.coming.mask_of.Goals as goal

pub tests_bytes-requires-clause-narrow : goal.tests_bytes-requires-clause-narrow
tests_bytes-requires-clause-narrow c = subst (λ (ws : List ℕ). All (λ w. w ≤ 128) ws) (sym c.as_slice.ensures) (keys-low c.args.table.now c.requires.formed)

pub returns-in-Exact-clause-number : goal.returns-in-Exact-clause-number
returns-in-Exact-clause-number c = rw c.in-Exact.is (mask-whole c.args.table.now c.args.entry.now c.requires.entry c.in-Exact.is)

use Rattle.std.proofs.Common.{ℕ, List, ◌∷◌, map, sym, subst}
use Rattle.rmt_chip_tests.specs.declared.cells.Kept.{Kept as KeptOf}
use Rattle.rmt_cells.specs.Stands.{Stands}
use Rattle.rmt_chip_tests.proofs.cells.put.Goals as goal

pub returns-in_ok-insert-in-Ok : goal.returns-in_ok-insert-in-Ok
returns-in_ok-insert-in-Ok c =
    λ count stands.
    let now = c.in-Ok.ensures.stands count _ stands in
    subst (λ (kept : List KeptOf). Stands count (map (λ (k : KeptOf). record { chain = k.chain; bytes = k.bytes.items }) kept) c.put.new.self) (sym c.in_ok-insert-in-Ok.ensures.items)
    (subst (λ (bytes : List ℕ). Stands count (record { chain = c.in-Ok.chain; bytes = bytes } ∷ map (λ (k : KeptOf). record { chain = k.chain; bytes = k.bytes.items }) c.args.kept.now.items) c.put.new.self) c.as_slice.ensures.value now)

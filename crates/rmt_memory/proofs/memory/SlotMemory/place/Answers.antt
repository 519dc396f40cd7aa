use Rattle.std.proofs.Common.{◌≡◌, ◌*◌, ◌≤◌, length, eqb, true, None, sym, ◌∙◌, subst, rules}
use Rattle.std.specs.Prelude.{nat_le}
use Rattle.std.proofs.lemmas.Bool.{and_parts, eqb-true, leb-true}
use Rattle.rmt_memory.specs.declared.keys.Keys.{Keys}
use Rattle.rmt_memory.specs.declared.keys.Keys.TheVariants.{InCells}
use Rattle.rmt_memory.specs.KeysWithin.{keys_within}
use Rattle.rmt_memory.specs.Memories.{PlacesIn}
use Rattle.rmt_memory.proofs.MarkLaws.{unmarked}
use Rattle.rmt_memory.proofs.memory.SlotMemory.place.Goals as goal

pub returns-then-not-may_have-clause-place : goal.returns-then-not-may_have-clause-place
returns-then-not-may_have-clause-place c =
    let m = c.args.self.now in
    let key = c.args.key.now in
    let ways = c.in-InCells.ways in
    let within : keys_within (InCells ways) m.key_size m.stored m.cells.count ≡ true = subst (λ (ks : Keys). keys_within ks m.key_size m.stored m.cells.count ≡ true) c.in-InCells.is m.within in
    let parts = and_parts (eqb m.stored m.key_size) (nat_le (4 * ways.rows * ways.per) m.cells.count) within in
    let size : m.stored ≡ length key = eqb-true m.stored m.key_size parts.0 ∙ sym c.requires.key in
    let few : 4 * ways.rows * ways.per ≤ m.cells.count = leb-true (4 * ways.rows * ways.per) m.cells.count parts.1 in
    subst (λ (ks : Keys). PlacesIn m ks c.args.seed c.args.sight key None) (sym c.in-InCells.is)
    (unmarked ways m.cells m.stored c.args.seed c.args.sight m.marks.words.items key m.marked size few (c.may_have.ensures (search rules)))

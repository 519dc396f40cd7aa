use Rattle.std.proofs.Common.{◌≡◌, ◌+◌, ◌++◌, ◌∷◌, List, [], length, take, sym, ap, ◌∙◌, subst, arith}
use Rattle.std.specs.List.{AllZip}
use Rattle.std.proofs.lemmas.List.{length-map, take_all}
use Rattle.rmt_config.specs.Rooms.{PartAt, parts_of}
use Rattle.rmt_book.specs.declared.table.PartCells.{PartCells}
use Rattle.rmt_book.specs.Listed.{IsListed}
use Rattle.rmt_config.specs.PartsTold.{part_at, parts_at}
use Rattle.rmt_book.proofs.ToldEntryLaws.{PartFacts, facts-at, parts-next}
use Rattle.rmt_book.proofs.table.cells_of.Goals as goal
use Rattle.rmt_book.proofs.table.cells_of.Goals.{After-part-item}

-- what is known of the part at hand
facts : (c : After-part-item) → PartFacts c.args.config.now c.args.table.now (part_at c.part-item.result)
facts c =
    facts-at c.args.config.now c.args.table.now c.requires.items c.requires.memory c.requires.has c.requires.bits c.as_slice-part-items.result.now
    (ap parts_at c.as_slice-part-items.ensures.value ∙ c.in_ok-found.ensures) c.loop-part.part-index c.part-item.result c.loop-part-test.true c.part-item.is

pub part_cells-requires-clause-stands : goal.part_cells-requires-clause-stands
part_cells-requires-clause-stands c = (facts (goal.at.part_cells-requires-clause-stands c).After-part-item).stands

pub part_cells-requires-clause-kind : goal.part_cells-requires-clause-kind
part_cells-requires-clause-kind c = (facts (goal.at.part_cells-requires-clause-kind c).After-part-item).kind

pub part_cells-requires-clause-bits : goal.part_cells-requires-clause-bits
part_cells-requires-clause-bits c = (facts (goal.at.part_cells-requires-clause-bits c).After-part-item).bits

pub part_cells-requires-clause-ways : goal.part_cells-requires-clause-ways
part_cells-requires-clause-ways c = (facts (goal.at.part_cells-requires-clause-ways c).After-part-item).ways

pub loop-part-preserved : goal.loop-part-preserved
loop-part-preserved c =
    let config = c.args.config.now in
    let table = c.args.table.now in
    let grown : c.push.new.self.items ≡ c.loop-part.parts.items ++ c.in_ok-part_cells.field-0 ∷ [] = c.in_ok-push.ensures.items in
    subst (λ (xs : List PartCells). AllZip (IsListed config table) (take (c.loop-part.part-index + 1) (parts_of config table.node)) xs) (sym grown)
    (parts-next config table c.as_slice-part-items.result.now (ap parts_at c.as_slice-part-items.ensures.value ∙ c.in_ok-found.ensures) c.loop-part.part-index c.part-item.result
    c.in_ok-part_cells.field-0 c.loop-part.parts.items c.loop-part-test.true c.part-item.is c.loop-part.invariant c.in_ok-part_cells.ensures)

pub returns : goal.returns
returns c =
    let config = c.args.config.now in
    let table = c.args.table.now in
    let found = c.as_slice-part-items.result.now in
    let all = ap (λ (ps : List PartAt). length ps) (ap parts_at c.as_slice-part-items.ensures.value ∙ c.in_ok-found.ensures) in
    let long = length-map found part_at in
    let past = c.loop-part-test.false in
    subst (λ (ps : List PartAt). AllZip (IsListed config table) ps c.loop-part.parts.items)
    (take_all c.loop-part.part-index (parts_of config table.node) (omega (arith, past, all, long))) c.loop-part.invariant

use Rattle.std.proofs.Common.{◌∙◌, true≢false, All, refl, sym, subst, arith}
use Rattle.std.specs.Prelude.{sum}
use Rattle.std.proofs.lemmas.List.{take_all}
use Rattle.std.proofs.lemmas.List.Elements.{All-map, All-more}
use Rattle.rmt_bits.proofs.AllLaws.{All-unmap}
use Rattle.rmt_config.specs.Rooms.{PartAt}
use Rattle.rmt_config.specs.declared.form.names.part_list.Part.{Part}
use Rattle.rmt_verify.specs.CellsHeld.{CellHeld}
use Rattle.rmt_config.specs.PartsTold.{part_at}
use Rattle.rmt_verify.specs.TableKnown.{PartKnown}
use Rattle.rmt_verify.proofs.cells.table.parts_hold.Goals as goal

pub part_holds-requires-clause-part : goal.part_holds-requires-clause-part
part_holds-requires-clause-part c =
    let at = c.args.at.now in
    let K = PartKnown at.config.now at.table.now (sum at.widths.now) in
    let x = c.part-item.result in
    subst (λ (y : Part). K (part_at y)) (sym c.part-item.is) (All-unmap K part_at c.args.parts.now c.requires.parts c.loop-part.part-index x c.loop-part-test.true)

pub returns-then-not-branch : goal.returns-then-not-branch
returns-then-not-branch c = λ cells told. (
  λ no. absurd (true≢false (sym no)),
  λ all. absurd (
      let at = c.args.at.now in
      let x = c.part-item.result in
      let here = All-unmap (λ (y : PartAt). All (CellHeld at.program.now at.config.now cells at.table.now at.entries.now y) y.slot.numbers) part_at c.args.parts.now all c.loop-part.part-index x c.loop-part-test.true in
      let yes = (c.in_ok-part_holds.ensures cells told).1 (subst (λ (y : Part). All (CellHeld at.program.now at.config.now cells at.table.now at.entries.now (part_at y)) y.slot.now.numbers) (sym c.part-item.is) here) in
      true≢false (sym yes ∙ c.if-not-branch.true)),
)

pub loop-part-preserved : goal.loop-part-preserved
loop-part-preserved c = λ cells told.
    (let at = c.args.at.now in
    All-more (λ (y : Part). All (CellHeld at.program.now at.config.now cells at.table.now at.entries.now (part_at y)) y.slot.now.numbers) c.args.parts.now c.loop-part.part-index c.part-item.result
    c.loop-part-test.true (c.loop-part.invariant cells told)
    (subst (λ (y : Part). All (CellHeld at.program.now at.config.now cells at.table.now at.entries.now (part_at y)) y.slot.now.numbers) c.part-item.is ((c.in_ok-part_holds.ensures cells told).0 c.if-not-branch.false)))

pub returns : goal.returns
returns c = λ cells told. (
  λ yes.
      (let at = c.args.at.now in
      let i = c.loop-part.part-index in
      All-map (λ (y : PartAt). All (CellHeld at.program.now at.config.now cells at.table.now at.entries.now y) y.slot.numbers) part_at c.args.parts.now
      (subst (All (λ (y : Part). All (CellHeld at.program.now at.config.now cells at.table.now at.entries.now (part_at y)) y.slot.now.numbers)) (take_all i c.args.parts.now (omega (arith, c.loop-part-test.false)))
      (c.loop-part.invariant cells told))),
  λ all. refl,
)

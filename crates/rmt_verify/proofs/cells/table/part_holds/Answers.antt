use Rattle.std.proofs.Common.{◌∙◌, true≢false, ◌≡◌, ◌<◌, ◌≤◌, List, All, length, get_or, refl, sym, ap, subst, arith, rules}
use Rattle.std.proofs.lemmas.Grind.{common_steps}
use Rattle.std.proofs.lemmas.List.{take_all}
use Rattle.std.proofs.lemmas.List.Elements.{All-more}
use Rattle.rmt_refine.specs.Types.{CellNumber}
use Rattle.rmt_verify.specs.CellsHeld.{CellHeld}
use Rattle.rmt_config.specs.PartsTold.{part_at}
use Rattle.rmt_verify.proofs.cells.table.part_holds.Goals as goal

abbrev none : CellNumber
none = record { cell = 0; number = 0 }

pub cell_holds-requires : goal.cell_holds-requires
cell_holds-requires c = record { known = record { its_table = c.requires.known; its_part = c.requires.part; listed = first_of (search rules, grind (arith, common_steps)) } }

pub returns-then-not-branch : goal.returns-then-not-branch
returns-then-not-branch c = λ cells told. (
  λ no. absurd (true≢false (sym no)),
  λ all. absurd (
      let at = c.args.at.now in
      let P = CellHeld at.program.now at.config.now cells at.table.now at.entries.now (part_at c.args.part.now) in
      let numbers = c.args.part.now.slot.now.numbers in
      let i = c.loop-own.own-index in
      let lt : i < length numbers = subst (λ (ns : List CellNumber). i < length ns) c.as_slice-own-items.ensures c.loop-own-test.true in
      let is : get_or c.as_slice-own-items.result.now i none ≡ get_or numbers i none = ap (λ (ns : List CellNumber). get_or ns i none) c.as_slice-own-items.ensures in
      let yes = (c.in_ok-cell_holds.ensures cells told).1 (subst P (sym is) (all i none lt)) in
      true≢false (sym yes ∙ c.if-not-branch.true)),
)

pub loop-own-preserved : goal.loop-own-preserved
loop-own-preserved c = λ cells told.
    (let at = c.args.at.now in
    let P = CellHeld at.program.now at.config.now cells at.table.now at.entries.now (part_at c.args.part.now) in
    let numbers = c.args.part.now.slot.now.numbers in
    let i = c.loop-own.own-index in
    let lt : i < length numbers = subst (λ (ns : List CellNumber). i < length ns) c.as_slice-own-items.ensures c.loop-own-test.true in
    let is : get_or c.as_slice-own-items.result.now i none ≡ get_or numbers i none = ap (λ (ns : List CellNumber). get_or ns i none) c.as_slice-own-items.ensures in
    All-more P numbers i none lt (c.loop-own.invariant cells told) (subst P is ((c.in_ok-cell_holds.ensures cells told).0 c.if-not-branch.false)))

pub returns : goal.returns
returns c = λ cells told. (
  λ yes.
      (let at = c.args.at.now in
      let numbers = c.args.part.now.slot.now.numbers in
      let i = c.loop-own.own-index in
      let le : length numbers ≤ i = subst (λ (ns : List CellNumber). length ns ≤ i) c.as_slice-own-items.ensures (omega (arith, c.loop-own-test.false)) in
      subst (All (CellHeld at.program.now at.config.now cells at.table.now at.entries.now (part_at c.args.part.now))) (take_all i numbers le) (c.loop-own.invariant cells told)),
  λ all. refl,
)

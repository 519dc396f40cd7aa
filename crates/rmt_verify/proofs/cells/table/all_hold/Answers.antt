use Rattle.std.proofs.Common.{true≢false, ◌≡◌, ◌∙◌, refl, sym}
use Rattle.rmt_config.specs.PartsTold.{listed_numbers, parts_at}
use Rattle.rmt_verify.proofs.TableHeldLaws.{all_listed, each_held, numbers_there, table_told}
use Rattle.rmt_verify.proofs.cells.table.all_hold.Goals as goal

pub returns-then-not-branch : goal.returns-then-not-branch
returns-then-not-branch c = λ cells told. (
  λ no. absurd (true≢false (sym no)),
  λ held. absurd (
      let at = c.args.at.now in
      let parts = parts_at c.args.parts.now in
      let yes = (c.in_ok-parts_hold.ensures cells told).1
      (each_held at.program.now at.config.now cells at.node at.table.now at.entries.now parts (listed_numbers parts) c.requires.all refl held) in
      true≢false (sym yes ∙ c.if-not-branch.true)),
)

pub returns-then-numbers-at : goal.returns-then-numbers-at
returns-then-numbers-at c =
    let at = c.args.at.now in
    let numbers_are = c.as_slice-numbers.ensures.value ∙ c.in_ok-numbers.ensures in
    λ cells told. (
      λ no. absurd (true≢false (sym no)),
      λ held. absurd (c.if-numbers-at.true (all_listed at.program.now at.config.now cells at.node at.table.now at.entries.now (parts_at c.args.parts.now) c.as_slice-numbers.result.now
          c.requires.all numbers_are held)),
    )

pub keep_order-requires-clause-there : goal.keep_order-requires-clause-there
keep_order-requires-clause-there c =
    let at = c.args.at.now in
    let parts = parts_at c.args.parts.now in
    let told = c.requires.told in
    numbers_there at.program.now at.config.now told.0 at.node at.table.now at.entries.now parts c.as_slice-numbers.result.now c.requires.all
    (c.as_slice-numbers.ensures.value ∙ c.in_ok-numbers.ensures) ((c.in_ok-parts_hold.ensures told.0 told.1).0 c.if-not-branch.false)

pub returns : goal.returns
returns c = λ cells told.
    (let at = c.args.at.now in
    let parts = parts_at c.args.parts.now in
    let numbers_are : c.as_slice-numbers.result.now ≡ c.in_ok-numbers.numbers.items = c.as_slice-numbers.ensures.value in
    table_told at.program.now at.config.now cells at.node at.table.now at.entries.now parts c.as_slice-numbers.result.now c.requires.all
    (numbers_are ∙ c.in_ok-numbers.ensures) c.keep_order.result ((c.in_ok-parts_hold.ensures cells told).0 c.if-not-branch.false) c.if-numbers-at.false c.keep_order.ensures)

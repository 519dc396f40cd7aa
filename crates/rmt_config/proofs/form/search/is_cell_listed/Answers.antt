use Rattle.std.proofs.Common.{◌∙◌}
use Rattle.std.proofs.lemmas.Bool.{le-ltb}
use Rattle.rmt_config.specs.Types.{CellNumber}
use Rattle.rmt_config.proofs.RiseLaws.{listed-by_search, listed-past}
use Rattle.rmt_config.proofs.form.search.is_cell_listed.Goals as goal

pub returns-then-at-numbers : goal.returns-then-at-numbers
returns-then-at-numbers c =
    listed-by_search (λ (n : CellNumber). n.cell) c.args.cell c.args.numbers.now c.first_near-at.result _ c.requires c.if-at-numbers.true
    c.first_near-at.ensures.below c.first_near-at.ensures.above

pub returns-else-at-numbers : goal.returns-else-at-numbers
returns-else-at-numbers c =
    le-ltb _ _ c.if-at-numbers.false
    ∙ listed-past (λ (n : CellNumber). n.cell) c.args.cell c.args.numbers.now c.first_near-at.result c.if-at-numbers.false c.first_near-at.ensures.below

use Rattle.std.proofs.Common.{◌+◌, ◌&&◌, drop, sym, ap, ◌∙◌}
use Rattle.rmt_config.specs.declared.form.names.prefix_rows.Row.{Row}
use Rattle.rmt_config.specs.NamesForm.{each_later}
use Rattle.rmt_config.specs.PrefixRows.{row_goes_first}
use Rattle.rmt_config.proofs.PrefixOrder.{first-on}
use Rattle.rmt_config.proofs.SpelledOrder.{later-at, later-last}
use Rattle.rmt_config.proofs.form.names.prefix_rows.are_in_order.Goals as goal
use Rattle.rmt_config.proofs.form.names.prefix_rows.are_in_order.Goals.{else-at-rows-via-then-at-rows+else-not-goes_first, else-at-rows-via-else-at-rows}

pub loop-at-preserved : goal.loop-at-preserved
loop-at-preserved c =
    let rows = c.args.rows.now in
    let first = row_goes_first c.args.bits in
    let i = c.loop-at.at in
    let none : Row = record { key = 0; mask = 0; number = 0 } in
    elim c.else-at-rows.branch [
      | else-at-rows-via-then-at-rows+else-not-goes_first w ↦
          sym (later-at first (first-on c.args.bits) rows i none w.if-at-rows.true
          ∙ ap (λ b. b && each_later first (drop (i + 1) rows)) (sym w.goes_first.ensures ∙ w.if-not-goes_first.false))
          ∙ c.loop-at.invariant
      | else-at-rows-via-else-at-rows w ↦ sym (later-last first rows i none c.loop-at-test.true w.if-at-rows.false) ∙ c.loop-at.invariant
    ]

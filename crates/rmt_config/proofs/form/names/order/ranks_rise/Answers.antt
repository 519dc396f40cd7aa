use Rattle.std.proofs.Common.{◌+◌, ◌&&◌, drop, sym, ap, ◌∙◌}
use Rattle.rmt_ast.specs.declared.names.RankOf.{RankOf}
use Rattle.rmt_ast.specs.Naming.{stands_first}
use Rattle.rmt_config.specs.NamesForm.{each_later}
use Rattle.rmt_config.proofs.SpelledOrder.{later-at, later-last, stands-on}
use Rattle.rmt_config.proofs.form.names.order.ranks_rise.Goals as goal
use Rattle.rmt_config.proofs.form.names.order.ranks_rise.Goals.{else-at-ranks-via-then-at-ranks+else-not-goes_before, else-at-ranks-via-else-at-ranks}

pub loop-at-preserved : goal.loop-at-preserved
loop-at-preserved c =
    let ranks = c.args.ranks.now in
    let i = c.loop-at.at in
    let none : RankOf = record { number = 0; rank = 0 } in
    elim c.else-at-ranks.branch [
      | else-at-ranks-via-then-at-ranks+else-not-goes_before w ↦
          sym (later-at stands_first stands-on ranks i none w.if-at-ranks.true
          ∙ ap (λ b. b && each_later stands_first (drop (i + 1) ranks)) (sym w.goes_before.ensures ∙ w.if-not-goes_before.false))
          ∙ c.loop-at.invariant
      | else-at-ranks-via-else-at-ranks w ↦ sym (later-last stands_first ranks i none c.loop-at-test.true w.if-at-ranks.false) ∙ c.loop-at.invariant
    ]

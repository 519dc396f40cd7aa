use Rattle.std.proofs.Common.{None}
use Rattle.rmt_vliw.specs.declared.value.Value.{Value}
use Rattle.rmt_vliw.proofs.FoldLaws.{replaced_here, replaced_not}
use Rattle.rmt_vliw.proofs.value.replace.Goals as goal
use Rattle.rmt_vliw.proofs.value.replace.Goals.{then-value-field, else-value-field}

abbrev no_value : Value
no_value = record { field = 0; expr = None }

pub loop-value-preserved : goal.loop-value-preserved
loop-value-preserved c =
    let l = c.loop-value in
    elim c.if-value-field.branch [
      | then-value-field w ↦ replaced_here c.args.field c.args.expr c.args.values.now l.values c.if-value-field.values l.value-index no_value c.loop-value-test.true l.invariant w.if-value-field.true w.values-is
      | else-value-field w ↦ replaced_not c.args.field c.args.expr c.args.values.now l.values c.if-value-field.values l.value-index no_value c.loop-value-test.true l.invariant w.if-value-field.false w.values-is
    ]

use Rattle.std.proofs.Common.{Bool, sym, ◌∙◌}
use Rattle.std.specs.Prelude.{slice_get}
use Rattle.rmt_config.specs.TailForm.{is_tail_of}
use Rattle.rmt_config.specs.declared.config.TailOf.{TailOf}
use Rattle.rmt_config.proofs.RowForm.{all_done, all_step, all_stop}
use Rattle.rmt_config.proofs.form.tails.each_tail_fits.Goals as goal

pub returns-then-not-tail_fits : goal.returns-then-not-tail_fits
returns-then-not-tail_fits c =
    let fits : TailOf → Bool = λ (t : TailOf). is_tail_of t (slice_get c.args.entries.now t.entry) in
    all_stop fits c.args.tails.now c.loop-tail.tail-index (record { entry = 0; header = 0; from = 0; len = 0; unit = 0; base = 0 }) _ c.loop-tail-test.true (sym c.tail_fits.ensures ∙ c.if-not-tail_fits.true) c.loop-tail.invariant

pub loop-tail-preserved : goal.loop-tail-preserved
loop-tail-preserved c =
    let fits : TailOf → Bool = λ (t : TailOf). is_tail_of t (slice_get c.args.entries.now t.entry) in
    all_step fits c.args.tails.now c.loop-tail.tail-index (record { entry = 0; header = 0; from = 0; len = 0; unit = 0; base = 0 }) _ c.loop-tail-test.true (sym c.tail_fits.ensures ∙ c.if-not-tail_fits.false) c.loop-tail.invariant

pub returns : goal.returns
returns c = all_done (λ (t : TailOf). is_tail_of t (slice_get c.args.entries.now t.entry)) c.args.tails.now c.loop-tail.tail-index _ c.loop-tail-test.false c.loop-tail.invariant

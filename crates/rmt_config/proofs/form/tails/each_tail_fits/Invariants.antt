use Rattle.std.proofs.Common.{◌≡◌, drop}
use Rattle.std.specs.List.{list_all}
use Rattle.std.specs.Prelude.{slice_get}
use Rattle.rmt_config.specs.TailForm.{is_tail_of}
use Rattle.rmt_config.specs.declared.config.TailOf.{TailOf}
use Rattle.rmt_config.proofs.form.tails.each_tail_fits.Given as goal

abbrev pub invariant-loop-tail : goal.invariant-loop-tail
invariant-loop-tail l = list_all (λ (t : TailOf). is_tail_of t (slice_get l.entries t.entry)) (drop l.tail-index l.tails) ≡ list_all (λ (t : TailOf). is_tail_of t (slice_get l.entries t.entry)) l.tails

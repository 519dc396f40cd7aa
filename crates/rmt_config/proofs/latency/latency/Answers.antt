use Rattle.std.proofs.Common.{◌+◌, ◌-◌, length, ap, sym, ◌∙◌, arith}
use Rattle.std.proofs.lemmas.Option.{get_or_from_slice_get, slice_get_within}
use Rattle.rmt_config.specs.declared.config.Stage.{Stage}
use Rattle.rmt_config.proofs.RunLaws.{latency_last}
use Rattle.rmt_config.proofs.latency.latency.Goals as goal

pub returns-in-Some : goal.returns-in-Some
returns-in-Some c =
    let stages = c.args.stages.now in
    let s = c.in-Some.stage.now in
    let found = sym c.in-Some.ensures.value in
    let inside = slice_get_within stages (length stages - 1) s found in
    sym (latency_last stages s (omega arith) ∙ ap (λ (x : Stage). x.start + 12) (get_or_from_slice_get stages (length stages - 1) s s found))

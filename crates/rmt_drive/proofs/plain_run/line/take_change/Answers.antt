-- The change is made, or its line has a code.
use Rattle.std.proofs.Common.{◌≡◌, ℕ, Result, Err, refl, ap}
use Rattle.rmt_lists.specs.Running.{Running, line_change}
use Rattle.rmt_lists.specs.Stands.{Stands}
use Rattle.rmt_drive.specs.EventText.{with_change}
use Rattle.rmt_drive.proofs.FaultLaws.{of_refusal}
use Rattle.rmt_drive.proofs.PlainRunLaws.{goes_changed, goes_still}
use Rattle.rmt_drive.proofs.plain_run.line.take_change.Goals as goal

pub change-requires-clause-stands : goal.change-requires-clause-stands
change-requires-clause-stands c = let h = c.requires.goes in (h.2.run, h.5.stands)

pub returns-in-Ok-clause-ok : goal.returns-in-Ok-clause-ok
returns-in-Ok-clause-ok c = λ p lists said number before now h.
    goes_changed p lists said c.args.run.now _ before now number c.args.line.now h (c.in-Ok.ensures.changed said.run h.stands) refl refl refl

pub returns-in-Err-Refused-clause-ok : goal.returns-in-Err-Refused-clause-ok
returns-in-Err-Refused-clause-ok c = λ p lists said number before now h.
    let text = c.args.line.now in
    let says = of_refusal (λ k. (r : Running) → Stands r c.args.run.now.lists → line_change r text ≡ Err k) c.in-Err-Refused.field-0 c.in-Err-Refused.code c.in-Err-Refused.field-0-is c.in-Err-Refused.ensures.fault in (
      ap (λ (o : Result Running ℕ). with_change number text o said) (says said.run h.stands),
      goes_still p lists said c.args.run.now _ before now h (c.in-Err-Refused.ensures.kept said.run h.stands) refl refl refl,
    )

-- The change is made, or its line has a code.
use Rattle.std.proofs.Common.{◌≡◌, ℕ, Option, Result, Err, refl, ap, subst, ◌∙◌}
use Rattle.rmt_lists.specs.Running.{Running, line_change}
use Rattle.rmt_lists.specs.Stands.{Stands}
use Rattle.rmt_drive.specs.declared.running.commits.Commits.{Commits}
use Rattle.rmt_drive.specs.EventText.{with_change}
use Rattle.rmt_drive.specs.Running.{Follows}
use Rattle.rmt_drive.proofs.FaultLaws.{of_refusal}
use Rattle.rmt_drive.proofs.FollowsLaws.{follows_change, has_names, no_names, not_packet, of_change, of_none, stops_by}
use Rattle.rmt_drive.proofs.running.line.take_change.Goals as goal

pub returns-in-None-clause-ok : goal.returns-in-None-clause-ok
returns-in-None-clause-ok c = λ w k said number run before now kind f.
    let text = c.args.line.now in
    let chip = c.args.chip.now in
    stops_by w k number text said 4 run chip c.args.commits.now before now f
    (of_none k number text said (not_packet text kind) (no_names k (c.in-Ok.ensures.unnamed c.in-None.is k f.made f.goes.stands)))

pub returns-in-Ok-change-clause-ok : goal.returns-in-Ok-change-clause-ok
returns-in-Ok-change-clause-ok c = λ w k said number run before now kind f.
    let chip = c.args.chip.now in
    let h = subst (λ (o : Option Commits). Follows w k said run chip o before now) c.in-Some.is (c.in-Ok.ensures.goes w k said run before now f) in
    follows_change w k number c.args.line.now said run chip c.in-Some.commits (record { lists = c.change.new.self; book = c.in-Some.commits.book }) before now kind (c.in-Ok-change.ensures.changed said.run h.come.knows.2) refl h

pub returns-in-Err-Refused-clause-ok : goal.returns-in-Err-Refused-clause-ok
returns-in-Err-Refused-clause-ok c = λ w k said number run before now kind f.
    let text = c.args.line.now in
    let chip = c.args.chip.now in
    let h = subst (λ (o : Option Commits). Follows w k said run chip o before now) c.in-Some.is (c.in-Ok.ensures.goes w k said run before now f) in
    let says = of_refusal (λ n. (r : Running) → Stands r c.in-Some.commits.lists → line_change r text ≡ Err n) c.in-Err-Refused.field-0 c.in-Err-Refused.code c.in-Err-Refused.field-0-is c.in-Err-Refused.ensures.fault in
    stops_by w k number text said c.in-Err-Refused.code run chip c.args.commits.now before now f
    (of_change k number text said kind (has_names k said h.state c.in-Some.commits h.come.knows) ∙ ap (λ (o : Result Running ℕ). with_change number text o said) (says said.run h.come.knows.2))

pub change-requires-clause-stands : goal.change-requires-clause-stands
change-requires-clause-stands c =
    let r = c.requires.follows in
    let f = c.in-Ok.ensures.goes r.0 r.1 r.2 r.3 r.4 r.5 r.6 in
    let h = subst (λ (o : Option Commits). Follows r.0 r.1 r.2 r.3 c.args.chip.now o r.4 r.5) c.in-Some.is f in
    (r.2.run, h.come.knows.2)

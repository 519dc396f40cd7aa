use Rattle.std.proofs.Common.{List, ap₂, ◌∙◌}
use Rattle.std.specs.List.{flat_map}
use Rattle.rmt_check.specs.Parts.{ActionText, AssignText}
use Rattle.rmt_check.specs.Rules.{earliest, unknown_assign}
use Rattle.rmt_check.proofs.rules.unknown.UnknownInAssignTryFlawActionText.at.Goals as goal

pub returns : goal.returns
returns g c =
    let s = g.N.Lookup.text c.args.names.now in
    c.earliest_with.ensures ∙ ap₂ (λ (a : ActionText) (xs : List AssignText). earliest (flat_map (unknown_assign s a) xs)) c.in_ok-own.ensures.names c.as_slice-assigns.ensures
